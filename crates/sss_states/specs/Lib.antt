-- Definitions for the states of SSS* and their front.
pub mod Entry
pub mod Engine
pub use Entry.{entry, status_of, blank}
pub use Engine.Fronts.{FrontFits, SameFront}
unfoldable pub use Engine.Kept.{stored, leftmost_best, refreshed, descended}
pub use Engine.Kept.{
  best_at,
  link_at,
  packed_entry,
  arrays_of,
  Sound,
  Fits,
  chosen_by_side,
  chosen_of,
  renewed,
  needs_refresh,
}
pub use Engine.Kept.{Refreshed, changed, changed_list, Puttable}
pub use Engine.Putting.{Local, Putting}
pub use Engine.Shown.{Arrays, state_at, Below, Listed, Above, Leads, Shows, listed, expanded, Siblings, none, one, more}
pub use Engine.Shown.{Beside, only, first, later, Around, top, child, BestFound}
