-- Definitions for evaluated leaves: the marks that a search leaves, and the bounds that follow.
pub mod Marks
pub mod Engine
unfoldable pub use Marks.{mark_all}
pub use Marks.{mark, marked, ones}
pub use Engine.Bounds.{bound_of, leaf_bounds}
pub use Engine.Evaluable.{Evaluable}
pub use Engine.Evaluations.{progress_of, SameBuffers}
pub use Engine.Progress.{Progress, progress, evaluate_all, Listable}
unfoldable pub use Engine.Ranges.{best_in}
