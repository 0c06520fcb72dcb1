-- Definitions for grafting: the tree of a second table in place of a leaf of a first.
pub mod Sources
pub mod Table
pub mod Outcome
pub mod Engine
pub mod Results
unfoldable pub use Sources.{root_for, base, child_sources, breadth_first}
pub use Sources.{known_sources, sources}
unfoldable pub use Table.{frame_at, laid_frames}
pub use Table.{first_number, renumbered, source_at, graft_table}
pub use Outcome.{graft_outcome}
pub use Engine.Joined.{Joined, SourceIn}
pub use Engine.Queue.{with_first, Queued}
unfoldable pub use Results.Grafted.{valuation_from}
pub use Results.Grafted.{graft_tree, graft_value, handed}
unfoldable pub use Results.Cases.{chain_to}
pub use Results.Cases.{pair, buffer, given, refused, far, values}
