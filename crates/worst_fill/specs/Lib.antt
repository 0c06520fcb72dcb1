-- Definitions for the worst-case filling: the table of a shape in which alpha-beta evaluates every leaf.
pub mod Ranks
pub mod Outcome
pub mod Engine
pub mod Results
unfoldable pub use Ranks.{with_rank, worst_fill}
pub use Ranks.{ranked, ranked_children}
pub use Outcome.{fill_outcome}
pub use Engine.Fillable.{Fillable, nth_child}
pub use Results.Filled.{handed, LeafBelow}
pub use Results.Cases.{given, refused}
