-- Definitions for flags that are read off arrays: building blocks and proofs are stated with them, and nothing else.
pub mod Engine
unfoldable pub use Engine.Chosen.{first_equal}
pub use Engine.Chosen.{bounds_by_side, chosen_child}
pub use Engine.Flags.{movers_flag, child_flag, FlagsFrom}
