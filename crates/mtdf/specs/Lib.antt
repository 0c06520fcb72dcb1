-- No definitions that a reader has to believe.
pub mod Engine
pub use Engine.Settling.{mtdf_leaves, MetAt, MovedTo, Settles}
