-- Definitions of the plain engine over a table.
pub mod Outcome
pub mod Engine
pub use Outcome.{all_leaves, plain_found, plain_outcome}
pub use Engine.Ready.{turn_position, Ready}
