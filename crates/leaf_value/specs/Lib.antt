-- Definitions for the smallest value of a leaf that gives the root a wanted value.
pub mod LeastValue
pub mod Engine
pub mod Results
unfoldable pub use LeastValue.{root_score, first_from, smallest, least_value}
pub use LeastValue.{check19, check20, answer_for, value_rejection}
pub use Engine.Candidates.{first_score, score_count, reaches, held_reaches, candidate, as_option}
pub use Results.Root.{root_value, SameBut, held_value}
pub use Results.Cases.{cases}
