-- Definitions: what a reader of the contract has to believe.
pub mod Rule
pub mod Answer
pub mod Engine
pub use Rule.{cap, least_of, least_count}
pub use Answer.{check22, check23, least_rejection, least_answer}
unfoldable pub use Engine.Ruled.{ruled}
pub use Engine.Ruled.{count_row, count_row_of, count_rows}
