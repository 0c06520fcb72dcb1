-- Definitions for searches over a table: what their buffers hold, and what they give.
pub mod Search
pub mod Engine
pub mod Results
pub use Search.{search_rejection, marks_of, flags_of, listed}
pub use Engine.Searchable.{Unmarked, Searchable}
pub use Results.Cases.{result_of, cases}
