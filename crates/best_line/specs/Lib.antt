-- Definitions for the best line of play.
pub mod Line
pub mod Engine
unfoldable pub use Line.{best_line_of}
pub use Line.{certificate_of, line_found, line_outcome}
pub use Engine.Parts.{found_in, line_length}
