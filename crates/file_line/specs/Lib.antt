-- Definitions over the lines of a file: what a reader of the contracts has to believe.
pub mod Line
pub mod Lines
pub mod Engine
pub mod Results
unfoldable pub use Line.{all_digits, is_line, has_lowercase, bytes_of, is_line_at, line_at}
pub use Line.{line_digits, line_feed, line_size, closed, bytes_at}
unfoldable pub use Lines.{lines_of, decode}
pub use Lines.{put_before, decoded}
pub use Engine.Numbered.{digits_at_once, Numbered}
pub use Engine.Stored.{Stored}
