-- Definitions over the writer of a file: what a reader of the contracts has to believe.
pub mod Encoded
pub mod Write
pub mod Engine
pub mod Results
unfoldable pub use Encoded.{digits_of, line_of, encode}
pub use Encoded.{file_of}
unfoldable pub use Write.{write_rejection}
pub use Write.{write_check10, at_front, write_outcome}
unfoldable pub use Engine.Pairs.{digit_pairs}
pub use Engine.Pairs.{byte_values}
pub use Results.Cases.{performed, writings}
