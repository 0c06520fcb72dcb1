-- Definitions over the reader of a file: what a reader of the contracts has to believe.
pub mod File
pub mod Engine
pub mod Results
unfoldable pub use File.{each_line, file_rejection, read_rejection}
pub use File.{max_file, file_check2, file_check3, file_check16, file_check10, AcceptedFile, read_outcome}
unfoldable pub use Engine.Decoded.{lines_rejection}
pub use Engine.Decoded.{line_check3, line_check16, Decoded, RoomFor, LongEnough}
pub use Results.Cases.{computed, cases}
pub use Results.Stated.{LineAsStated, FileAsStated}
