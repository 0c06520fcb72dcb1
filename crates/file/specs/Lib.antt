-- Definitions over the reader and the writer together.
pub mod Results
pub use Results.Saved.{Bytes, InCapitals, Saved}
