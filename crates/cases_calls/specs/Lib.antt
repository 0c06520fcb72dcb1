-- Definitions for the calls of the cases.
pub mod Sizes
pub mod Numbers
pub use Sizes.{frames_size, IsPrefixLen}
