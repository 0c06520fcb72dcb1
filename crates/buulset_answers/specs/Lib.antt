-- The answers of the library for other languages.
pub mod Answers
pub use Answers.{counted, valued, lined, moved, no_children}
