-- What each call gives back, as an answer of numbers.
pub mod Flat
pub use Flat.{flat, flat_printed, flat_answer, flat_choice, flat_line, flat_text}
