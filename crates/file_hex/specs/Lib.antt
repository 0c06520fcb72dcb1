-- Definitions over hexadecimal digits: what a reader of the contracts has to believe.
pub mod Digit
pub mod Engine
unfoldable pub use Digit.{digit_of, capital_of}
pub use Digit.{within, is_lowercase, is_capital_digit, no_digit}
pub use Engine.Kinds.{one_from, one_within}
