-- Lemmas on hexadecimal digits.
pub mod Digits
mod DigitArithmetic
