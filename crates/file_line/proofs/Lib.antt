-- Lemmas on lines: one line at a position, and a file's first line.
pub mod Lines
pub mod Storing
mod Numbering
pub mod Positions
pub mod Splits
mod SmallLetters
pub mod CapitalDigits
