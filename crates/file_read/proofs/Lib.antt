-- Lemmas on the lines of a file and the questions of the reader, what the reader accepts, and small cases.
mod Left
mod Decoding
mod Letters
mod Counts
pub mod Reading
pub mod Acceptance
pub mod FirstLine
pub mod Cases
