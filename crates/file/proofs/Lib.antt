-- What is written is read back: theorems on the reader and the writer together.
mod Capitals
pub mod DecodedBytes
pub mod RoundTrip
pub mod Saving
