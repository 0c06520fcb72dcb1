-- Why the converter meets its contract, and what it keeps of a file: its questions and its table.
pub mod Kept
pub mod Converted
mod Converting
pub mod Printing
pub mod Cases
