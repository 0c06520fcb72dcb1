-- Lemmas on what the program prints.
pub mod Searches
pub mod Sizes
pub mod Reporting
pub mod Cases
