-- Choices by a test, lists, and counting.
pub mod Choice
pub mod Lists
pub mod Counting
