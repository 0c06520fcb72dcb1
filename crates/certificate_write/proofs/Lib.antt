-- The lemmas on searches and certificates, grouped by idea.
pub mod Unmarked
pub mod Searchable
pub mod Flags
pub mod Chosen
pub mod Solutions
pub mod Marks
pub mod Concluded
pub mod Questions
pub mod Outcomes
pub mod Cases
