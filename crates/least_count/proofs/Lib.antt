-- From the whole table to an entry, and the questions.
pub mod Carried
pub mod Questions
