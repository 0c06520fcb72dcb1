-- Arrays and the memory that they hold, the child loop, and a pass at a node.
pub mod Arrays
pub mod Answers
pub mod Children
pub mod Passes
pub mod Turns
pub mod Visits
pub mod Skips
pub mod Entries
