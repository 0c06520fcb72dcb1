-- Why the smallest value of a leaf that gives the root a wanted value is found, grouped by idea.
pub mod First
pub mod Candidates
pub mod Bounds
pub mod Values
pub mod Questions
pub mod Theorems
pub mod Influence
pub mod Cases
