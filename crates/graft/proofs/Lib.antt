-- The table of a grafted tree is accepted, its tree is the grafted one, and the loop that lays it.
pub mod Listing
pub mod Nodes
pub mod Joined
pub mod Sizes
pub mod Sources
pub mod Laid
pub mod Acceptance
pub mod Result
pub mod Outcomes
pub mod Queue
pub mod Writing
pub mod Grafting
pub mod Cases
