-- The lemmas on marks and bounds, grouped by idea.
pub mod Marking
pub mod Listing
pub mod BottomUp
pub mod Ranges
pub mod Bounds
