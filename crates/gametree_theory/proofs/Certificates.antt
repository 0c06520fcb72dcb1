-- Solution trees, the certificate read off the bounds, and the smallest one.
pub mod Leaves
pub mod Counting
pub mod Solution
pub mod Checker
pub mod ReadOff
pub mod Flags
pub mod SmallestPair
pub mod SharedLeaf
pub mod Regular
