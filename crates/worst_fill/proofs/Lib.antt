-- The worst-case filling: what it changes, the loop that writes it, and why it is the worst case.
pub mod Ranks
pub mod Blocks
pub mod Kept
pub mod Turns
pub mod Nodes
pub mod Whole
pub mod Order
pub mod WorstFill
pub mod Cases
