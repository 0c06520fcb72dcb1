-- The chosen child of a node, and the flags that follow.
pub mod Chosen
pub mod Flags
