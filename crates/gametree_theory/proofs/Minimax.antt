-- Nodes and leaves, the minimax value and its bounds, counts of leaves, the root move, a tree in the place of a leaf.
pub mod Nodes
pub mod Bounds
pub mod Closer
pub mod Counts
pub mod Moves
pub mod Grafts
pub mod OneLeaf
