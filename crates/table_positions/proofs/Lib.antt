-- The lemmas on buffers that are written node by node, and on the array of positions.
pub mod Buffers
pub mod Runs
pub mod TopDown
pub mod Positions
