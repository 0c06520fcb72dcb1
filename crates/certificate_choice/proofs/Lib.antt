-- Why the choice between two certificates is right.
pub mod Choosing
pub mod Leaves
pub mod Theorems
