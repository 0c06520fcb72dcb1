-- Tests with memory: their answers and what they evaluate, that each narrows the bounds, the searches made of them by
-- any strategy, and MTD(f).
pub mod Answer
pub mod Leaves
pub mod Progress
pub mod Subtree
pub mod Local
pub mod Runs
pub mod FirstMove
pub mod Member
pub mod Guess
pub mod Falling
pub mod FallingMove
