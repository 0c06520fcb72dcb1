-- MTD: its passes are sound, its value, its marks, its moves, its memory in arrays, and in the two lists of Mtd.
pub mod Sound
pub mod Value
pub mod Marks
pub mod Passes
pub mod Local
pub mod Moves
pub mod MemoArrays
pub mod Memory
