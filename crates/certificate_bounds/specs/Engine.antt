-- What building blocks and proofs are stated with, and no contract of a public entry and no demand cites.
pub mod Bounds
pub mod Evaluable
pub mod Evaluations
pub mod Progress
pub mod Ranges
