-- What building blocks and proofs are stated with, and no contract of a public entry and no demand cites.
pub mod Fronts
pub mod Kept
pub mod Putting
pub mod Shown
