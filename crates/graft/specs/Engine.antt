-- What building blocks and proofs are stated with, and no contract of an entry or demand cites.
pub mod Joined
pub mod Queue
