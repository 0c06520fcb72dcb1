-- What private functions and proofs are stated with, and no public contract or demand cites.
pub mod Ready
