-- The lemmas on the chosen child and on flags.
pub mod Chosen
pub mod Flags
