-- The lemmas on the check of a table.
pub mod Levels
