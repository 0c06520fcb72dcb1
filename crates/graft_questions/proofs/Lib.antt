-- The lemmas on a graft's questions.
pub mod Ascent
pub mod Heights
pub mod Questions
