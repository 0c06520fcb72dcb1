-- The lemmas on the loop over the list.
pub mod Replacements
pub mod Moves
pub mod Keeping
pub mod Updates
pub mod Unmarked
pub mod Onward
pub mod Driving
