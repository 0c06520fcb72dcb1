-- The lemmas on the front of SSS*.
pub mod Shown
pub mod Changes
pub mod Stores
pub mod Ways
pub mod Falls
pub mod Scans
pub mod Risings
