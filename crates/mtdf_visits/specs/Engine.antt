-- Definitions that building blocks alone cite.
pub mod Bounds
pub mod Memory
