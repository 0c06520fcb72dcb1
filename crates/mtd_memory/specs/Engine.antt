-- Definitions that building blocks alone cite.
pub mod Memory
