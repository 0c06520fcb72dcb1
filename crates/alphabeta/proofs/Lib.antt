-- The pass over the root's children, and its move.
pub mod Root
-- The whole search: its leaves and its steps.
pub mod Whole
