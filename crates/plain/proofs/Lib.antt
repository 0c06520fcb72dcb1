-- Lemmas on the two turns: the pass over a node's children, and what a turn needs and hands back.
pub mod Pass
pub mod Turns
-- The whole search: its leaves and its steps.
pub mod Leaves
pub mod Whole
