-- Lemmas on the engine: the pass over a node's children, the evaluated leaves, and the visit of a node.
pub mod Pass
pub mod Evaluated
pub mod Visits
