-- The memory and what is evaluated in it, the child loop, and a test of a node.
pub mod Arrays
pub mod Children
pub mod Turns
pub mod Visits
