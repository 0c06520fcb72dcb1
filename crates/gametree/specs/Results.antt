-- For results beside the demands: the closed form of the evaluated leaves, the family of searches made of tests, the
-- reason to pass over a leaf, and a table of small trees.
pub mod ClosedForm
pub mod Family
pub mod Reason
pub mod Cases
