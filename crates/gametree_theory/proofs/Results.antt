-- Results beside the demands: domination, the closed form of the evaluated leaves, the merits of a run, the reason to
-- pass over a leaf, and that it is enough.
pub mod Domination
pub mod MemoAt
pub mod ClosedForm
pub mod Merits
pub mod Reason
pub mod Enough
