-- SSS* within an allowance of leaves: how it ends, what it depends on, and what it is by the evaluations of the full
-- run.
pub mod Ending
pub mod Local
pub mod Evaluations
