-- Why the check of a certificate is right, grouped by idea.
pub mod Subtrees
pub mod Rules
mod Values
mod Asking
mod Ruling
pub mod Judging
pub mod Theorems
pub mod Parts
mod Cases
