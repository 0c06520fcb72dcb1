-- For the code of the searches: what their private functions are proved against, and no public contract cites.
pub mod Memo
pub mod MemoArrays
pub mod Within
