-- What results beside the contracts are stated with: small cases as tables, the papers' wording clause by clause, what
-- tables meant before byte 3 had a meaning, tables of regular trees, and the leaves of a table.
pub mod Stated
pub mod Cases
pub mod Alternating
pub mod Regular
pub mod Leaf
