-- What results beside the contracts are stated with: small cases as a table, and the papers' wording clause by clause.
pub mod Cases
pub mod Stated
