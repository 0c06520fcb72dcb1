-- What results beside the contract are stated with: small cases as a table, and 02 clause by clause.
pub mod Converted
pub mod Cases
