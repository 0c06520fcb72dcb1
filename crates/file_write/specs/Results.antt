-- What results beside the contracts are stated with: small cases as a table.
pub mod Cases
