-- What results beside the contracts are stated with: small cases as tables, and the papers' wording clause by clause.
pub mod Cases
