-- What results beside the contract are stated with: the table after the call, its leaves, and small cases as tables.
pub mod Filled
pub mod Cases
