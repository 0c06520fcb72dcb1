-- What results beside the contracts are stated with: the root's value by values, and small cases as a table.
pub mod Root
pub mod Cases
