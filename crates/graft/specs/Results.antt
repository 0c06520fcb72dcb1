-- What results beside the contracts are stated with: the grafted tree and its value, and small cases as tables.
pub mod Grafted
pub mod Cases
