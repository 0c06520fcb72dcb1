-- What only tests and consequences cite.
pub mod Alternating
pub mod Rows
pub mod Cases
