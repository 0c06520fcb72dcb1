-- The steps of a walk by hand.
pub mod Values
pub mod Rows
pub mod Loans
pub mod Arrays
pub mod ArraysByValue
pub mod Calls
pub mod Locals
pub mod Leaving
pub mod Parameters
pub mod Walk
