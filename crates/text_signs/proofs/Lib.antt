-- Signed values.
pub mod Signs
