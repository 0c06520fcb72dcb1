-- Definitions of what reading the input promises.
pub mod Input
pub use Input.{InputFits}
