-- What results beside the contracts are stated with.
pub mod Text
