-- What results beside the contracts are stated with: 02's wording of saving a tree.
pub mod Saved
