-- Definitions of the choice between two certificates.
pub mod Choice
unfoldable pub use Choice.{choice}
pub use Choice.{flagged_leaf, flagged_leaves, choice_by, flags_by, chosen_flags, pointer_by}
