-- Definitions for the questions of a graft, and for what has passed them.
pub mod Questions
pub mod Graftable
unfoldable pub use Questions.{deepest}
pub use Questions.{graft_size, is_max_leaf, check17, check18, graft_check10, leaf_rejection, graft_rejection}
pub use Graftable.{MaxLeaf}
