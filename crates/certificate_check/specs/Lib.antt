-- The check of a lent certificate: what its contract and its theorems cite.
pub mod Flags
pub mod Value
pub mod Check
pub mod Certificate
pub mod Results
unfoldable pub use Flags.{rule_holds}
pub use Flags.{member, required_of, root_member}
unfoldable pub use Value.{best_before}
pub use Value.{leaf_in, tree_value}
unfoldable pub use Check.{trees_rejection, flags_rejection, certificate_rejection, verdict}
pub use Check.{check11, check_tree, check14, judged}
pub use Results.Cases.{cases}
