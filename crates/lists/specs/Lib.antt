-- What is said of lists.
pub mod Lists
unfoldable pub use Lists.{count_from}
pub use Lists.{All, among, Once, Subsequence, end, skip, keep, different}
