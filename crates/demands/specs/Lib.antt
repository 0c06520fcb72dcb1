-- The words in which the demands are stated.
pub mod Runs
pub mod Handed
pub mod Searches
pub mod Allowance
pub mod Cases
pub mod Results
pub use Runs.{Claim, Claims, RunBoth, Function, function}
pub use Handed.{Room, Marked, CertifiedBy, AgreeOnMarked, Alike}
pub use Searches.{Call, EverySearch, EveryTwo, EverySearchAnd, Given, count_of, EachPlain}
pub use Allowance.{CutShort}
pub use Cases.{LineHolds, case_lines}
pub use Results.Alternating.{zero_file, rule_by_depth, tree_rule_by_depth, verdict_by_depth, report_by_depth}
pub use Results.Rows.{row_of, tables, rows}
unfoldable pub use Results.Cases.{path, leaf_frames}
pub use Results.Cases.{win_tables, win_rows, capture_tables, capture_rows, deeper_tables, deeper_rows, stopped_at}
pub use Results.Cases.{stopped_rows}
pub use Results.Cases.{with_entries}
