-- Alpha-beta in a window: its value, the leaves that it evaluates, and its own root move; scores for which these are
-- all leaves.
pub mod Window
pub mod RootMove
pub mod WorstCase
