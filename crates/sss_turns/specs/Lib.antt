-- Definitions for one turn of SSS*.
pub mod Engine
pub use Engine.Merit.{IsMerit}
pub use Engine.Ready.{LeafUnmarked, Replaceable, Takeable}
pub use Engine.Rules.{one, of_inner, of_live, of_child, of_state}
pub use Engine.Turn.{going, is_solved_root, evaluated_at, new_leaves, recounted, is_live_leaf, is_uncovered}
pub use Engine.Turn.{settled_front}
pub use Engine.Turn.{next_at, replaced_run, ended_run, TurnTaken, stopped, stepped, taken, Config, best, updated_by}
pub use Engine.Turn.{turn}
pub use Engine.Update.{entry_in, updated, Within, of_change, blanks}
