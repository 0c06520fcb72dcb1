-- What the loops over a table use of questions 1 to 8.
use Rattle.std.specs.Prelude.{ℕ, ◌+◌, ◌≤◌, ◌<◌, ◌≡◌, List}
use Rattle.gametree.specs.Trees.{Score}
use Rattle.table.specs.Frame.{max_nodes, frames, first_child, child_count, stored_score, next}

-- a tree of 1 to 4,096 nodes in breadth-first order, with scores in range
pub record WellFormed (t : List ℕ) : Type 0 where
  pub non_empty : 0 < frames t
  pub at_most : frames t ≤ max_nodes
  pub first : (i : ℕ) → i < frames t → 0 < child_count t i → first_child t i ≡ next t i
  pub later : (i : ℕ) → i < frames t → 0 < child_count t i → i < first_child t i
  pub total : next t (frames t) ≡ frames t
  pub scored : (i : ℕ) → i < frames t → child_count t i ≡ 0 → Score (stored_score t i)

-- k is a child of node i
pub record ChildOf (t : List ℕ) (i k : ℕ) : Type 0 where
  pub from : first_child t i ≤ k
  pub to : k < first_child t i + child_count t i
