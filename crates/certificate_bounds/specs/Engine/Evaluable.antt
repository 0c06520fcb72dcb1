-- What the evaluation of a leaf asks.
use Rattle.std.specs.Prelude.{ℕ, ◌≤◌, ◌<◌, ◌≡◌, false, List, length}
use Rattle.table.specs.Frame.{max_nodes, frames, child_count}
use Rattle.table.specs.Position.{depth_of}
use Rattle.certificate_bounds.specs.Marks.{marked}

-- node i is a leaf of the table t, at the depth d, with an entry among the marks e and no mark yet
pub record Evaluable (t e : List ℕ) (i d : ℕ) : Type 0 where
  pub inside : i < frames t
  pub leaf : child_count t i ≡ 0
  pub room : i < length e
  pub unmarked : marked e i ≡ false
  pub depth : d ≡ depth_of t i
  pub shallow : d ≤ max_nodes
