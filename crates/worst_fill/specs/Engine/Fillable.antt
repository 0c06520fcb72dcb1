-- What the recursion asks of a node, and in which turn it takes the children.
use Rattle.std.specs.Prelude.{ℕ, ◌+◌, ◌-◌, ◌≤◌, ◌<◌, ◌≡◌, List, length}
use Rattle.gametree.specs.declared.Side.{Side}
use Rattle.gametree.specs.declared.Side.TheVariants.{Max, Min}
use Rattle.gametree.specs.Trees.{leaves}
use Rattle.table.specs.Frame.{max_nodes, frames}
use Rattle.table.specs.Position.{side_of}
use Rattle.table.specs.Tree.{tree_at}
use Rattle.table.specs.Formed.{WellFormed}

-- node i of a well-formed table, where the side s moves, and ranks for its leaves from r on that are below 4,096
pub record Fillable (t : List ℕ) (i : ℕ) (s : Side) (r : ℕ) : Type 0 where
  pub formed : WellFormed t
  pub inside : i < frames t
  pub mover : s ≡ side_of t i
  pub at_most : r + length (leaves (tree_at t i)) ≤ max_nodes

-- the child that gets its ranks in this turn, of n children from number `first` on: from left to right at Max, from
-- right to left at Min
abbrev pub nth_child : Side → (first n turn : ℕ) → ℕ
nth_child Max first n turn = first + turn
nth_child Min first n turn = first + (n - 1 - turn)
