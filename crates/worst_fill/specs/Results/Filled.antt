-- The table after the call, and the leaves below a node.
use Rattle.std.specs.Prelude.{ℕ, ◌≡◌, true, List}
use Rattle.lists.specs.Lists.{among}
use Rattle.gametree.specs.Trees.{nodes}
use Rattle.table.specs.Tree.{tree_at}
use Rattle.table.specs.Results.Leaf.{Leaf}
use Rattle.worst_fill.specs.Outcome.{fill_outcome}

-- what the call leaves in the lent table
abbrev pub handed : List ℕ → List ℕ
handed t = (fill_outcome t).left

-- the leaf x stands in the tree at node i: it is below i, or i itself
pub record LeafBelow (t : List ℕ) (i x : ℕ) : Type 0 where
  pub leaf : Leaf t x
  pub below : among (nodes (tree_at t i)) x ≡ true
