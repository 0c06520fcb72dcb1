-- The value of a side's tree in a lent certificate, over the nodes of the table.
use Rattle.std.specs.Prelude.{ℕ, zero, suc, cond, ◌&&◌, List, eqb}
use Rattle.gametree.specs.declared.Side.{Side}
use Rattle.gametree.specs.Trees.{better}
use Rattle.gametree.specs.Certificate.{worst}
use Rattle.table.specs.Frame.{frames, child_count}
use Rattle.table.specs.Tree.{valuation}
use Rattle.certificate_check.specs.Flags.{member}

-- the score of node i if it is a leaf of side p's tree, else p's worst score, which never wins
abbrev pub leaf_in : Side → List ℕ → List ℕ → ℕ → ℕ
leaf_in p t flags i = cond (eqb (child_count t i) 0 && member p flags i) (valuation t i) (worst p)

-- the best score for p of the leaves in its tree before node n
unfoldable pub best_before : Side → List ℕ → List ℕ → ℕ → ℕ
best_before p t flags zero = worst p
best_before p t flags (suc n) = better p (best_before p t flags n) (leaf_in p t flags n)

-- the value of side p's tree: the greatest score of its leaves for Max, the least for Min
abbrev pub tree_value : Side → List ℕ → List ℕ → ℕ
tree_value p t flags = best_before p t flags (frames t)
