-- What makes a line of play the best one for both sides.
use Rattle.std.specs.Prelude.{ℕ, ◌+◌, ◌≤◌, ◌<◌, ◌≡◌, true, List, ◌∷◌, eqb, length, get_or}
use Rattle.lists.specs.Lists.{among}
use Rattle.gametree.specs.Trees.{better, minimax}
use Rattle.gametree.specs.Certificate.{in_both}
use Rattle.table.specs.Frame.{max_depth, frames, child_count, stored_score}
use Rattle.table.specs.Position.{depth_of, side_of}
use Rattle.table.specs.Tree.{tree_at, tree, valuation}
use Rattle.table.specs.Value.{value_of, worth}
use Rattle.table.specs.Formed.{ChildOf}
use Rattle.variation.specs.Results.Play.{Play}

-- the minimax value of node k, and of the root
abbrev pub value_at : (t : List ℕ) → ℕ → ℕ
value_at t k = minimax (valuation t) (tree_at t k)

abbrev pub root_value : List ℕ → ℕ
root_value t = minimax (valuation t) (tree t)

-- the line starts at the root, and is played from there to a leaf; its nodes are those with the flag 3; each has the
-- root's minimax value, the worth of the leaf at its end is that value, and no child of a node on it is better for the
-- side that moves there; it has at most 19 nodes
pub record BestLine (t flags line : List ℕ) : Type 0 where
  pub rest : List ℕ
  pub starts : line ≡ 0 ∷ rest
  pub played : Play t 0 rest
  pub within : (k : ℕ) → among line k ≡ true → k < frames t
  pub flagged : (k : ℕ) → k < frames t → among line k ≡ eqb (get_or flags k 0) in_both
  pub value : (k : ℕ) → among line k ≡ true → value_at t k ≡ root_value t
  pub ending : (k : ℕ) → among line k ≡ true → child_count t k ≡ 0
      → worth (depth_of t k) (value_of (stored_score t k)) ≡ value_of (root_value t)
  pub no_better : (i k : ℕ) → among line i ≡ true → ChildOf t i k
      → better (side_of t i) (value_at t k) (root_value t) ≡ root_value t
  pub short : length line ≤ max_depth + 1

-- the line begins with the root and then the node m, unless the root is a leaf
abbrev pub Begins : (t line : List ℕ) (m : ℕ) → Type 0
Begins t line m = 0 < child_count t 0 → (rest : List ℕ) × (line ≡ 0 ∷ m ∷ rest)
