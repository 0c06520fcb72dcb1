-- The tree that a table describes, and the scores of its leaves.
use Rattle.std.specs.Prelude.{ℕ, zero, suc, ◌+◌, ◌-◌, List, [], ◌∷◌}
use Rattle.gametree.specs.declared.Side.{Side}
use Rattle.gametree.specs.Trees.{Tree, leaf, inner, Children, last, ◌then◌}
use Rattle.table.specs.Frame.{frames, first_child, child_count, stored_score}
use Rattle.table.specs.Position.{depth_of, side_of}
use Rattle.table.specs.Value.{value_of, score_of, worth}

-- the n numbers from i on
unfoldable pub up_from : ℕ → ℕ → List ℕ
up_from i zero = []
up_from i (suc n) = i ∷ up_from (i + 1) n

-- the n + 1 trees from g i on as the children of a node, which has at least one
unfoldable pub children_from : (ℕ → Tree) → ℕ → ℕ → Children
children_from g i zero = last (g i)
children_from g i (suc n) = g i then children_from g (i + 1) n

-- node i, with the trees g as children from the number `first` on: a leaf if there are none
abbrev pub node : ℕ → Side → (ℕ → Tree) → ℕ → ℕ → Tree
node i s g first zero = leaf i
node i s g first (suc n) = inner i s (children_from g first n)

-- the tree with node i for its root, cut off as many levels below it as the first number says
unfoldable pub grow : ℕ → List ℕ → ℕ → Tree
grow zero t i = leaf i
grow (suc f) t i = node i (side_of t i) (grow f t) (first_child t i) (child_count t i)

-- the tree with node i for its root; children have larger numbers, so no path down has more nodes than there are
-- frames from i on
unfoldable pub tree_at : List ℕ → ℕ → Tree
tree_at t i = grow (frames t - i) t i

-- the tree of a table
abbrev pub tree : List ℕ → Tree
tree t = tree_at t 0

-- the score of a leaf from its depth and its stored score: that of its worth
abbrev pub leaf_score : (depth stored : ℕ) → ℕ
leaf_score depth stored = score_of (worth depth (value_of stored))

-- the score of each leaf
unfoldable pub valuation : List ℕ → ℕ → ℕ
valuation t i = leaf_score (depth_of t i) (stored_score t i)
