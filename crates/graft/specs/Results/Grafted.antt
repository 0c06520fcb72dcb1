-- The tree of a graft and its value, said over the trees of the two tables.
use Rattle.std.specs.Prelude.{ℕ, ◌+◌, ◌*◌, List, take}
use Rattle.gametree.specs.Trees.{Tree, minimax}
use Rattle.gametree.specs.Graft.{grafted, relabelled, substituted}
use Rattle.table.specs.Frame.{frame_size, frames, stored_score}
use Rattle.table.specs.Position.{depth_of}
use Rattle.table.specs.Tree.{tree, valuation, leaf_score}
use Rattle.graft.specs.Outcome.{graft_outcome}

-- the first table's tree with the second's in place of the leaf k, numbered by sources
abbrev pub graft_tree : (t : List ℕ) (k : ℕ) (u : List ℕ) → Tree
graft_tree t k u = grafted k (relabelled (λ v. frames t + v) (tree u)) (tree t)

-- the score of each leaf of the table u where its root stands at depth d
unfoldable pub valuation_from : (d : ℕ) (u : List ℕ) → ℕ → ℕ
valuation_from d u v = leaf_score (d + depth_of u v) (stored_score u v)

-- the value of the first tree with the leaf k's score replaced by the second tree's value, depths counted in the result
abbrev pub graft_value : (t : List ℕ) (k : ℕ) (u : List ℕ) → ℕ
graft_value t k u = minimax (substituted (valuation t) k (minimax (valuation_from (depth_of t k) u) (tree u))) (tree t)

-- the table of n nodes at the buffer's front after a call
abbrev pub handed : (t : List ℕ) (k : ℕ) (u b : List ℕ) (n : ℕ) → List ℕ
handed t k u b n = take (frame_size * n) (graft_outcome t k u b).left
