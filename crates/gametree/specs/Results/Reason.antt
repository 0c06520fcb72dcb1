-- Why a leaf need not be evaluated: beside its path Max already has at least a, Min has at most b, and a is not less
-- than b, so nothing below both can matter (the cut-off criterion of source 000, sections 4 and 5).
use Rattle.std.specs.Prelude.{ℕ, ◌≤◌, ◌≡◌, Bool, true}
use Rattle.std.proofs.Math.Option.{Option}
use Rattle.gametree.specs.Trees.{Side, Max, Min, Tree, In}
use Rattle.gametree.specs.Bounds.{low, high}
use Rattle.gametree.specs.Nodes.{under, subtree_at, link_in, above_in}

-- the node c is beside the path from the root to k, under a node of the side s: it is a child of a node of that side
-- above k, and k is not a node of its subtree (in 000 such c are AMAX-C of k for Max, AMIN-C for Min)
pub record Beside (t : Tree) (s : Side) (k c : ℕ) : Type 0 where
  pub parent : ℕ
  pub next : Option ℕ
  pub child : link_in t c ≡ under parent s next
  pub above : above_in t parent k ≡ true
  pub apart : In k (subtree_at c t) → ⊥

-- the reason to pass over the leaf k, by the bounds of the evaluated leaves E: beside its path there are a child of a
-- Max node and a child of a Min node, and the low of the first is at least the high of the second
pub record Reason (ν : ℕ → ℕ) (E : ℕ → Bool) (t : Tree) (k : ℕ) : Type 0 where
  pub max_child : ℕ
  pub min_child : ℕ
  pub under_max : Beside t Max k max_child
  pub under_min : Beside t Min k min_child
  pub crossed : high ν E (subtree_at min_child t) ≤ low ν E (subtree_at max_child t)
