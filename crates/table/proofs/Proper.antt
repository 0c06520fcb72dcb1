-- What the theory asks of a tree holds of the tree of a well-formed table: distinct numbers and scores in range.
use Rattle.prelude.proofs.{ℕ, zero, suc, ◌+◌, ◌≤◌, ◌<◌, arith, ◌≡◌, List}
use Rattle.gametree.specs.{Tree, EveryLeaf, EveryLeafChildren, Score, Proper}
use Rattle.table.specs.{frames, first_child, child_count, stored_score, depth_of, children_from, tree_at, tree}
use Rattle.table.specs.{valuation, WellFormed}
use Rattle.table.proofs.Parents.{bottom-up}
use Rattle.table.proofs.Trees.{zero-or-suc, tree-leaf, tree-inner}
use Rattle.table.proofs.Nodes.{tree-distinct}
use Rattle.table.proofs.Positions.{depth-at-most}
use Rattle.table.proofs.Worth.{score-kept}

-- what holds at each number holds of each leaf of the children
every_kids : (P : ℕ → Type 0) (g : ℕ → Tree) (i n : ℕ) → ((k : ℕ) → i ≤ k → k ≤ i + n → EveryLeaf P (g k))
    → EveryLeafChildren P (children_from g i n)
unfolding children_from
every_kids P g i zero f = f i (omega arith) (omega arith)
every_kids P g i (suc n) f =
    (f i (omega arith) (omega arith), every_kids P g (i + 1) n (λ k a b. f k (omega arith) (omega arith)))

module _ (t : List ℕ) (wf : WellFormed t) where
  -- what holds of each node without children holds of each leaf of the tree
  pub every-leaf : (P : ℕ → Type 0) → ((i : ℕ) → i < frames t → child_count t i ≡ 0 → P i) → (i : ℕ) → i < frames t
      → EveryLeaf P (tree_at t i)
  every-leaf P f =
      bottom-up t wf (λ i. EveryLeaf P (tree_at t i)) (λ i h g.
      zero-or-suc (child_count t i) (λ e. rw (tree-leaf t wf i h e) (f i h e)) (λ n e.
      rw (tree-inner t wf i n h e)
      (every_kids P (tree_at t) (first_child t i) n (λ k a b. g k (record { from = a; to = omega arith })))))

  -- the score of each leaf is in range
  pub leaf-scored : (i : ℕ) → i < frames t → child_count t i ≡ 0 → Score (valuation t i)
  unfolding valuation
  leaf-scored i h e =
      score-kept (depth_of t i) (stored_score t i) (omega (arith, depth-at-most t i, wf.at_most)) (wf.scored i h e)

  pub tree-proper : Proper (valuation t) (tree t)
  tree-proper =
      record {
        scored = every-leaf (λ n. Score (valuation t n)) leaf-scored 0 wf.non_empty;
        distinct = tree-distinct t wf 0 wf.non_empty;
      }
