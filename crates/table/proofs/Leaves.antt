-- A node without children is listed among the leaves of each tree that it is in.
use Rattle.prelude.proofs.{ℕ, zero, suc, ◌+◌, ◌≤◌, ◌<◌, arith, dec_le, ◌≡◌, inl, inr, true, false, List, eqb, eq-eqb}
use Rattle.lists.specs.{among}
use Rattle.lists.proofs.Choice.{or_left}
use Rattle.lists.proofs.Lists.{among-left, among-right}
use Rattle.gametree.specs.{Tree, leaves, leaves_children, In}
use Rattle.table.specs.{frames, first_child, child_count, children_from, tree_at, WellFormed}
use Rattle.table.proofs.Parents.{bottom-up}
use Rattle.table.proofs.Trees.{zero-or-suc, in-kids, tree-leaf, tree-inner}

-- a leaf of one child's tree is a leaf of all of them together
pub kid-leaf : (g : ℕ → Tree) (i n k p : ℕ) → i ≤ k → k ≤ i + n → among (leaves (g k)) p ≡ true
    → among (leaves_children (children_from g i n)) p ≡ true
unfolding children_from
kid-leaf g i zero k p a b h = let e : k ≡ i = omega arith in rw e at h
kid-leaf g i (suc n) k p a b h =
    let rest = leaves_children (children_from g (i + 1) n) in
    elim (dec_le k i) [
      | yes l ↦ among-left (leaves (g i)) rest p (let e : k ≡ i = omega arith in rw e at h)
      | no l ↦ among-right (leaves (g i)) rest p (kid-leaf g (i + 1) n k p (omega arith) (omega arith) h)
    ]

module _ (t : List ℕ) (wf : WellFormed t) where
  -- a node of the tree at i that has no children is one of its leaves
  pub leaf-listed : (i : ℕ) → i < frames t → (p : ℕ) → In p (tree_at t i) → child_count t p ≡ 0
      → among (leaves (tree_at t i)) p ≡ true
  leaf-listed =
      bottom-up t wf
      (λ i. (p : ℕ) → In p (tree_at t i) → child_count t p ≡ 0 → among (leaves (tree_at t i)) p ≡ true) (λ i h f p q z.
      zero-or-suc (child_count t i) (λ e.
      rw (tree-leaf t wf i h e) (or_left (eqb p i) false (eq-eqb p i (rw (tree-leaf t wf i h e) at q)))) (λ n e.
      rw (tree-inner t wf i n h e)
      (elim (rw (tree-inner t wf i n h e) at q) [
        | inl x ↦ absurd (omega (arith, rw x at z))
        | inr x ↦ (let r = in-kids (tree_at t) (first_child t i) n p x in
            kid-leaf (tree_at t) (first_child t i) n r.0 p r.1 r.2
            (f r.0 (record { from = r.1; to = omega (arith, r.2) }) p r.3 z))
      ])))
