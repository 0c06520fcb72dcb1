-- The size of a grafted tree: that of both trees without the leaf.
use Rattle.prelude.proofs.{ℕ, zero, suc, ◌+◌, ◌≤◌, ◌<◌, arith, dec_lt, ℕ_discrete, ◌≡◌, refl, ap, ap₂, ◌∙◌, cond, List}
use Rattle.prelude.proofs.{eqb, eq-eqb, ne_eqb}
use Rattle.gametree.specs.{Tree, leaf, inner, Children, last, ◌then◌, size, size_children, grafted, grafted_children}
use Rattle.gametree.specs.{relabelled}
use Rattle.gametree_theory.proofs.Minimax.Nodes.{size-then}
use Rattle.gametree_theory.proofs.Minimax.Grafts.{relabelled-size}
use Rattle.table.specs.{frames, child_count, tree, WellFormed}
use Rattle.table.proofs.Totals.{total, total_children, sum_to, at_node, tree-total, tree-size}
use Rattle.graft_questions.specs.{graft_size}
use Rattle.graft.specs.{graft_tree}

-- a node of a tree in which the leaf k counts for m nodes
abbrev weight_of : ℕ → ℕ → ℕ → ℕ
weight_of k m n = cond (eqb n k) m 1

mutual
  -- a graft has as many nodes as its tree where the leaf counts for the grafted tree's
  grafted-size : (k : ℕ) (v t : Tree) → size (grafted k v t) ≡ total (weight_of k (size v)) (λ _. 1) t
  grafted-size k v (leaf n) =
      elim (ℕ_discrete n k) [
        | yes e ↦ rw (eq-eqb n k e)
        | no e ↦ rw (ne_eqb n k e)
      ]
  grafted-size k v (inner n s ks) = omega (arith, grafted-size_children k v ks)

  grafted-size_children : (k : ℕ) (v : Tree) (ks : Children)
      → size_children (grafted_children k v ks) ≡ total_children (weight_of k (size v)) (λ _. 1) ks
  grafted-size_children k v (last t) = grafted-size k v t
  grafted-size_children k v (t then ts) =
      size-then (grafted k v t) (grafted_children k v ts)
      ∙ ap₂ ◌+◌ (grafted-size k v t) (grafted-size_children k v ts)

-- the sum of ones, with x in the place of one of them
sum_one : (f : ℕ → ℕ) (k x n : ℕ) → f k ≡ x → ((i : ℕ) → i < n → (i ≡ k → ⊥) → f i ≡ 1)
    → (n ≤ k → sum_to f n ≡ n) × (k < n → sum_to f n + 1 ≡ n + x)
unfolding sum_to
sum_one f k x zero e g = (λ _. refl, λ h. absurd (omega arith))
sum_one f k x (suc n) e g =
    let r = sum_one f k x n e (λ i h. g i (omega arith)) in (
      λ h. omega (arith, r.0 (omega arith), g n (omega arith) (λ q. omega arith)),
      λ h. elim (dec_lt k n) [
        | yes l ↦ omega (arith, r.1 l, g n (omega arith) (λ q. omega arith))
        | no l ↦ (let q : k ≡ n = omega arith in omega (arith, r.0 (omega arith), e, ap f q))
      ],
    )

one-elsewhere : (k m c i : ℕ) → (i ≡ k → ⊥) → at_node (weight_of k m) (λ _. 1) c i ≡ 1
one-elsewhere k m zero i h = rw (ne_eqb i k h)
one-elsewhere k m (suc c) i h = refl

module _ (t : List ℕ) (k : ℕ) (u : List ℕ) where
  -- the nodes of both tables but the leaf
  pub graft-size : WellFormed t → WellFormed u → k < frames t → child_count t k ≡ 0
      → size (graft_tree t k u) ≡ graft_size t u
  graft-size wt wu h e =
      let v = relabelled (λ v. frames t + v) (tree u) in
      let m = relabelled-size (λ v. frames t + v) (tree u) ∙ tree-size u wu in
      let a = grafted-size k v (tree t) ∙ tree-total (weight_of k (size v)) (λ _. 1) t wt in
      let c = (sum_one (λ i. at_node (weight_of k (size v)) (λ _. 1) (child_count t i) i) k (size v) (frames t)
      (rw (e, eq-eqb k k refl)) (λ i l n. one-elsewhere k (size v) (child_count t i) i n)).1 h in
      omega (arith, a, m, c)
