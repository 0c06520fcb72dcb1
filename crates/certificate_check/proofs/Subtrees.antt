-- What a fact about a tree says of the children of an inner node, it says of every subtree of a table's tree.
use Rattle.prelude.proofs.{ℕ, zero, suc, ◌+◌, ◌≤◌, ◌<◌, arith, dec_le, ◌≡◌, List}
use Rattle.gametree.specs.declared.Side.{Side}
use Rattle.gametree.specs.{Tree, inner, Children, last, ◌then◌}
use Rattle.table.specs.{frames, first_child, child_count, children_from, tree_at, tree, WellFormed}
use Rattle.table.proofs.Parents.{top-down}
use Rattle.table.proofs.Trees.{zero-or-suc, tree-inner}

-- F is P of each child, and P of an inner node gives F of its children
pub record Inherited (P : Tree → Type 0) (F : Children → Type 0) : Type 0 where
  pub of_inner : (n : ℕ) (q : Side) (ks : Children) → P (inner n q ks) → F ks
  pub of_last : (t : Tree) → F (last t) → P t
  pub of_more : (t : Tree) (ts : Children) → F (t then ts) → P t × F ts

module _ {P : Tree → Type 0} {F : Children → Type 0} (r : Inherited P F) where
  -- P of the child with number k
  of-kid : (h : ℕ → Tree) (i n k : ℕ) → i ≤ k → k ≤ i + n → F (children_from h i n) → P (h k)
  unfolding children_from
  of-kid h i zero k a b f = let e : k ≡ i = omega arith in rw e (r.of_last (h i) f)
  of-kid h i (suc n) k a b f =
      elim (dec_le k i) [
        | yes l ↦ (let e : k ≡ i = omega arith in rw e (r.of_more (h i) (children_from h (i + 1) n) f).0)
        | no l ↦ of-kid h (i + 1) n k (omega arith) (omega arith) (r.of_more (h i) (children_from h (i + 1) n) f).1
      ]

  -- P of the whole tree is P of every node's tree
  pub each-subtree : (t : List ℕ) → WellFormed t → P (tree t) → (k : ℕ) → k < frames t → P (tree_at t k)
  each-subtree t wf p =
      top-down t wf (λ k. P (tree_at t k)) p (λ i k h c x.
      zero-or-suc (child_count t i) (λ e. absurd (omega (arith, c.from, c.to))) (λ n e.
      of-kid (tree_at t) (first_child t i) n k c.from (omega (arith, c.to))
      (r.of_inner i _ _ (rw (tree-inner t wf i n h e) at x))))
