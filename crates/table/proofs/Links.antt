-- What SSS* asks of a tree, answered from the table: a node's subtree, its parent and next sibling, and which nodes are
-- below it.
use Rattle.prelude.proofs.{ℕ, zero, suc, ◌+◌, ◌≤◌, ◌<◌, arith, dec_lt, ◌≡◌, refl, ap₂, cond, Option, none, some, List}
use Rattle.prelude.proofs.{◌∷◌, ltb, lt-ltb, le-ltb}
use Rattle.gametree.specs.declared.Side.{Side}
use Rattle.gametree.specs.{Tree, leaf, inner, root, under, first_of, others_of, subtree_at, link_in}
use Rattle.gametree_theory.proofs.Sss.Lookups.{Answers, AnswersChildren}
use Rattle.gametree_theory.proofs.Sss.OwnNodes.{own_root, own-answers}
use Rattle.table.specs.{frames, first_child, child_count, side_of, up_from, children_from, tree_at, tree, WellFormed}
use Rattle.table.specs.{ChildOf}
use Rattle.table.proofs.Nodes.{tree-distinct}
use Rattle.table.proofs.Parents.{top-down}
use Rattle.table.proofs.Trees.{zero-or-suc, tree-leaf, tree-inner, tree-number}

-- the numbers of a node's children
pub first-of : (t : List ℕ) (i n : ℕ) → first_of (children_from (tree_at t) i n) ≡ i
unfolding children_from
first-of t i zero = tree-number t i
first-of t i (suc n) = tree-number t i

pub others-of : (t : List ℕ) (i n : ℕ) → others_of (children_from (tree_at t) i n) ≡ up_from (i + 1) n
unfolding children_from up_from
others-of t i zero = refl
others-of t i (suc n) = ap₂ ◌∷◌ (first-of t (i + 1) n) (others-of t (i + 1) n)

-- the next sibling of child k, where the children end before `end`
abbrev pub next_sibling : ℕ → ℕ → Option ℕ
next_sibling k end = cond (ltb (k + 1) end) (some (k + 1)) none

module _ (t : List ℕ) (wf : WellFormed t) where
  abbrev T : Tree
  T = tree t

  kid-answers : (i : ℕ) (s : Side) (first n k : ℕ) → AnswersChildren T i s (children_from (tree_at t) first n)
      → first ≤ k
      → k ≤ first + n
      → (link_in T k ≡ under i s (next_sibling k (first + suc n))) × Answers T (tree_at t k)
  unfolding children_from
  kid-answers i s first zero k a l m =
      let e : k ≡ first = omega arith in
      let f : first + suc zero ≡ first + 1 = omega arith in
      rw (e, f, le-ltb (first + 1) (first + 1) (omega arith)) (rw (tree-number t first) at a.0, a.1)
  kid-answers i s first (suc n) k a l m =
      elim (dec_lt first k) [
        | yes p ↦ (let e : first + suc (suc n) ≡ first + 1 + suc n = omega arith in
            rw e (kid-answers i s (first + 1) n k a.3 (omega arith) (omega arith)))
        | no p ↦ (let e : k ≡ first = omega arith in
            rw (e, lt-ltb (first + 1) (first + suc (suc n)) (omega arith))
            (rw (tree-number t first, first-of t (first + 1) n) at a.0, a.2))
      ]

  answers-child : {i k : ℕ} → i < frames t → ChildOf t i k → Answers T (tree_at t i)
      → (link_in T k ≡ under i (side_of t i) (next_sibling k (first_child t i + child_count t i)))
      × Answers T (tree_at t k)
  answers-child {i} {k} h c a =
      zero-or-suc (child_count t i) (λ e. absurd (omega (arith, c.from, c.to))) (λ n e.
      rw e (kid-answers i (side_of t i) (first_child t i) n k (rw (tree-inner t wf i n h e) at a).2 c.from
      (omega (arith, c.to))))

  -- the tree answers as it says
  pub answers : Answers T T
  answers = own-answers T (tree-distinct t wf 0 wf.non_empty)

  -- so it does for the tree at each node
  pub answers_at : (k : ℕ) → k < frames t → Answers T (tree_at t k)
  answers_at = top-down t wf (λ k. Answers T (tree_at t k)) answers (λ i k h c a. (answers-child h c a).1)

  -- the root has no parent
  pub link-root : link_in T 0 ≡ root
  link-root = rw (tree-number t 0) at (own_root T)

  -- a child's parent, its side, and the next sibling
  pub link-child : {i k : ℕ} → i < frames t → ChildOf t i k
      → link_in T k ≡ under i (side_of t i) (next_sibling k (first_child t i + child_count t i))
  link-child {i} h c = (answers-child h c (answers_at i h)).0

  -- a node without children is a leaf
  pub subtree-leaf : (i : ℕ) → i < frames t → child_count t i ≡ 0 → subtree_at i T ≡ leaf i
  subtree-leaf i h e = rw (tree-leaf t wf i h e) at (answers_at i h)

  -- another has its side and its children
  pub subtree-inner : (i n : ℕ) → i < frames t → child_count t i ≡ suc n
      → subtree_at i T ≡ inner i (side_of t i) (children_from (tree_at t) (first_child t i) n)
  subtree-inner i n h e = (rw (tree-inner t wf i n h e) at (answers_at i h)).0
