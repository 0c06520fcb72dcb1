-- The tree of a regular table is a regular tree, shown from the leaves up; and which widths and depths an accepted one
-- has.
use Rattle.prelude.proofs.{ℕ, zero, suc, ◌+◌, ◌-◌, ◌≤◌, ◌<◌, arith, ◌≡◌, refl, ap, subst, sym, ◌∙◌, List, ne_eqb}
use Rattle.gametree.specs.declared.Side.{Side}
use Rattle.gametree.specs.declared.Side.TheVariants.{Max}
use Rattle.gametree.specs.{Tree, other}
use Rattle.gametree_theory.proofs.Certificates.Regular.{Regular, RegularChildren}
use Rattle.table.specs.{max_children, max_depth, frames, first_child, child_count, byte3, same_mover, depth_of, side_of}
use Rattle.table.specs.{children_from, tree_at, tree, WellFormed, ChildOf, Accepted, RegularTable}
use Rattle.table.proofs.Acceptance.{accepted-stated, accepted-formed}
use Rattle.table.proofs.Next.{child-later, child-within}
use Rattle.table.proofs.Parents.{bottom-up}
use Rattle.table.proofs.Positions.{position-root, position-child, depth-child}
use Rattle.table.proofs.Trees.{kids-count, zero-or-suc, tree-leaf, tree-inner}

regular-kids : (w d : ℕ) (s : Side) (g : ℕ → Tree) (i n : ℕ) → ((k : ℕ) → i ≤ k → k ≤ i + n → Regular w d s (g k))
    → RegularChildren w d s (children_from g i n)
unfolding children_from
regular-kids w d s g i zero f = f i (omega arith) (omega arith)
regular-kids w d s g i (suc n) f =
    (f i (omega arith) (omega arith), regular-kids w d s g (i + 1) n (λ k a b. f k (omega arith) (omega arith)))

module _ (w d : ℕ) (t : List ℕ) (wf : WellFormed t) (r : RegularTable w d t) where
  -- no node lies below the leaves
  depth-most : (i : ℕ) → i < frames t → depth_of t i ≤ d
  depth-most =
      bottom-up t wf (λ i. depth_of t i ≤ d) (λ i h f.
      zero-or-suc (child_count t i) (λ e. omega (arith, r.leaf_depth i h e)) (λ n e.
      let c : ChildOf t i (first_child t i) = record { from = omega arith; to = omega (arith, e) } in
      omega (arith, f (first_child t i) c, depth-child t wf h c)))

  -- a child's mover is the other side
  child-other : {i k : ℕ} → i < frames t → ChildOf t i k → side_of t k ≡ other (side_of t i)
  child-other {i} {k} h c =
      ap (λ p. p.side) (position-child t wf h c)
      ∙ rw (ne_eqb (byte3 t k) same_mover (r.alternating k (child-within t wf h c)))

  -- the tree at a node, from the levels that are left below it
  Below : ℕ → Type 0
  Below i = (m : ℕ) → depth_of t i + m ≡ d → Regular w m (side_of t i) (tree_at t i)

  inner-regular : (i n : ℕ) → i < frames t → child_count t i ≡ suc n → ((k : ℕ) → ChildOf t i k → Below k) → Below i
  unfolding Below
  inner-regular i n h e f zero l =
      let c : ChildOf t i (first_child t i) = record { from = omega arith; to = omega (arith, e) } in
      absurd (omega (arith, depth-most (first_child t i) (child-within t wf h c), depth-child t wf h c))
  inner-regular i n h e f (suc m) l =
      rw (tree-inner t wf i n h e) (
        refl,
        kids-count (tree_at t) (first_child t i) n ∙ sym e ∙ r.inner_width i h (omega (arith, e)),
        regular-kids w m (other (side_of t i)) (tree_at t) (first_child t i) n (λ k a b.
            let c : ChildOf t i k = record { from = a; to = omega (arith, e) } in
            subst (λ s. Regular w m s (tree_at t k)) (child-other h c) (f k c m (omega (arith, depth-child t wf h c)))),
      )

  all-below : (i : ℕ) → i < frames t → Below i
  unfolding Below
  all-below =
      bottom-up t wf Below (λ i h f.
      zero-or-suc (child_count t i)
      (λ e m l. rw (tree-leaf t wf i h e) (omega (arith, r.leaf_depth i h e)))
      (λ n e. inner-regular i n h e f))

  pub tree-regular : Regular w d Max (tree t)
  unfolding Below
  tree-regular =
      let p = position-root t in
      subst (λ s. Regular w d s (tree t)) (ap (λ x. x.side) p)
      (all-below 0 wf.non_empty d (omega (arith, ap (λ x. x.depth) p)))

-- the children of a node come after it, so the last node is a leaf
last_leaf : (t : List ℕ) → WellFormed t → child_count t (frames t - 1) ≡ 0
last_leaf t wf =
    zero-or-suc (child_count t (frames t - 1)) (λ e. e) (λ n e.
    let i = frames t - 1 in
    let h : i < frames t = omega (arith, wf.non_empty) in
    let c : ChildOf t i (first_child t i) = record { from = omega arith; to = omega (arith, e) } in
    absurd (omega (arith, child-later t wf h c, child-within t wf h c)))

module _ (w d : ℕ) (t : List ℕ) (a : Accepted t) (r : RegularTable w d t) where
  -- an accepted regular tree is at most 18 deep
  pub regular-depth : d ≤ max_depth
  regular-depth =
      let wf = accepted-formed t a in
      let h : frames t - 1 < frames t = omega (arith, wf.non_empty) in
      omega (arith, r.leaf_depth (frames t - 1) h (last_leaf t wf), (accepted-stated t a).shallow (frames t - 1) h)

  -- and its width is from 1 to 40, if it has an inner node
  pub regular-width : 0 < d → (0 < w) × (w ≤ max_children)
  regular-width l =
      let h = (accepted-formed t a).non_empty in
      zero-or-suc (child_count t 0)
      (λ e. absurd (omega (arith, r.leaf_depth 0 h e, ap (λ x. x.depth) (position-root t)))) (λ n e.
      let i = r.inner_width 0 h (omega (arith, e)) in
      (omega (arith, e, i), omega (arith, i, ((accepted-stated t a).frame 0 h).few_children)))
