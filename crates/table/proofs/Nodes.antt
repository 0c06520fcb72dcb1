-- Every node of a well-formed table stands in its tree exactly once.
use Rattle.prelude.proofs.{ℕ, zero, suc, ◌+◌, ◌≤◌, ◌<◌, arith, ◌≡◌, sym, ap, ◌∙◌, subst, inl, inr, List}
use Rattle.gametree.specs.{In, Distinct, DistinctChildren}
use Rattle.gametree_theory.proofs.Minimax.Nodes.{number_in}
use Rattle.table.specs.{frames, first_child, child_count, parent_of, depth_of, children_from, tree_at, tree, WellFormed}
use Rattle.table.specs.{ChildOf}
use Rattle.table.proofs.Next.{child-later, child-within}
use Rattle.table.proofs.Parents.{parent_is, top-down, bottom-up}
use Rattle.table.proofs.Positions.{depth-child}
use Rattle.table.proofs.Trees.{zero-or-suc, in-kids, kids-in, tree-leaf, tree-inner, tree-number}

-- m steps up from node p
pub ancestor : List ℕ → ℕ → ℕ → ℕ
ancestor t zero p = p
ancestor t (suc m) p = parent_of t (ancestor t m p)

module _ (t : List ℕ) (wf : WellFormed t) where
  -- a node of the tree at i is i itself, or a node of a child's tree
  pub in-tree-cases : {A : Type 0} (i p : ℕ) → i < frames t → In p (tree_at t i) → (p ≡ i → A)
      → ((k : ℕ) → ChildOf t i k → In p (tree_at t k) → A) → A
  in-tree-cases {A} i p h q f g =
      zero-or-suc (child_count t i) (λ e. f (rw (tree-leaf t wf i h e) at q)) (λ n e.
      elim (rw (tree-inner t wf i n h e) at q) [
        | inl x ↦ f x
        | inr x ↦ (let r = in-kids (tree_at t) (first_child t i) n p x in
            g r.0 (record { from = r.1; to = omega (arith, r.2) }) r.3)
      ])

  -- a node of a child's tree is a node of the parent's
  pub in-parent : {i k : ℕ} → i < frames t → ChildOf t i k → (p : ℕ) → In p (tree_at t k) → In p (tree_at t i)
  in-parent {i} {k} h c p q =
      zero-or-suc (child_count t i) (λ e. absurd (omega (arith, c.from, c.to))) (λ n e.
      rw (tree-inner t wf i n h e)
      (inr (kids-in (tree_at t) (first_child t i) n p k c.from (omega (arith, c.to)) q)))

  -- a node of a tree within is a node of the tree
  pub in-trans : (p : ℕ) → p < frames t → (m x : ℕ) → In m (tree_at t p) → In x (tree_at t m) → In x (tree_at t p)
  in-trans =
      bottom-up t wf (λ p. (m x : ℕ) → In m (tree_at t p) → In x (tree_at t m) → In x (tree_at t p)) (λ p h f m x i j.
      in-tree-cases p m h i (λ e. subst (λ k. In x (tree_at t k)) e j)
      (λ k c y. in-parent h c x (f k c m x y j)))

  -- node i is in its own tree
  pub in-own : (i : ℕ) → In i (tree_at t i)
  in-own i = subst (λ n. In n (tree_at t i)) (tree-number t i) (number_in (tree_at t i))

  -- each node of the table is in the tree
  pub in_tree : (p : ℕ) → p < frames t → In p (tree t)
  in_tree p h =
      top-down t wf (λ k. (q : ℕ) → In q (tree_at t k) → In q (tree t)) (λ q x. x)
      (λ i k g c f q x. f q (in-parent g c q x)) p h p (in-own p)

  -- the nodes of the tree at i are numbers from i on, within the table
  pub tree-range : (i : ℕ) → i < frames t → (p : ℕ) → In p (tree_at t i) → (i ≤ p) × (p < frames t)
  tree-range =
      bottom-up t wf (λ i. (p : ℕ) → In p (tree_at t i) → (i ≤ p) × (p < frames t)) (λ i h f p q.
      in-tree-cases i p h q (λ e. (omega arith, omega arith))
      (λ k c x. let r = f k c p x in (omega (arith, child-later t wf h c, r.0), r.1)))

  -- node i is above each node of its tree, as many steps as it is less deep
  pub tree-ancestor : (i : ℕ) → i < frames t → (p : ℕ) → In p (tree_at t i)
      → (m : ℕ) × (ancestor t m p ≡ i) × (depth_of t p ≡ depth_of t i + m)
  unfolding ancestor
  tree-ancestor =
      bottom-up t wf
      (λ i. (p : ℕ) → In p (tree_at t i) → (m : ℕ) × (ancestor t m p ≡ i) × (depth_of t p ≡ depth_of t i + m))
      (λ i h f p q.
      in-tree-cases i p h q (λ e. (0, e, rw e (omega arith)))
      (λ k c x. let r = f k c p x in (
        suc r.0,
        ap (parent_of t) r.1 ∙ parent_is t wf h c,
        omega (arith, r.2, depth-child t wf h c),
      )))

  -- the trees of two children of a node have no node in common
  pub children-apart : {i j k : ℕ} → i < frames t → ChildOf t i j → ChildOf t i k → (p : ℕ) → In p (tree_at t j)
      → In p (tree_at t k) → j ≡ k
  children-apart {i} {j} {k} h c d p x y =
      let r = tree-ancestor j (child-within t wf h c) p x in
      let q = tree-ancestor k (child-within t wf h d) p y in
      let e : r.0 ≡ q.0 = omega (arith, r.2, q.2, depth-child t wf h c, depth-child t wf h d) in
      sym r.1 ∙ ap (λ m. ancestor t m p) e ∙ q.1

  distinct-kids : (i first n : ℕ) → i < frames t → first_child t i ≤ first
      → first + n < first_child t i + child_count t i → ((k : ℕ) → ChildOf t i k → Distinct (tree_at t k))
      → DistinctChildren (children_from (tree_at t) first n)
  unfolding children_from
  distinct-kids i first zero h a b f = f first (record { from = a; to = omega arith })
  distinct-kids i first (suc n) h a b f = (
    f first (record { from = a; to = omega arith }),
    distinct-kids i (first + 1) n h (omega arith) (omega arith) f,
    λ p x y.
        let r = in-kids (tree_at t) (first + 1) n p y in
        let e = children-apart h (record { from = a; to = omega arith })
        (record { from = omega (arith, r.1); to = omega (arith, r.2) }) p x r.3 in
        omega (arith, r.1),
  )

  -- no two nodes of the tree have the same number
  pub tree-distinct : (i : ℕ) → i < frames t → Distinct (tree_at t i)
  tree-distinct =
      bottom-up t wf (λ i. Distinct (tree_at t i)) (λ i h f.
      zero-or-suc (child_count t i) (λ e. rw (tree-leaf t wf i h e) tt) (λ n e.
      rw (tree-inner t wf i n h e) (
        λ x. (let r = in-kids (tree_at t) (first_child t i) n i x in
            let c : ChildOf t i r.0 = record { from = r.1; to = omega (arith, r.2) } in
            omega (arith, child-later t wf h c, tree-range r.0 (child-within t wf h c) i r.3)),
        distinct-kids i (first_child t i) n h (omega arith) (omega arith) f,
      )))
