-- The tree of a table, unfolded at each node: a leaf, or an inner node over its children's trees.
use Rattle.prelude.proofs.{ℕ, zero, suc, ◌+◌, ◌-◌, ◌≤◌, ◌<◌, arith, dec_le, ◌≡◌, refl, ap, ap₂, ◌∙◌, inl, inr, List}
use Rattle.gametree.specs.declared.Side.{Side}
use Rattle.gametree.specs.{Tree, leaf, inner, last, ◌then◌, number, In, InChildren}
use Rattle.gametree_theory.proofs.Certificates.Counting.{kid_count}
use Rattle.table.specs.{frames, first_child, child_count, side_of, children_from, node, grow, tree_at, WellFormed}
use Rattle.table.specs.{ChildOf}
use Rattle.table.proofs.Next.{child-later, child-within}

-- the same trees at each number give the same children
pub kids-same : (g h : ℕ → Tree) (i n : ℕ) → ((k : ℕ) → i ≤ k → k ≤ i + n → g k ≡ h k)
    → children_from g i n ≡ children_from h i n
unfolding children_from
kids-same g h i zero e = ap last (e i (omega arith) (omega arith))
kids-same g h i (suc n) e =
    ap₂ ◌then◌ (e i (omega arith) (omega arith)) (kids-same g h (i + 1) n (λ k a b. e k (omega arith) (omega arith)))

pub node-same : (i : ℕ) (s : Side) (g h : ℕ → Tree) (first n : ℕ)
    → ((k : ℕ) → first ≤ k → k < first + n → g k ≡ h k) → node i s g first n ≡ node i s h first n
node-same i s g h first zero e = refl
node-same i s g h first (suc n) e = ap (inner i s) (kids-same g h first n (λ k a b. e k a (omega arith)))

-- they are as many as are counted
pub kids-count : (g : ℕ → Tree) (i n : ℕ) → kid_count (children_from g i n) ≡ suc n
unfolding children_from
kids-count g i zero = refl
kids-count g i (suc n) = ap suc (kids-count g (i + 1) n)

-- a number is in one of the children's trees exactly if it is in the tree of one of the numbers
pub in-kids : (g : ℕ → Tree) (i n p : ℕ) → InChildren p (children_from g i n)
    → (k : ℕ) × (i ≤ k) × (k ≤ i + n) × In p (g k)
unfolding children_from
in-kids g i zero p h = (i, omega arith, omega arith, h)
in-kids g i (suc n) p (inl h) = (i, omega arith, omega arith, h)
in-kids g i (suc n) p (inr h) =
    let r = in-kids g (i + 1) n p h in (r.0, omega (arith, r.1), omega (arith, r.2), r.3)

pub kids-in : (g : ℕ → Tree) (i n p k : ℕ) → i ≤ k → k ≤ i + n → In p (g k) → InChildren p (children_from g i n)
unfolding children_from
kids-in g i zero p k a b h = let e : k ≡ i = omega arith in rw e at h
kids-in g i (suc n) p k a b h =
    elim (dec_le k i) [
      | yes l ↦ inl (let e : k ≡ i = omega arith in rw e at h)
      | no l ↦ inr (kids-in g (i + 1) n p k (omega arith) (omega arith) h)
    ]

-- a number is 0, or the successor of another
pub zero-or-suc {ℓ} : {A : Type ℓ} (n : ℕ) → (n ≡ 0 → A) → ((m : ℕ) → n ≡ suc m → A) → A
zero-or-suc zero f g = f refl
zero-or-suc (suc n) f g = g n refl

module _ (t : List ℕ) (wf : WellFormed t) where
  -- fuel beyond the frames that are left changes nothing
  grow-enough : (f g i : ℕ) → i < frames t → frames t ≤ i + f → frames t ≤ i + g → grow f t i ≡ grow g t i
  unfolding grow
  grow-enough zero g i h a b = absurd (omega arith)
  grow-enough (suc f) zero i h a b = absurd (omega arith)
  grow-enough (suc f) (suc g) i h a b =
      node-same i (side_of t i) (grow f t) (grow g t) (first_child t i) (child_count t i) (λ k l m.
      let c : ChildOf t i k = record { from = l; to = m } in
      grow-enough f g k (child-within t wf h c) (omega (arith, child-later t wf h c))
      (omega (arith, child-later t wf h c)))

  -- the tree at a node: the node over its children's trees
  pub tree-node : (i : ℕ) → i < frames t
      → tree_at t i ≡ node i (side_of t i) (tree_at t) (first_child t i) (child_count t i)
  unfolding tree_at grow
  tree-node i h =
      grow-enough (frames t - i) (suc (frames t)) i h (omega arith) (omega arith)
      ∙ node-same i (side_of t i) (grow (frames t) t) (tree_at t) (first_child t i) (child_count t i) (λ k l m.
      let c : ChildOf t i k = record { from = l; to = m } in
      grow-enough (frames t) (frames t - k) k (child-within t wf h c) (omega arith) (omega arith))

  -- a node without children is a leaf
  pub tree-leaf : (i : ℕ) → i < frames t → child_count t i ≡ 0 → tree_at t i ≡ leaf i
  tree-leaf i h e = tree-node i h ∙ ap (node i (side_of t i) (tree_at t) (first_child t i)) e

  -- a node with n + 1 children is an inner node over their trees
  pub tree-inner : (i n : ℕ) → i < frames t → child_count t i ≡ suc n
      → tree_at t i ≡ inner i (side_of t i) (children_from (tree_at t) (first_child t i) n)
  tree-inner i n h e = tree-node i h ∙ ap (node i (side_of t i) (tree_at t) (first_child t i)) e

node-number : (i : ℕ) (s : Side) (g : ℕ → Tree) (first n : ℕ) → number (node i s g first n) ≡ i
node-number i s g first zero = refl
node-number i s g first (suc n) = refl

grow-number : (t : List ℕ) (f i : ℕ) → number (grow f t i) ≡ i
unfolding grow
grow-number t zero i = refl
grow-number t (suc f) i = node-number i (side_of t i) (grow f t) (first_child t i) (child_count t i)

-- the tree at node i has number i
pub tree-number : (t : List ℕ) (i : ℕ) → number (tree_at t i) ≡ i
unfolding tree_at
tree-number t i = grow-number t (frames t - i) i
