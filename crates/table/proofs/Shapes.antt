-- Two tables of one shape have one tree, and a leaf on which they agree has one score.
use Rattle.prelude.proofs.{ℕ, zero, suc, ◌+◌, ◌*◌, ◌≤◌, ◌<◌, arith, ◌≡◌, refl, sym, ap, ap₂, ◌∙◌, List}
use Rattle.gametree.specs.declared.Position.{Position}
use Rattle.table.specs.{frames, first_child, child_count, stored_score, parent_before, parent_of, child_position}
use Rattle.table.specs.{position_of, side_of, node, tree_at, tree, leaf_score, valuation, WellFormed, SameShape}
use Rattle.table.specs.{AgreeOn}
use Rattle.table.proofs.Parents.{parent-less, bottom-up}
use Rattle.table.proofs.Positions.{position-root, position-step}
use Rattle.table.proofs.Trees.{tree-node, node-same}

module _ (t u : List ℕ) (s : SameShape t u) where
  -- each node has the same first child, and as many children
  pub same_first : (i : ℕ) → i < frames t → first_child t i ≡ first_child u i
  same_first i h =
      ap₂ (λ x y. x * 256 + y) (s.same_bytes i 0 h (omega arith)) (s.same_bytes i 1 h (omega arith))

  pub same_count : (i : ℕ) → i < frames t → child_count t i ≡ child_count u i
  same_count i h = s.same_bytes i 2 h (omega arith)

  same-before : (k n : ℕ) → n ≤ frames t → parent_before t k n ≡ parent_before u k n
  unfolding parent_before
  same-before k zero h = refl
  same-before k (suc n) h =
      rw (same_first n (omega arith), same_count n (omega arith), same-before k n (omega arith))

  same-child : (k : ℕ) (p : Position) → k < frames t → child_position t k p ≡ child_position u k p
  same-child k p h = rw (s.same_bytes k 3 h (omega arith))

  same-within : (n k : ℕ) → k < n → k < frames t → position_of t k ≡ position_of u k
  same-within zero k l h = absurd (omega arith)
  same-within (suc n) zero l h = position-root t ∙ sym (position-root u)
  same-within (suc n) (suc k) l h =
      let b = parent-less t (suc k) (omega arith) in
      let e : parent_of t (suc k) ≡ parent_of u (suc k) = same-before (suc k) (suc k) (omega arith) in
      position-step t (suc k) (omega arith)
      ∙ ap (λ p. child_position t (suc k) p)
      (same-within n (parent_of t (suc k)) (omega arith) (omega arith) ∙ ap (position_of u) e)
      ∙ same-child (suc k) (position_of u (parent_of u (suc k))) h
      ∙ sym (position-step u (suc k) (omega arith))

  -- each node stands at the same place
  pub same-position : (k : ℕ) → k < frames t → position_of t k ≡ position_of u k
  same-position k h = same-within (suc k) k (omega arith) h

  -- a leaf on which they agree has the same score
  pub same-score : (i : ℕ) → i < frames t → AgreeOn t u i → valuation t i ≡ valuation u i
  unfolding valuation
  same-score i h a =
      let e : stored_score t i ≡ stored_score u i = rw (a.same_high, a.same_low) in
      ap₂ leaf_score (ap (λ p. p.depth) (same-position i h)) e

  -- the trees at each node are the same
  pub same-trees : WellFormed t → WellFormed u → (i : ℕ) → i < frames t → tree_at t i ≡ tree_at u i
  same-trees wt wu =
      bottom-up t wt (λ i. tree_at t i ≡ tree_at u i) (λ i h f.
      tree-node t wt i h
      ∙ node-same i (side_of t i) (tree_at t) (tree_at u) (first_child t i) (child_count t i)
      (λ k a b. f k (record { from = a; to = b }))
      ∙ ap₂ (λ d n. node i d (tree_at u) (first_child t i) n) (ap (λ p. p.side) (same-position i h)) (same_count i h)
      ∙ ap (λ n. node i (side_of u i) (tree_at u) n (child_count u i)) (same_first i h)
      ∙ sym (tree-node u wu i (omega (arith, s.same_frames))))

  -- one shape, one tree
  pub same-tree : WellFormed t → WellFormed u → tree t ≡ tree u
  same-tree wt wu = same-trees wt wu 0 wt.non_empty
