-- The tree of an accepted table is the one that its frames describe (SPEC 3): laws of `tree`, `tree_at` and
-- `valuation`, by which they are determined.
use Rattle.prelude.proofs.{ℕ, suc, ◌-◌, ◌≤◌, ◌<◌, arith, dec_lt, ◌≡◌, fun_ext, ◌↔◌, List, nat_abs, get_or-eq_default}
use Rattle.gametree.specs.{leaf, inner, number, size, In, Distinct}
use Rattle.table.specs.{frames, byte_of, first_child, child_count, stored_score, depth_of, side_of, ChildOf, value_of}
use Rattle.table.specs.{max_value, worth, Ordinary, children_from, tree_at, tree, valuation, Accepted}
use Rattle.table.proofs.Acceptance.{accepted-stated, accepted-formed}
use Rattle.table.proofs.Parents.{one_parent, parent-child}
use Rattle.table.proofs.Positions.{depth-at-most}
use Rattle.table.proofs.Values.{value-range}
use Rattle.table.proofs.Trees.{zero-or-suc, tree-leaf, tree-inner, tree-number}
use Rattle.table.proofs.Nodes.{in_tree, tree-range, tree-distinct}
use Rattle.table.proofs.Totals.{tree-size}
use Rattle.table.proofs.Worth.{won, lost, score-other, worth-range, ordinary-score, worth-stated}

-- node 0 is the root
pub root-number : (t : List ℕ) → number (tree t) ≡ 0
root-number t = tree-number t 0

module _ (t : List ℕ) (a : Accepted t) where
  -- a frame with the count 0 is a leaf
  pub frame-leaf : (i : ℕ) → i < frames t → child_count t i ≡ 0 → tree_at t i ≡ leaf i
  frame-leaf i h e = tree-leaf t (accepted-formed t a) i h e

  -- any other is an inner node of its side, over as many children as it counts, in order from its first child on
  pub frame-inner : (i n : ℕ) → i < frames t → child_count t i ≡ suc n
      → tree_at t i ≡ inner i (side_of t i) (children_from (tree_at t) (first_child t i) n)
  frame-inner i n h e = tree-inner t (accepted-formed t a) i n h e

  -- the nodes of the tree are the frames of the table
  pub frames-nodes : (p : ℕ) → In p (tree t) ↔ (p < frames t)
  frames-nodes p =
      let wf = accepted-formed t a in (λ i. (tree-range t wf 0 wf.non_empty p i).1, λ h. in_tree t wf p h)

  -- each stands there once
  pub frames-once : Distinct (tree t)
  frames-once = let wf = accepted-formed t a in tree-distinct t wf 0 wf.non_empty

  -- and there are as many nodes as frames
  pub frames-size : size (tree t) ≡ frames t
  frames-size = tree-size t (accepted-formed t a)

  -- each node but the root is the child of exactly one node
  pub frames-parent : (k : ℕ) → 0 < k → k < frames t
      → (i : ℕ) × (i < frames t) × ChildOf t i k × ((j : ℕ) → j < frames t → ChildOf t j k → j ≡ i)
  frames-parent k l h =
      let wf = accepted-formed t a in
      let p = parent-child t wf k l h in
      (_, p.0, p.1, λ j g c. one_parent t wf g p.0 c p.1)

  -- a leaf's score is that of the worth, at its depth, of the value that its bytes 4 and 5 hold
  pub score-worth : (i : ℕ) → i < frames t → value_of (valuation t i)
      ≡ worth (depth_of t i) (value_of (stored_score t i))
  unfolding valuation
  score-worth i h =
      worth-stated (depth_of t i) (stored_score t i)
      (omega (arith, depth-at-most t i, (accepted-formed t a).at_most))

  -- worths at depth d are from -(32,000 - d) to 32,000 - d
  pub worth-within : (i : ℕ) → i < frames t → child_count t i ≡ 0
      → nat_abs (value_of (valuation t i)) ≤ max_value - depth_of t i
  worth-within i h e =
      rw (score-worth i h)
      (worth-range (depth_of t i) (value_of (stored_score t i)) ((accepted-stated t a).shallow i h)
      (value-range (stored_score t i) ((accepted-formed t a).scored i h e)))

  ordinary-stored : Ordinary t → (i : ℕ) → (lost < stored_score t i) × (stored_score t i < won)
  ordinary-stored p i =
      let w = accepted-stated t a in
      elim (dec_lt i (frames t)) [
        | yes h ↦
            zero-or-suc (child_count t i) (λ e. (ordinary-score (stored_score t i)).1 (p i h e)) (λ n e.
            let z = (w.frame i h).inner_value (omega (arith, e)) in (omega arith, omega arith))
        | no h ↦
            let x : byte_of t i 4 ≡ 0 = get_or-eq_default t 0 (omega (arith, w.whole)) in
            let y : byte_of t i 5 ≡ 0 = get_or-eq_default t 0 (omega (arith, w.whole)) in
            (omega arith, omega arith)
      ]

  -- without a win or a loss the scores are those that are stored; inner nodes, and numbers past the table, hold 0
  pub ordinary-scores : Ordinary t → valuation t ≡ stored_score t
  unfolding valuation
  ordinary-scores p =
      fun_ext (λ i.
      let b : (lost < stored_score t i) × (stored_score t i < won) = ordinary-stored p i in
      score-other (depth_of t i) (stored_score t i) b.1 b.0)
