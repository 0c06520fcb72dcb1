-- Who moves at a node goes by the mover at its parent and by byte 3 (SPEC 3.5). Where no byte 3 is 1 it goes by the
-- depth, and the questions and the tree are what they were before byte 3 had a meaning.
use Rattle.prelude.proofs.{ℕ, zero, suc, ◌+◌, ◌%◌, ◌≤◌, ◌<◌, arith, dec_lt, ◌≡◌, refl, sym, ap, ap₂, subst, ◌∙◌}
use Rattle.prelude.proofs.{and-false, or-false, Option, List, ltb, eqb, eq-eqb, ne_eqb}
use Rattle.gametree.specs.{other}
use Rattle.table.specs.declared.Rejection.{Rejection}
use Rattle.table.specs.{frames, first_child, child_count, byte3, same_mover, parent_of, position_of, depth_of, side_of}
use Rattle.table.specs.{node, tree_at, tree, WellFormed, ChildOf, ◌and_then◌, each_node, check1, check2, check3}
use Rattle.table.specs.{check4, check5, check6, check7, check8, depths_rejection, frames_rejection, rejection}
use Rattle.table.specs.{Alternating, zero_check4, zero_frames, zero_rejection, side_by_depth, grow_by_depth}
use Rattle.table.specs.{tree_by_depth}
use Rattle.table.proofs.Parents.{parent-less}
use Rattle.table.proofs.Positions.{position-root, position-step, position-child, depth-child}
use Rattle.table.proofs.Next.{child-later, child-within}
use Rattle.table.proofs.Trees.{node-same, tree-node}

module _ (t : List ℕ) (wf : WellFormed t) {i k : ℕ} (h : i < frames t) (c : ChildOf t i k) where
  -- where byte 3 is 1 the same side moves as at the parent
  pub mover-same : byte3 t k ≡ same_mover → side_of t k ≡ side_of t i
  mover-same e = ap (λ p. p.side) (position-child t wf h c) ∙ rw (eq-eqb (byte3 t k) same_mover e)

  -- where it is zero the other side
  pub mover-other : byte3 t k ≡ 0 → side_of t k ≡ other (side_of t i)
  mover-other e = ap (λ p. p.side) (position-child t wf h c) ∙ rw (ne_eqb (byte3 t k) same_mover (λ o. omega arith))

-- the same checks of each node have the same first "no"
pub each_same : (p q : ℕ → Option Rejection) (i n : ℕ) → ((k : ℕ) → k < i + n → p k ≡ q k)
    → each_node p i n ≡ each_node q i n
unfolding each_node
each_same p q i zero e = refl
each_same p q i (suc n) e =
    ap₂ ◌and_then◌ (e i (omega arith)) (each_same p q (i + 1) n (λ k h. e k (omega arith)))

one_deeper : (d : ℕ) → other (side_by_depth d) ≡ side_by_depth (d + 1)
one_deeper d =
    elim (dec_lt (d % 2) 1) [
      | yes p ↦ rw (eq-eqb (d % 2) 0 (omega arith), ne_eqb ((d + 1) % 2) 0 (λ e. omega arith))
      | no p ↦ rw (ne_eqb (d % 2) 0 (λ e. omega arith), eq-eqb ((d + 1) % 2) 0 (omega arith))
    ]

-- bytes 3 that are all zero are none of them 1
pub zeros-alternate : (t : List ℕ) → ((i : ℕ) → i < frames t → byte3 t i ≡ 0) → Alternating t
zeros-alternate t z i h e = omega (arith, z i h)

module _ (t : List ℕ) (a : Alternating t) where
  -- question 4 passes what it passed
  pub check4-before : (i : ℕ) → i < frames t → check4 t i ≡ zero_check4 t i
  check4-before i h =
      rw (
        ne_eqb (byte3 t i) same_mover (a i h),
        and-false (ltb 0 (child_count t i)),
        and-false (ltb 0 i),
        or-false (eqb (byte3 t i) 0),
      )

  -- and the first "no" to questions 4 to 9 is what it was, and to questions 1 to 9
  pub frames-before : frames_rejection t ≡ zero_frames t
  unfolding frames_rejection
  frames-before =
      ap (λ x. x and_then check8 t and_then depths_rejection t)
      (each_same _ _ 0 (frames t) (λ k h.
      ap (λ x. x and_then check5 t k and_then check6 t k and_then check7 t k) (check4-before k (omega arith))))

  pub rejection-before : rejection t ≡ zero_rejection t
  unfolding rejection
  rejection-before = ap (λ x. check1 t and_then check2 t and_then check3 t and_then x) frames-before

  within-parity : (n k : ℕ) → k < n → k < frames t → side_of t k ≡ side_by_depth (depth_of t k)
  within-parity zero k l h = absurd (omega arith)
  within-parity (suc n) zero l h = subst (λ p. p.side ≡ side_by_depth p.depth) (sym (position-root t)) refl
  within-parity (suc n) (suc k) l h =
      let b = parent-less t (suc k) (omega arith) in
      let p = position_of t (parent_of t (suc k)) in
      subst (λ q. q.side ≡ side_by_depth q.depth) (sym (position-step t (suc k) (omega arith)))
      (rw (ne_eqb (byte3 t (suc k)) same_mover (a (suc k) h))
      (ap other (within-parity n (parent_of t (suc k)) (omega arith) (omega arith)) ∙ one_deeper p.depth))

  -- at even depth Max moves, at odd depth Min
  pub side-parity : (k : ℕ) → k < frames t → side_of t k ≡ side_by_depth (depth_of t k)
  side-parity k h = within-parity (suc k) k (omega arith) h

  module _ (wf : WellFormed t) where
    grown-before : (f i d : ℕ) → i < frames t → frames t ≤ i + f → d ≡ depth_of t i
        → tree_at t i ≡ grow_by_depth f t d i
    unfolding grow_by_depth
    grown-before zero i d h l e = absurd (omega arith)
    grown-before (suc f) i d h l e =
        tree-node t wf i h
        ∙ node-same i (side_of t i) (tree_at t) (grow_by_depth f t (d + 1)) (first_child t i) (child_count t i)
        (λ k a b.
        let c : ChildOf t i k = record { from = a; to = b } in
        grown-before f k (d + 1) (child-within t wf h c) (omega (arith, child-later t wf h c))
        (omega (arith, depth-child t wf h c)))
        ∙ ap (λ s. node i s (grow_by_depth f t (d + 1)) (first_child t i) (child_count t i))
        (side-parity i h ∙ ap side_by_depth (sym e))

    -- and the tree is the one whose sides go by the depth
    pub tree-before : tree t ≡ tree_by_depth t
    tree-before = grown-before (frames t) 0 0 wf.non_empty (omega arith) (sym (ap (λ p. p.depth) (position-root t)))
