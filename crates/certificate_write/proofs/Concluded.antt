-- Bounds, flags and the move depend on the marks of the table's nodes only.
use Rattle.prelude.proofs.{ℕ, ◌+◌, ◌≤◌, ◌<◌, le_of_eq, arith, ◌≡◌, sym, ap, ap₂, ◌∙◌, Bool, cond, List}
use Rattle.gametree.specs.declared.Side.{Side}
use Rattle.gametree.specs.declared.Side.TheVariants.{Max, Min}
use Rattle.gametree.specs.{known, worst, flag, bound_move}
use Rattle.gametree_theory.proofs.Minimax.Bounds.{minimax-mono}
use Rattle.table.specs.{frames, child_count, next, side_of, tree_at, tree, valuation, WellFormed}
use Rattle.table.proofs.Next.{next_more, next-within}
use Rattle.table.proofs.Parents.{top-down}
use Rattle.table.proofs.Proper.{every-leaf}
use Rattle.table_positions.specs.{written}
use Rattle.certificate_bounds.specs.{mark, marked, bound_of}
use Rattle.certificate_flags.specs.{first_equal}
use Rattle.table_positions.proofs.Buffers.{written_same}
use Rattle.certificate_flags.proofs.Chosen.{first-same}
use Rattle.certificate_write.proofs.Chosen.{chosen_of, chosen-root}
use Rattle.certificate_write.proofs.Solutions.{child_in, solution, solution-root, solution-child}
use Rattle.certificate_write.proofs.Marks.{marked-written}

bound-under : (t : List ℕ) → WellFormed t → (E F : ℕ → Bool) → ((k : ℕ) → k < frames t → E k ≡ F k) → (x i : ℕ)
    → i < frames t → bound_of t E x i ≤ bound_of t F x i
bound-under t wf E F same x i h =
    let μ = known (valuation t) E x in
    let ν = known (valuation t) F x in
    minimax-mono μ ν (tree_at t i)
    (every-leaf t wf (λ k. μ k ≤ ν k) (λ k l _. le_of_eq (ap (λ b. cond b (valuation t k) x) (same k l))) i h)

module _ (t : List ℕ) (wf : WellFormed t) (E F : ℕ → Bool) (same : (k : ℕ) → k < frames t → E k ≡ F k) where
  -- the same bounds
  pub bound-same : (x i : ℕ) → i < frames t → bound_of t E x i ≡ bound_of t F x i
  bound-same x i h = omega (arith, bound-under t wf E F same x i h, bound-under t wf F E (λ k l. sym (same k l)) x i h)

  -- the same chosen children
  pub chosen-same : (s : Side) (i : ℕ) → i < frames t → chosen_of t E s i ≡ chosen_of t F s i
  unfolding chosen_of
  chosen-same s i h =
      let x = worst s in
      first-same (bound_of t E x) (bound_of t F x) (bound_of t E x i) (next t i) (child_count t i)
      (λ k l m. bound-same x k (omega (arith, next_more t i, next-within t wf (i + 1) (omega arith))))
      ∙ ap (λ v. first_equal (bound_of t F x) v (next t i) (child_count t i)) (bound-same x i h)

  solution-same : (p : Side) (k : ℕ) → k < frames t → solution t wf E p k ≡ solution t wf F p k
  solution-same p =
      top-down t wf (λ k. solution t wf E p k ≡ solution t wf F p k)
      (solution-root t wf E p ∙ sym (solution-root t wf F p))
      (λ i k h c e.
      solution-child t wf E p i k h c
      ∙ ap₂ (λ b x. child_in p (side_of t i) b x k) e (chosen-same (side_of t i) i h)
      ∙ sym (solution-child t wf F p i k h c))

  -- the same flags
  pub flag_same : (k : ℕ) → k < frames t → flag (valuation t) E (tree t) k ≡ flag (valuation t) F (tree t) k
  flag_same k h = ap₂ (λ x y. cond x 1 0 + cond y 2 0) (solution-same Max k h) (solution-same Min k h)

  -- the same move
  pub move_same : bound_move (valuation t) E (tree t) ≡ bound_move (valuation t) F (tree t)
  move_same = sym (chosen-root t wf E) ∙ chosen-same (side_of t 0) 0 wf.non_empty ∙ chosen-root t wf F

-- what `write_certificate` gives from the marks e of a set E of nodes is what the definitions give from E
pub concluded : (t : List ℕ) → WellFormed t → (E : ℕ → Bool) (b e c : List ℕ) → e ≡ written (mark E) (frames t) b
    → (bound_move (valuation t) (marked e) (tree t) ≡ bound_move (valuation t) E (tree t))
    × (written (flag (valuation t) (marked e) (tree t)) (frames t) c
    ≡ written (flag (valuation t) E (tree t)) (frames t) c)
concluded t wf E b e c q =
    let same : (k : ℕ) → k < frames t → marked e k ≡ E k =
    λ k h. ap (λ l. marked l k) q ∙ marked-written E (frames t) b k h in (
      move_same t wf (marked e) E same,
      written_same _ _ (frames t) c (flag_same t wf (marked e) E same),
    )
