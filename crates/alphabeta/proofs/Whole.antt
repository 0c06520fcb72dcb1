-- The steps of a whole search: the engine's result from the full window is the minimax value, and it counts, marks and
-- lists the leaves that Baudet's condition reaches.
use Rattle.prelude.proofs.{ℕ, ◌≤◌, arith, ◌≡◌, refl, ap, ◌∙◌, List, length, ℤ}
use Rattle.gametree.specs.{greatest, minimax, root_move_of, full_window}
use Rattle.gametree_theory.proofs.Theorems.{value-score, alpha_beta-leaves, alpha_beta-minimax}
use Rattle.table.specs.{frames, tree, valuation, WellFormed, value_of}
use Rattle.table.proofs.Proper.{tree-proper}
use Rattle.table_positions.specs.{written}
use Rattle.certificate_bounds.specs.{ones, progress, evaluate_all}
use Rattle.certificate_bounds.proofs.Listing.{first-evaluated}
use Rattle.certificate_write.specs.{marks_of, listed}
use Rattle.certificate_write.proofs.Outcomes.{search-marks}
use Rattle.methods.specs.declared.Method.TheVariants.{AlphaBeta}
use Rattle.methods.specs.{evaluated_by, findings_by}
use Rattle.methods.proofs.Rules.{decides}

module _ (t : List ℕ) (wf : WellFormed t) where
  module _ (s : ℕ) (d : s ≡ (full_window (valuation t) (tree t)).value) where
    run-score : s ≡ minimax (valuation t) (tree t)
    run-score = d ∙ alpha_beta-minimax (valuation t) (tree t) (tree-proper t wf)

    -- the engine's score has a value
    pub run_small : s ≤ greatest
    run_small = omega (arith, run-score, value-score (valuation t) (tree t) (tree-proper t wf).scored)

  -- the steps together: e is cleared to e₁, the engine makes it e₂ and the list o₂, and m and v are its results
  pub find-gives : (e e₁ e₂ o o₂ : List ℕ) (s n m : ℕ) (v : ℤ)
      → e₁ ≡ written (λ k. 0) (frames t) e
      → (s ≡ (full_window (valuation t) (tree t)).value) × (m ≡ root_move_of (valuation t) (tree t))
      → progress n e₂ o₂ ≡ evaluate_all (progress 0 e₁ o) (full_window (valuation t) (tree t)).evaluated
      → n ≡ ones e₂ (frames t)
      → frames t ≤ length o
      → v ≡ value_of s
      → (record { value = v; root_move = m; leaves = n; steps = 0 } ≡ findings_by AlphaBeta t)
      × ((e₂ ≡ marks_of (evaluated_by AlphaBeta t) t e) × (o₂ ≡ listed (evaluated_by AlphaBeta t) o))
  find-gives e e₁ e₂ o o₂ s n m v cleared found evaluated counted room value =
      let w = evaluated_by AlphaBeta t in
      let g =
      first-evaluated n (frames t) e₁ e₂ o o₂ w
      (evaluated ∙ ap (evaluate_all (progress 0 e₁ o)) (alpha_beta-leaves (valuation t) (tree t))) counted room in
      let x : v ≡ value_of (minimax (valuation t) (tree t)) = value ∙ ap value_of (run-score s found.0) in
      let y = found.1 in
      let z = g.0 in
      (cc, (search-marks t wf w (decides t wf AlphaBeta refl) e e₁ e₂ cleared g.1.0, g.1.1))
