-- MTD(f) with the value for its first guess makes at most two tests.
use Rattle.prelude.proofs.{ℕ, zero, suc, ◌≤◌, ◌<◌, arith, ◌≡◌, refl, ◌∙◌, Bool, true, List, [], ◌∷◌, ◌++◌, eqb, length}
use Rattle.prelude.proofs.{eqb-false, eq-eqb, le-leb, lt-leb}
use Rattle.lists.specs.{among}
use Rattle.gametree.specs.{Tree, minimax, leaves, Scored, low, high, test, view, Strategy, chosen_test, TestSearch}
use Rattle.gametree.specs.{drive, search_by, mtd_from}
use Rattle.lists.proofs.Choice.{cond_cases}
use Rattle.lists.proofs.Lists.{among-left}
use Rattle.gametree_theory.proofs.Minimax.Bounds.{low≤, ≤high, low-none, minimax-score}
use Rattle.gametree_theory.proofs.Tests.Answer.{test-answer}
use Rattle.gametree_theory.proofs.Tests.Progress.{confirmed-low, confirmed-high, test-confirmed}
use Rattle.gametree_theory.proofs.Minimax.Closer.{low-rises}

module _ (ν : ℕ → ℕ) (t : Tree) (h : Scored ν t) where
  -- where the bounds have met no test follows
  pub met-none : (σ : Strategy) (f : ℕ) (bs : List Bool) (w : List ℕ) → low ν (among w) t ≡ high ν (among w) t
      → length (drive ν σ f t bs w).tests ≡ 0
  met-none σ zero bs w e = refl
  met-none σ (suc f) bs w e = rw (eq-eqb _ _ e) refl

  -- a test that the value is not below leaves no low below it
  low-after : (γ : ℕ) (w : List ℕ) → γ ≤ minimax ν t → γ ≤ low ν (among (w ++ (test ν γ w t).evaluated)) t
  low-after γ w k =
      confirmed-low γ (test ν γ w t).not_below _ _ (test-answer ν γ w t h ∙ le-leb γ (minimax ν t) k)
      (test-confirmed ν γ w t h)

  -- and one that it is below a high below it
  high_after : (γ : ℕ) (w : List ℕ) → minimax ν t < γ → high ν (among (w ++ (test ν γ w t).evaluated)) t < γ
  high_after γ w k =
      confirmed-high γ (test ν γ w t).not_below _ _ (test-answer ν γ w t h ∙ lt-leb γ (minimax ν t) k)
      (test-confirmed ν γ w t h)

  -- where the low is the value at most one test follows an answer "not below"
  low-one : (g f : ℕ) (bs : List Bool) (w : List ℕ) → low ν (among w) t ≡ minimax ν t
      → length (drive ν (mtd_from g) f t (true ∷ bs) w).tests ≤ 1
  low-one g zero bs w e = omega arith
  low-one g (suc f) bs w e =
      cond_cases (λ (q : TestSearch). length q.tests ≤ 1) (eqb (low ν (among w) t) (high ν (among w) t)) _ _
      (λ _. omega arith)
      (λ d.
      let i = eqb-false (low ν (among w) t) (high ν (among w) t) d in
      let y = ≤high ν (among w) t h in
      let γ = chosen_test (mtd_from g) (view ν t (true ∷ bs) w) in
      let r = test ν γ w t in
      let v = w ++ r.evaluated in
      let k = high_after γ w (omega arith) in
      let l = low-rises ν (among w) (among v) (among-left w r.evaluated) t in
      let m = low≤ ν (among v) t in
      let n = ≤high ν (among v) t h in
      omega (arith, met-none (mtd_from g) f (r.not_below ∷ true ∷ bs) v (omega arith)))

  -- two tests suffice where the guess is the value
  pub right-guess : length (search_by (mtd_from (minimax ν t)) ν t).tests ≤ 2
  right-guess =
      let σ = mtd_from (minimax ν t) in
      cond_cases (λ (q : TestSearch). length q.tests ≤ 2) (eqb (low ν (among []) t) (high ν (among []) t)) _ _
      (λ _. omega arith)
      (λ d.
      let i = eqb-false (low ν (among []) t) (high ν (among []) t) d in
      let x = low-none ν t in
      let s = minimax-score ν t h in
      let y = ≤high ν (among []) t h in
      let γ = chosen_test σ (view ν t [] []) in
      let r = test ν γ [] t in
      let v = r.evaluated in
      let k = low-after γ [] (omega arith) in
      let m = low≤ ν (among v) t in
      let b : r.not_below ≡ true = test-answer ν γ [] t h ∙ le-leb γ (minimax ν t) (omega arith) in
      let o = low-one (minimax ν t) (length (leaves t)) [] v (omega arith) in
      rw b (omega arith))
