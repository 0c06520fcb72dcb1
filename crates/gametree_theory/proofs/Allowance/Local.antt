-- SSS*, within an allowance and in full, depends only on the scores of the leaves that it evaluates.
use Rattle.prelude.proofs.{ℕ, zero, suc, min, le_refl, ◌≡◌, refl, sym, ◌∙◌, ap, subst, List, [], ◌∷◌, length, drop}
use Rattle.prelude.proofs.{drop_of_length-le}
use Rattle.lists.specs.{All}
use Rattle.gametree.specs.declared.Side.TheVariants.{Max, Min}
use Rattle.gametree.specs.{Tree, leaf, inner, subtree_at, Status, LIVE, SOLVED, State, best_state, put, Step, empty}
use Rattle.gametree.specs.{stop}
use Rattle.gametree.specs.{quiet, evaluating, solved, replace_live, replace, step, Evaluation, run_from, Ran, in_full}
use Rattle.gametree.specs.{follow_within, run_within}
use Rattle.lists.proofs.Choice.{clash}
use Rattle.gametree_theory.proofs.Allowance.Evaluations.{run-covered, run-spent}

module _ (ν μ : ℕ → ℕ) where
  -- two steps that differ at most by the score of the leaf that they evaluate
  data Near : Step → Step → Type 0 where
    same : {x : Step} → Near x x
    scored : {n m : ℕ} {M N : List State} → (ν n ≡ μ n → M ≡ N) → Near (evaluating n m M) (evaluating n m N)

  module _ (s : State) (p : List State → List State) where
    live-near : (t : Tree) → Near (replace_live ν s p t) (replace_live μ s p t)
    live-near (leaf n) = scored (λ e. ap (λ v. p (solved s.node (min s.merit v) ∷ [])) e)
    live-near (inner n Max ks) = same
    live-near (inner n Min ks) = same

    replace-near : (T : Tree) (u : Status) → Near (replace ν T s p u) (replace μ T s p u)
    replace-near T LIVE = live-near (subtree_at s.node T)
    replace-near T SOLVED = same

  step-near : (T : Tree) (L : List State) → Near (step ν T L) (step μ T L)
  step-near T [] = same
  step-near T (s ∷ ss) = replace-near (best_state T s ss) (put T s ss) T (best_state T s ss).status

  abbrev Agreed : List ℕ → Type 0
  Agreed w = All (λ n. ν n ≡ μ n) w

  module _ (f g : ℕ → List State → Ran) (e : (a : ℕ) (M : List State) → Agreed (f a M).evaluated → f a M ≡ g a M) where
    follow-same : (x : Step) (a k : ℕ) → Agreed (follow_within x a k f).evaluated
        → follow_within x a k f ≡ follow_within x a k g
    follow-same empty a k h = refl
    follow-same (stop v) a k h = refl
    follow-same (quiet M) a k h = e a M h
    follow-same (evaluating n m M) zero k h = refl
    follow-same (evaluating n m M) (suc a) k h = rw (e a M h.1) refl

    follow-near : {x y : Step} → Near x y → (a k : ℕ) → Agreed (follow_within x a k f).evaluated
        → follow_within x a k f ≡ follow_within y a k g
    follow-near {x} same a k h = follow-same x a k h
    follow-near (scored i) zero k h = refl
    follow-near (scored {n = n} {m = m} {M = M} i) (suc a) k h =
        rw (← i h.0) (follow-same (evaluating n m M) (suc a) k h)

  -- a run gives the same under valuations that agree on the leaves that it evaluates
  pub run_within-local : (T : Tree) (f a k : ℕ) (L : List State) → Agreed (run_within ν T f a k L).evaluated
      → run_within ν T f a k L ≡ run_within μ T f a k L
  run_within-local T zero a k L h = refl
  run_within-local T (suc f) a k L h =
      follow-near (λ b M. run_within ν T f b (suc k) M) (λ b M. run_within μ T f b (suc k) M)
      (λ b M i. run_within-local T f b (suc k) M i) (step-near T L) a k h

  -- so does the full run, which is the run within an allowance that covers it
  pub run_from-local : (T : Tree) (f k : ℕ) (L : List State) → Agreed (in_full (run_from ν T f k L)).evaluated
      → in_full (run_from ν T f k L) ≡ in_full (run_from μ T f k L)
  run_from-local T f k L h = by_left (drop a (run_from μ T f k L).evaluations) refl
    where
      a : ℕ
      a = length (run_from ν T f k L).evaluations

      as-within : in_full (run_from ν T f k L) ≡ run_within μ T f a k L
      as-within =
          let c = run-covered ν T f k a L (drop_of_length-le (run_from ν T f k L).evaluations {i = a} (le_refl a)) in
          sym c ∙ run_within-local T f a k L (subst (λ r. Agreed r.evaluated) (sym c) h)

      by_left : (xs : List Evaluation) → drop a (run_from μ T f k L).evaluations ≡ xs
          → in_full (run_from ν T f k L) ≡ in_full (run_from μ T f k L)
      by_left [] i = as-within ∙ run-covered μ T f k a L i
      by_left (x ∷ xs) i = clash (cc (ap (λ r. r.end) (as-within ∙ run-spent μ T f k a L x xs i)))
