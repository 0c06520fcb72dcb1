-- The evaluations of the full run that an allowance does not cover determine the run within it: by induction on the
-- steps, whatever they are.
use Rattle.prelude.proofs.{ℕ, zero, suc, ◌≡◌, refl, List, [], ◌∷◌, take, drop}
use Rattle.gametree.specs.{Tree, State, Step, empty, stop, quiet, evaluating, step, Evaluation, SssRun, follow}
use Rattle.gametree.specs.{run_from}
use Rattle.gametree.specs.{Ran, spent, in_full, follow_within, run_within}
use Rattle.lists.proofs.Choice.{clash}

-- the run that is spent at the evaluation x, after the first a leaves of the full run r
abbrev pub spent_at : (a : ℕ) → SssRun → Evaluation → Ran
spent_at a r x =
    record { end = spent x.merit; evaluated = take a (in_full r).evaluated; replacements = x.replacements }

module _ (k : ℕ) (full : List State → SssRun) (part : ℕ → List State → Ran) where
  -- what the allowance covers
  module _ (e : (a : ℕ) (M : List State) → drop a (full M).evaluations ≡ [] → part a M ≡ in_full (full M)) where
    covered-by : (s : Step) (a : ℕ) → drop a (follow s k full).evaluations ≡ []
        → follow_within s a k part ≡ in_full (follow s k full)
    covered-by empty a h = refl
    covered-by (stop v) a h = refl
    covered-by (quiet M) a h = e a M h
    covered-by (evaluating n m M) zero h = clash (cc)
    covered-by (evaluating n m M) (suc a) h = rw (e a M h) refl

  -- and what it does not
  module _ (x : Evaluation) (xs : List Evaluation)
      (e : (a : ℕ) (M : List State) → drop a (full M).evaluations ≡ x ∷ xs → part a M ≡ spent_at a (full M) x)
    where
      spent-by : (s : Step) (a : ℕ) → drop a (follow s k full).evaluations ≡ x ∷ xs
          → follow_within s a k part ≡ spent_at a (follow s k full) x
      spent-by empty zero h = clash (cc)
      spent-by empty (suc a) h = clash (cc)
      spent-by (stop v) zero h = clash (cc)
      spent-by (stop v) (suc a) h = clash (cc)
      spent-by (quiet M) a h = e a M h
      spent-by (evaluating n m M) zero h =
          let y : ◌≡◌ {A = Evaluation} (record { leaf = n; merit = m; replacements = k }) x = cc in rw (← y) refl
      spent-by (evaluating n m M) (suc a) h = rw (e a M h) refl

module _ (ν : ℕ → ℕ) (t : Tree) where
  pub run-covered : (f k a : ℕ) (L : List State) → drop a (run_from ν t f k L).evaluations ≡ []
      → run_within ν t f a k L ≡ in_full (run_from ν t f k L)
  run-covered zero k a L h = refl
  run-covered (suc f) k a L h =
      covered-by k (λ M. run_from ν t f (suc k) M) (λ b M. run_within ν t f b (suc k) M)
      (λ b M i. run-covered f (suc k) b M i) (step ν t L) a h

  pub run-spent : (f k a : ℕ) (L : List State) (x : Evaluation) (xs : List Evaluation)
      → drop a (run_from ν t f k L).evaluations ≡ x ∷ xs
      → run_within ν t f a k L ≡ spent_at a (run_from ν t f k L) x
  run-spent zero k zero L x xs h = clash (cc)
  run-spent zero k (suc a) L x xs h = clash (cc)
  run-spent (suc f) k a L x xs h =
      spent-by k (λ M. run_from ν t f (suc k) M) (λ b M. run_within ν t f b (suc k) M) x xs
      (λ b M i. run-spent f (suc k) b M x xs i) (step ν t L) a h
