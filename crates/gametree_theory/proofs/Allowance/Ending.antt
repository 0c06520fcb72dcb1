-- How SSS* within an allowance ends: as the full run does, or before the first leaf that the allowance does not cover.
use Rattle.prelude.proofs.{ℕ, zero, suc, ◌+◌, ◌-◌, ◌*◌, ◌≤◌, eq-or-lt_of_le, le_refl, arith, ◌≡◌, refl, sym, ◌∙◌, ap}
use Rattle.prelude.proofs.{subst, ◌⊎◌, inl, inr, ⊎_elim, List, [], ◌∷◌, append-nil, append_assoc, length, length-append}
use Rattle.gametree.specs.{Tree, least, size, Proper, Step, State, empty, stop, quiet, evaluating, step, start, sss}
use Rattle.gametree.specs.{ListAfter, at_start, after_quiet, after_evaluating, finished, spent, resumed, in_full}
use Rattle.gametree.specs.{run_within}
use Rattle.gametree.specs.{sss_within}
use Rattle.gametree_theory.proofs.Minimax.Bounds.{minimax-score}
use Rattle.gametree_theory.proofs.Results.Merits.{list-unique}
use Rattle.gametree_theory.proofs.Sss.Run.{sss-is-mtd}
use Rattle.gametree_theory.proofs.Sss.Lists.{ran-path, resume, list-reached}

-- the run within an allowance of a leaves took the SOLVED root
pub record Whole (ν : ℕ → ℕ) (t : Tree) (a : ℕ) : Type 0 where
  pub made : ℕ
  pub leaves : List ℕ
  pub list : List State
  pub value : ℕ
  pub reached : ListAfter ν t made leaves list
  pub stops : step ν t list ≡ stop value
  pub at_most : length leaves ≤ a
  pub gives : sss_within a ν t ≡ record { end = finished value; evaluated = leaves; replacements = made }

-- it evaluated a leaves, and the next step evaluates one more
pub record Cut (ν : ℕ → ℕ) (t : Tree) (a : ℕ) : Type 0 where
  pub made : ℕ
  pub leaves : List ℕ
  pub list : List State
  pub beyond : ℕ
  pub merit : ℕ
  pub after : List State
  pub reached : ListAfter ν t made leaves list
  pub more : step ν t list ≡ evaluating beyond merit after
  pub all : length leaves ≡ a
  pub gives : sss_within a ν t ≡ record { end = spent merit; evaluated = leaves; replacements = made }

abbrev pub Ending : (ℕ → ℕ) → Tree → ℕ → Type 0
Ending ν t a = Whole ν t a ⊎ Cut ν t a

-- the run within an allowance goes on from each list that it reaches
pub resume-within : (a : ℕ) (ν : ℕ → ℕ) (t : Tree) {k : ℕ} {w : List ℕ} {L : List State}
    → ListAfter ν t k w L → (f b : ℕ) → k + f ≡ 2 * size t → length w + b ≡ a
    → sss_within a ν t ≡ resumed w (run_within ν t f b k L)
resume-within a ν t at_start f b e l =
    let z : f ≡ 2 * size t = omega arith in
    let y : b ≡ a = omega arith in
    rw (z, y) refl
resume-within a ν t (after_quiet r s) f b e l = resume-within a ν t r (suc f) b (omega arith) l ∙ rw s refl
resume-within a ν t (after_evaluating {n = n} {leaves = w} r s) f b e l =
    resume-within a ν t r (suc f) (suc b) (omega arith) (omega (arith, simp length-append at l))
    ∙ rw s (ran-path (sym (append_assoc w (n ∷ []) _)))

module _ (ν : ℕ → ℕ) (t : Tree) (h : Proper ν t) where
  -- each list that is reached has a state: without one the full run would end with `least`, which is no score
  pub never-empty : {k : ℕ} {w : List ℕ} {L : List State} → ListAfter ν t k w L → step ν t L ≡ empty → ⊥
  never-empty {k} r s =
      let m : k + suc (2 * size t - suc k) ≡ 2 * size t = omega (arith, (list-reached ν t h r).at_most) in
      let e : finished (sss ν t).value ≡ finished least =
      ap (λ q. q.end) (resume ν t r (suc (2 * size t - suc k)) m) ∙ rw s refl in
      let v : (sss ν t).value ≡ least = cc in
      omega (arith, (sss-is-mtd ν t h).value-is, (minimax-score ν t h.scored).0)

  -- the full run, where the SOLVED root is taken
  pub stopped : {k v : ℕ} {w : List ℕ} {L : List State} → ListAfter ν t k w L → step ν t L ≡ stop v
      → in_full (sss ν t) ≡ record { end = finished v; evaluated = w; replacements = k }
  stopped {k} {w = w} r s =
      let m : k + suc (2 * size t - suc k) ≡ 2 * size t = omega (arith, (list-reached ν t h r).at_most) in
      resume ν t r (suc (2 * size t - suc k)) m ∙ rw s (ran-path (append-nil w))

  -- the run within an allowance, where the SOLVED root is taken
  pub stopped-within : (a : ℕ) {k v : ℕ} {w : List ℕ} {L : List State} → ListAfter ν t k w L → step ν t L ≡ stop v
      → length w ≤ a → sss_within a ν t ≡ record { end = finished v; evaluated = w; replacements = k }
  stopped-within a {k} {w = w} r s l =
      let m : k + suc (2 * size t - suc k) ≡ 2 * size t = omega (arith, (list-reached ν t h r).at_most) in
      resume-within a ν t r (suc (2 * size t - suc k)) (a - length w) m (omega arith)
      ∙ rw s (ran-path (append-nil w))

  -- and where a leaf is taken that the allowance does not cover
  pub spent-within : (a : ℕ) {k n m : ℕ} {w : List ℕ} {L M : List State} → ListAfter ν t k w L
      → step ν t L ≡ evaluating n m M → length w ≡ a
      → sss_within a ν t ≡ record { end = spent m; evaluated = w; replacements = k }
  spent-within a {k} {w = w} r s l =
      let m : k + suc (2 * size t - suc k) ≡ 2 * size t = omega (arith, (list-reached ν t h r).at_most) in
      resume-within a ν t r (suc (2 * size t - suc k)) 0 m (omega arith)
      ∙ rw s (ran-path (append-nil w))

  -- there is no other end: a list is reached from which the root is taken, or a leaf that is not covered
  module _ (a : ℕ) where
    -- from each list that is reached with f states still to take, and b leaves still allowed
    abbrev EndsFrom : ℕ → Type 0
    EndsFrom f = (b k : ℕ) (w : List ℕ) (L : List State) → ListAfter ν t k w L → k + f ≡ 2 * size t
        → length w + b ≡ a → Ending ν t a

    ending-by : (f : ℕ) → EndsFrom f → (x : Step) (b : ℕ) {k : ℕ} {w : List ℕ} {L : List State}
        → ListAfter ν t k w L
        → step ν t L ≡ x → k + suc f ≡ 2 * size t → length w + b ≡ a → Ending ν t a
    ending-by f i empty b r s e l = absurd (never-empty r s)
    ending-by f i (stop v) b {k} {w} {L} r s e l =
        let m : length w ≤ a = omega arith in
        inl (record {
          made = k;
          leaves = w;
          list = L;
          value = v;
          reached = r;
          stops = s;
          at_most = m;
          gives = stopped-within a r s m;
        })
    ending-by f i (quiet M) b r s e l = i b _ _ _ (after_quiet r s) (omega arith) l
    ending-by f i (evaluating n m M) zero {k} {w} {L} r s e l =
        let c : length w ≡ a = omega arith in
        inr (record {
          made = k;
          leaves = w;
          list = L;
          beyond = n;
          merit = m;
          after = M;
          reached = r;
          more = s;
          all = c;
          gives = spent-within a r s c;
        })
    ending-by f i (evaluating n m M) (suc b) {w = w} r s e l =
        i b _ _ _ (after_evaluating r s) (omega arith) (omega (arith, length-append w (n ∷ [])))

    ending : (f : ℕ) → EndsFrom f
    ending zero b k w L r e l = absurd (omega (arith, (list-reached ν t h r).at_most))
    ending (suc f) b k w L r e l = ending-by f (ending f) (step ν t L) b r refl e l

    pub within-ending : Ending ν t a
    within-ending = ending (2 * size t) a 0 [] (start t) at_start (omega arith) (omega arith)

-- later lists have no fewer leaves behind them
pub leaves-grow : (ν : ℕ → ℕ) (t : Tree) {k j : ℕ} {w v : List ℕ} {L M : List State}
    → ListAfter ν t k w L → ListAfter ν t j v M → k ≤ j → length w ≤ length v
leaves-grow ν t {k} {w = w} {L = L} r q h = go q h
  where
    same : {j : ℕ} {v : List ℕ} {M : List State} → ListAfter ν t j v M → k ≡ j → length w ≤ length v
    same q e =
        let i = (list-unique ν t (subst (λ x. ListAfter ν t x w L) e r) q).0 in
        rw i (le_refl _)

    go : {j : ℕ} {v : List ℕ} {M : List State} → ListAfter ν t j v M → k ≤ j → length w ≤ length v
    go at_start h = same at_start (omega arith)
    go (after_quiet q d) h =
        ⊎_elim (λ e. same (after_quiet q d) e) (λ l. go q (omega arith)) (eq-or-lt_of_le h)
    go (after_evaluating {n = n} {leaves = v} q d) h =
        ⊎_elim (λ e. same (after_evaluating q d) e)
        (λ l. omega (arith, go q (omega arith), length-append v (n ∷ []))) (eq-or-lt_of_le h)
