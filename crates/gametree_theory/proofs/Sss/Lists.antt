-- Every list that SSS* reaches: few replacements led there, the state taken from it has no less merit than the tree has
-- value, and the run goes on from it.
use Rattle.prelude.proofs.{ℕ, zero, suc, ◌+◌, ◌*◌, ◌≤◌, ◌<◌, le_refl, arith, ◌≡◌, refl, sym, ◌∙◌, ap, subst, List, []}
use Rattle.prelude.proofs.{◌∷◌, ◌++◌, append_assoc}
use Rattle.gametree.specs.{Tree, minimax, size, Proper, memo_mtd, State, Step, empty, stop, quiet, evaluating, step}
use Rattle.gametree.specs.{SssRun, follow, run_from, start, sss, ListAfter, at_start, after_quiet, after_evaluating}
use Rattle.gametree.specs.{End}
use Rattle.gametree.specs.{Ran, resumed, in_full}
use Rattle.lists.proofs.Choice.{clash}
use Rattle.gametree_theory.proofs.Sss.Steps.{Steps, done, quietly, evaluates, taken_merit}
use Rattle.gametree_theory.proofs.Mtd.Value.{mtd-right}
use Rattle.gametree_theory.proofs.Results.Merits.{steps-fall}
use Rattle.gametree_theory.proofs.Sss.Work.{full, full_size}
use Rattle.gametree_theory.proofs.Sss.Run.{root-stops, mtd-steps}

-- what is ahead of the list L in a run of SSS* that ends at N, evaluates the leaves W and makes at most A replacements
record Ahead (ν : ℕ → ℕ) (t : Tree) (N : List State) (W : List ℕ) (A k : ℕ) (w : List ℕ)
    (L : List State) : Type 0 where
  left : ℕ
  to_come : List ℕ
  steps : Steps ν t left L to_come N 0
  whole : w ++ to_come ≡ W
  at_most : k + left ≤ A

module _ (ν : ℕ → ℕ) (t : Tree) (N : List State) (W : List ℕ) (A v : ℕ) (e : step ν t N ≡ stop v) where
  -- a quiet step takes the run ahead
  ahead-quiet : {k a : ℕ} {w u : List ℕ} {L M : List State} → Steps ν t a L u N 0 → w ++ u ≡ W → k + a ≤ A
      → step ν t L ≡ quiet M
      → Ahead ν t N W A (suc k) w M
  ahead-quiet (done l) i f s = clash (cc)
  ahead-quiet {u = u} {M = M} (quietly {c = c} {M = M'} q l p) i f s =
      let z : M' ≡ M = cc in
      record { left = c; to_come = u; steps = subst (λ X. Steps ν t c X u N 0) z p; whole = i; at_most = omega arith }
  ahead-quiet (evaluates q l p) i f s = clash (cc)

  -- and so does one that evaluates a leaf
  ahead-evaluating : {k a n m : ℕ} (w : List ℕ) {u : List ℕ} {L M : List State} → Steps ν t a L u N 0 → w ++ u ≡ W
      → k + a ≤ A
      → step ν t L ≡ evaluating n m M → Ahead ν t N W A (suc k) (w ++ (n ∷ [])) M
  ahead-evaluating w (done l) i f s = clash (cc)
  ahead-evaluating w (quietly q l p) i f s = clash (cc)
  ahead-evaluating {n = n} w {M = M} (evaluates {c = c} {M = M'} {w = x} {n = n'} q l p) i f s =
      let z : M' ≡ M = cc in
      let y : n' ≡ n = cc in
      record {
        left = c;
        to_come = x;
        steps = subst (λ X. Steps ν t c X x N 0) z p;
        whole = append_assoc w (n ∷ []) x ∙ ap (λ j. w ++ (j ∷ x)) (sym y) ∙ i;
        at_most = omega arith;
      }

  -- what is ahead of every list
  list-ahead : Steps ν t A (start t) W N 0 → {k : ℕ} {w : List ℕ} {L : List State}
      → ListAfter ν t k w L → Ahead ν t N W A k w L
  list-ahead p at_start = record { left = A; to_come = W; steps = p; whole = refl; at_most = omega arith }
  list-ahead p (after_quiet r s) = let a = list-ahead p r in ahead-quiet a.steps a.whole a.at_most s
  list-ahead p (after_evaluating {leaves = w} r s) =
      let a = list-ahead p r in ahead-evaluating w a.steps a.whole a.at_most s

-- what holds of every list that SSS* reaches, with W the leaves of the whole run
pub record Reaching (ν : ℕ → ℕ) (t : Tree) (W : List ℕ) (k : ℕ) (w : List ℕ)
    (L : List State) : Type 0 where
  -- fewer replacements than twice the number of nodes led to it
  pub at_most : k < 2 * size t
  -- the state taken has no less merit than the tree has value
  pub merit : minimax ν t ≤ taken_merit t L
  -- the leaves so far are the first of the whole run's
  pub to_come : List ℕ
  pub whole : w ++ to_come ≡ W

module _ (ν : ℕ → ℕ) (t : Tree) (h : Proper ν t) where
  -- every list that SSS* reaches
  pub list-reached : {k : ℕ} {w : List ℕ} {L : List State} → ListAfter ν t k w L
      → Reaching ν t (memo_mtd ν t).evaluated k w L
  list-reached {L = L} r =
      let v = (memo_mtd ν t).value in
      let a = list-ahead ν t _ (memo_mtd ν t).evaluated (full t) v (root-stops ν t v) (mtd-steps ν t h) r in
      record {
        at_most = omega (arith, a.at_most, full_size t);
        merit = rw (← (mtd-right ν t h.scored).value) (steps-fall ν t a.steps);
        to_come = a.to_come;
        whole = a.whole;
      }

-- a run by its leaves
pub ran-path : {e : End} {u w : List ℕ} {k : ℕ} → u ≡ w
    → ◌≡◌ {A = Ran} (record { end = e; evaluated = u; replacements = k })
    (record { end = e; evaluated = w; replacements = k })
ran-path p = cc

-- the run goes on from each list that it reaches
pub resume : (ν : ℕ → ℕ) (t : Tree) {k : ℕ} {w : List ℕ} {L : List State} → ListAfter ν t k w L → (f : ℕ)
    → k + f ≡ 2 * size t
    → in_full (sss ν t) ≡ resumed w (in_full (run_from ν t f k L))
resume ν t at_start f e = let z : f ≡ 2 * size t = omega arith in rw z refl
resume ν t (after_quiet r s) f e = resume ν t r (suc f) (omega arith) ∙ rw s refl
resume ν t (after_evaluating {n = n} {leaves = w} r s) f e =
    resume ν t r (suc f) (omega arith) ∙ rw s (ran-path (sym (append_assoc w (n ∷ []) _)))

-- a run counts at least the replacements made before it
follow-more : (s : Step) (k : ℕ) (rest : List State → SssRun) → ((M : List State) → k < (rest M).replacements)
    → k ≤ (follow s k rest).replacements
follow-more empty k rest h = le_refl k
follow-more (stop v) k rest h = le_refl k
follow-more (quiet M) k rest h = omega (arith, h M)
follow-more (evaluating n m M) k rest h = omega (arith, h M)

pub run_more : (ν : ℕ → ℕ) (t : Tree) (f k : ℕ) (L : List State) → k ≤ (run_from ν t f k L).replacements
run_more ν t zero k L = le_refl k
run_more ν t (suc f) k L = follow-more (step ν t L) k _ (λ M. run_more ν t f (suc k) M)
