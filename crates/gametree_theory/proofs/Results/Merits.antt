-- The merit of the state that SSS* takes never rises, and is never below the minimax value: no state of the list has
-- more, and a replacement gives none more.
use Rattle.prelude.proofs.{ℕ, ◌≤◌, ◌<◌, min, le_refl, le_trans, le_of_lt, eq-or-lt_of_le, arith, ◌≡◌, refl, subst}
use Rattle.prelude.proofs.{⊎_elim, Bool, true, false, cond, none, some, List, [], ◌∷◌, map, ltb, length, length-append}
use Rattle.prelude.proofs.{ltb-true, ltb-false, eqb-true}
use Rattle.lists.specs.{All}
use Rattle.gametree.specs.declared.Side.TheVariants.{Max, Min}
use Rattle.gametree.specs.{Tree, leaf, inner, greatest, Link, root, under, first_of, others_of, subtree_at, link_in}
use Rattle.gametree.specs.{Status}
use Rattle.gametree.specs.{LIVE, SOLVED, State, live, solved, beats, best_state, Step, empty, stop, quiet, evaluating}
use Rattle.gametree.specs.{replace_live, replace_solved, replace, step, ListAfter, at_start, after_quiet}
use Rattle.gametree.specs.{after_evaluating}
use Rattle.lists.proofs.Choice.{clash, or_cases, or-false-both, and_both}
use Rattle.lists.proofs.Lists.{all_map}
use Rattle.gametree_theory.proofs.Sss.Steps.{Steps, done, quietly, evaluates, between, taken, step-taken}
use Rattle.gametree_theory.proofs.Sss.Steps.{taken-all, between-all, taken_merit, purge-all}
use Rattle.gametree_theory.proofs.Sss.Frontier.{AtMost}

-- a state that beats another has no less merit, and one that does not has no more
beats-true : (T : Tree) (s x : State) → beats T s x ≡ true → x.merit ≤ s.merit
beats-true T s x e =
    ⊎_elim (λ p. le_of_lt (ltb-true _ _ p))
    (λ p. let q = eqb-true x.merit s.merit (and_both _ _ p).0 in omega arith)
    (or_cases (ltb x.merit s.merit) _ e)

beats-false : (T : Tree) (s x : State) → beats T s x ≡ false → s.merit ≤ x.merit
beats-false T s x e = ltb-false _ _ (or-false-both (ltb x.merit s.merit) _ e).0

-- so no state of the list has more merit than the one taken
best-greatest : (T : Tree) (s : State) (ss : List State) → AtMost (best_state T s ss).merit (s ∷ ss)
best-greatest T s [] = (le_refl _, tt)
best-greatest T s (x ∷ xs) = here (beats T s (best_state T x xs)) refl (best-greatest T x xs)
  where
    here : (b : Bool) → beats T s (best_state T x xs) ≡ b → AtMost (best_state T x xs).merit (x ∷ xs)
        → AtMost (cond b s (best_state T x xs)).merit (s ∷ x ∷ xs)
    here true e i =
        (le_refl s.merit, all_map _ _ (λ y k. le_trans k (beats-true T s (best_state T x xs) e)) (x ∷ xs) i)
    here false e i = (beats-false T s (best_state T x xs) e, i)

taken-greatest : (T : Tree) (L : List State) → AtMost (taken_merit T L) L
taken-greatest T [] = tt
taken-greatest T (s ∷ ss) = best-greatest T s ss

-- and a list whose merits are at most γ has no state of more taken
taken-at_most : (T : Tree) (γ : ℕ) (L : List State) → AtMost γ L → taken_merit T L ≤ γ
taken-at_most T γ [] h = omega arith
taken-at_most T γ (s ∷ ss) h = (taken-all T (λ x. x.merit ≤ γ) s ss h.0 h.1).1

-- REPLACEMENTS

-- a fact Q of all merits of a list, and what follows of them where a leaf is evaluated, R
abbrev Merits : (ℕ → Type 0) → List State → Type 0
Merits Q L = All (λ s. Q s.merit) L

abbrev StepMerits : (Q R : ℕ → Type 0) → Step → Type 0
StepMerits Q R empty = Unit
StepMerits Q R (stop v) = Unit
StepMerits Q R (quiet M) = Merits Q M
StepMerits Q R (evaluating n m M) = Merits R M

module _ (Q R : ℕ → Type 0) (f : (m : ℕ) → Q m → R m) (g : (m v : ℕ) → Q m → R (min m v)) where
  lives : (m : ℕ) → Q m → (cs : List ℕ) → Merits Q (map (λ n. live n m) cs)
  lives m h [] = tt
  lives m h (c ∷ cs) = (h, lives m h cs)

  module _ (s : State) (A B : List State) (own : Q s.merit) (left : Merits Q A) (right : Merits Q B) where
    put_one : (x : State) → Q x.merit → Merits Q (between A B (x ∷ []))
    put_one x i = between-all (λ x. Q x.merit) A B (x ∷ []) left right (i, tt)

    -- a replacement hands the merit on, or, at a leaf, the lesser of it and the score
    live-merits : (ν : ℕ → ℕ) (t : Tree) → StepMerits Q R (replace_live ν s (between A B) t)
    live-merits ν (leaf n) =
        between-all (λ x. R x.merit) A B (solved s.node (min s.merit (ν s.node)) ∷ [])
        (all_map _ _ (λ x i. f x.merit i) A left) (all_map _ _ (λ x i. f x.merit i) B right) (g _ _ own, tt)
    live-merits ν (inner n Max ks) =
        between-all (λ x. Q x.merit) A B (map (λ c. live c s.merit) (first_of ks ∷ others_of ks)) left right
        (lives _ own (first_of ks ∷ others_of ks))
    live-merits ν (inner n Min ks) = put_one (live (first_of ks) s.merit) own

    solved-merits : (T : Tree) (c : Link) → StepMerits Q R (replace_solved T s (between A B) c)
    solved-merits T root = tt
    solved-merits T (under p Max b) =
        purge-all T p (λ x. Q x.merit) (between A B (solved p s.merit ∷ [])) (put_one (solved p s.merit) own)
    solved-merits T (under p Min none) = put_one (solved p s.merit) own
    solved-merits T (under p Min (some b)) = put_one (live b s.merit) own

    replace-merits : (ν : ℕ → ℕ) (T : Tree) (u : Status) → StepMerits Q R (replace ν T s (between A B) u)
    replace-merits ν T LIVE = live-merits ν (subtree_at s.node T)
    replace-merits ν T SOLVED = solved-merits T (link_in T s.node)

  -- so what holds of all merits of a list holds of them after a step
  step-merits : (ν : ℕ → ℕ) (T : Tree) (L : List State) → Merits Q L → StepMerits Q R (step ν T L)
  step-merits ν T [] h = tt
  step-merits ν T (s ∷ ss) h =
      let k = taken T s ss in
      let a = taken-all T (λ x. Q x.merit) s ss h.0 h.1 in
      rw (step-taken ν T s ss)
      (replace-merits (best_state T s ss) k.left k.right a.1 a.0 a.2 ν T (best_state T s ss).status)

-- RUNS

module _ (ν : ℕ → ℕ) (t : Tree) where
  -- no merit after a step exceeds that of the state taken
  step-at_most : (L : List State) → StepMerits (λ m. m ≤ taken_merit t L) (λ m. m ≤ taken_merit t L) (step ν t L)
  step-at_most L =
      step-merits _ _ (λ m h. h) (λ m v h. omega arith) ν t L (taken-greatest t L)

  -- so the merit taken does not rise in a step
  quiet-falls : (L M : List State) → step ν t L ≡ quiet M → taken_merit t M ≤ taken_merit t L
  quiet-falls L M e = taken-at_most t _ M (subst (StepMerits _ _) e (step-at_most L))

  evaluating-falls : (L M : List State) (n m : ℕ) → step ν t L ≡ evaluating n m M → taken_merit t M ≤ taken_merit t L
  evaluating-falls L M n m e = taken-at_most t _ M (subst (StepMerits _ _) e (step-at_most L))

  -- nor in several
  pub steps-fall : {a b : ℕ} {L N : List State} {w : List ℕ} → Steps ν t a L w N b → taken_merit t N ≤ taken_merit t L
  steps-fall (done k) = le_refl _
  steps-fall (quietly {L = L} {M = M} e k p) = le_trans (steps-fall p) (quiet-falls L M e)
  steps-fall (evaluates {L = L} {M = M} {n = n} {m = m} e k p) =
      le_trans (steps-fall p) (evaluating-falls L M n m e)

  -- the list after a number of replacements, and the leaves that they evaluated, are determined
  pub list-unique : {k : ℕ} {w v : List ℕ} {L M : List State} → ListAfter ν t k w L → ListAfter ν t k v M
      → (w ≡ v) × (L ≡ M)
  list-unique at_start at_start = (refl, refl)
  list-unique (after_quiet r e) (after_quiet q d) = let i = list-unique r q in (i.0, cc i.1)
  list-unique (after_quiet r e) (after_evaluating q d) =
      let i = list-unique r q in clash (cc i.1)
  list-unique (after_evaluating r e) (after_quiet q d) =
      let i = list-unique r q in clash (cc i.1)
  list-unique (after_evaluating r e) (after_evaluating q d) =
      let i = list-unique r q in
      (cc (i.0, i.1), cc i.1)

  -- so is the merit taken
  same-merit : {k j : ℕ} {w v : List ℕ} {L M : List State} → ListAfter ν t k w L → ListAfter ν t j v M
      → k ≡ j → taken_merit t M ≤ taken_merit t L
  same-merit {w = w} {L = L} r q e =
      let i = (list-unique (subst (λ x. ListAfter ν t x w L) e r) q).1 in
      rw i (le_refl _)

  -- which never rises along a run
  pub run-falls : {k j : ℕ} {w v : List ℕ} {L M : List State} → ListAfter ν t k w L → ListAfter ν t j v M
      → k ≤ j → taken_merit t M ≤ taken_merit t L
  run-falls r at_start h = same-merit r at_start (omega arith)
  run-falls r (after_quiet {L = L} {M = M} q d) h =
      ⊎_elim (λ e. same-merit r (after_quiet q d) e)
      (λ l. le_trans (quiet-falls L M d) (run-falls r q (omega arith))) (eq-or-lt_of_le h)
  run-falls r (after_evaluating {n = n} {m = m} {L = L} {M = M} q d) h =
      ⊎_elim (λ e. same-merit r (after_evaluating q d) e)
      (λ l. le_trans (evaluating-falls L M n m d) (run-falls r q (omega arith))) (eq-or-lt_of_le h)

  -- until a leaf is evaluated all merits are those of the start
  first-merits : {k : ℕ} {w : List ℕ} {L : List State} → ListAfter ν t k w L → length w ≡ 0
      → Merits (λ m. m ≡ greatest) L
  first-merits at_start e = (refl, tt)
  first-merits (after_quiet {L = L} {M = M} r s) e =
      subst (StepMerits (λ m. m ≡ greatest) (λ _. Unit)) s
      (step-merits (λ m. m ≡ greatest) (λ _. Unit) (λ m h. tt) (λ m v h. tt) ν t L (first-merits r e))
  first-merits (after_evaluating {leaves = w} r s) e = absurd (omega (arith, simp length-append at e))

  -- so is that of the state taken
  pub first-merit : {k : ℕ} {w : List ℕ} (L : List State) → ListAfter ν t k w L → length w ≡ 0
      → 0 < length L → taken_merit t L ≡ greatest
  first-merit [] r e n = absurd (omega arith)
  first-merit (s ∷ ss) r e n =
      let h = first-merits r e in
      (taken-all t (λ x. x.merit ≡ greatest) s ss h.0 h.1).1
