-- The theorems for use on SSS* within an allowance of leaves, in the manner of Theorems: each says in one sentence what
-- it gives. First comes what the run is in terms of the full run's evaluations.
use Rattle.prelude.proofs.{ℕ, ◌-◌, ◌*◌, ◌≤◌, ◌<◌, le_refl, le_of_lt, arith, ◌≡◌, refl, sym, ◌∙◌, ap, subst, ◌↔◌, ◌⊎◌}
use Rattle.prelude.proofs.{inl, inr, ⊎_elim, Bool, true, false, List, [], ◌∷◌, ◌++◌, length, length-append, length-map}
use Rattle.prelude.proofs.{take, take-append-drop, drop, leb, take_all, take_at, leb-true, leb-false}
use Rattle.lists.specs.{All, among, Once}
use Rattle.gametree.specs.{Tree, greatest, minimax, size, leaves, leaf_count, Proper, full_window, Decided, State, stop}
use Rattle.gametree.specs.{evaluating, step, Evaluation, start, sss, ListAfter, at_start, after_evaluating, finished}
use Rattle.gametree.specs.{spent, in_full, sss_within}
use Rattle.gametree_theory.proofs.Searches.{sss_evaluated, by_sss}
use Rattle.lists.proofs.Choice.{clash}
use Rattle.lists.proofs.Lists.{all_left, once-left, once-length}
use Rattle.gametree_theory.proofs.Minimax.Bounds.{low-none}
use Rattle.gametree_theory.proofs.Minimax.Counts.{once-count, leaves-size}
use Rattle.gametree_theory.proofs.Theorems.{value-score, sss-minimax, sss-replacements, list-few, merit-bound}
use Rattle.gametree_theory.proofs.Theorems.{merit-start, list-prefix, list-resumes, merit-falls, search-decides}
use Rattle.gametree_theory.proofs.Theorems.{search-once, domination, search-deciding}
use Rattle.gametree_theory.proofs.Sss.Steps.{merit-taken}
use Rattle.gametree_theory.proofs.Sss.Lists.{run_more}
use Rattle.gametree_theory.proofs.Allowance.Ending.{Whole, Cut, stopped, stopped-within, spent-within}
use Rattle.gametree_theory.proofs.Allowance.Ending.{within-ending, leaves-grow}
use Rattle.gametree_theory.proofs.Allowance.Local.{run_within-local}
use Rattle.gametree_theory.proofs.Allowance.Evaluations.{spent_at, run-covered, run-spent}

module _ (ν : ℕ → ℕ) (t : Tree) where
  -- there are as many evaluations as leaves evaluated
  pub evaluations-count : length (sss ν t).evaluations ≡ length (sss_evaluated ν t)
  evaluations-count = sym (length-map (sss ν t).evaluations (λ x. x.leaf))

  module _ (a : ℕ) where
    -- where an allowance covers them all, the run is the full run
    pub covered-full : drop a (sss ν t).evaluations ≡ [] → sss_within a ν t ≡ in_full (sss ν t)
    covered-full h = run-covered ν t (2 * size t) 0 a (start t) h

    -- where it does not, the run is spent at the first that is left: with the merit of its state, the replacements
    -- before it, and as many first leaves of the full run as are allowed
    pub spent-first : (x : Evaluation) (xs : List Evaluation) → drop a (sss ν t).evaluations ≡ x ∷ xs
        → sss_within a ν t ≡ spent_at a (sss ν t) x
    spent-first x xs h = run-spent ν t (2 * size t) 0 a (start t) x xs h

module _ (ν : ℕ → ℕ) (t : Tree) (h : Proper ν t) where
  module _ (a : ℕ) where
    -- a run that took the root is the full run
    whole-full : Whole ν t a → (sss_within a ν t ≡ in_full (sss ν t)) × (length (sss_evaluated ν t) ≤ a)
    whole-full x =
        let s = stopped ν t h x.reached x.stops in
        (x.gives ∙ sym s, subst (λ r. length r.evaluated ≤ a) (sym s) x.at_most)

    -- and one that was cut has leaves of the full run ahead
    cut-more : Cut ν t a → a < length (sss_evaluated ν t)
    cut-more x =
        let p = list-prefix ν t h (after_evaluating x.reached x.more) in
        let n = simp length-append at (ap length p.1) in
        omega (arith, n, x.all)

    -- an allowance of as many leaves as the full run evaluates, or more, gives the full run
    pub within-full : length (sss_evaluated ν t) ≤ a → sss_within a ν t ≡ in_full (sss ν t)
    within-full l =
        ⊎_elim (λ x. (whole-full x).0) (λ x. absurd (omega (arith, cut-more x))) (within-ending ν t h a)

    cut : a < length (sss_evaluated ν t) → Cut ν t a
    cut l = ⊎_elim (λ x. absurd (omega (arith, (whole-full x).1))) (λ x. x) (within-ending ν t h a)

    -- the run ends with the minimax value or spent, and never otherwise
    pub within-ends : ((sss_within a ν t).end ≡ finished (minimax ν t)) ⊎ ((m : ℕ) × ((sss_within a ν t).end ≡ spent m))
    within-ends =
        ⊎_elim (λ x. inl (ap (λ r. r.end) (whole-full x).0 ∙ ap finished (sss-minimax ν t h)))
        (λ x. inr (x.merit, ap (λ r. r.end) x.gives)) (within-ending ν t h a)

    finished-few : (v : ℕ) → (sss_within a ν t).end ≡ finished v → length (sss_evaluated ν t) ≤ a
    finished-few v e =
        ⊎_elim (λ x. (whole-full x).1)
        (λ x. clash (cc (e, ap (λ r. r.end) x.gives)))
        (within-ending ν t h a)

    -- a spent run stands at a list of the full run, after as many leaves as are allowed, and a leaf is taken from it
    pub within-cut : (m : ℕ) → (sss_within a ν t).end ≡ spent m → Cut ν t a
    within-cut m e =
        ⊎_elim
        (λ x. clash (cc (e, ap (λ r. r.end) x.gives)))
        (λ x. x) (within-ending ν t h a)

    -- a value is given exactly if the full run evaluates no more leaves than allowed; it is the minimax value
    pub within-finished : ((sss_within a ν t).end ≡ finished (minimax ν t))
        ↔ (length (sss_evaluated ν t) ≤ a)
    within-finished =
        (λ e. finished-few _ e, λ l. ap (λ r. r.end) (within-full l) ∙ ap finished (sss-minimax ν t h))

    -- spent is given exactly if it evaluates more
    pub within-spent : ((m : ℕ) × ((sss_within a ν t).end ≡ spent m)) ↔ (a < length (sss_evaluated ν t))
    within-spent = (
      λ e. cut-more (within-cut e.0 e.1),
      λ l. let x = cut l in (x.merit, ap (λ r. r.end) x.gives),
    )

    -- a run that gives a value is the full run, in its leaves and its replacements too
    pub within-value : (v : ℕ) → (sss_within a ν t).end ≡ finished v → sss_within a ν t ≡ in_full (sss ν t)
    within-value v e = within-full (finished-few v e)

    -- the leaves are the first of the full run's, as many as are allowed
    pub within-leaves : (sss_within a ν t).evaluated ≡ take a (sss_evaluated ν t)
    within-leaves =
        ⊎_elim
        (λ x. ap (λ r. r.evaluated) (whole-full x).0 ∙ sym (take_all a _ (whole-full x).1))
        (λ x.
        let p = list-prefix ν t h x.reached in
        ap (λ r. r.evaluated) x.gives ∙ sym (take_at x.leaves p.0 a x.all) ∙ ap (take a) p.1)
        (within-ending ν t h a)

    -- a spent run evaluates as many as are allowed
    pub within_count : (m : ℕ) → (sss_within a ν t).end ≡ spent m → length (sss_within a ν t).evaluated ≡ a
    within_count m e = let x = within-cut m e in ap (λ r. length r.evaluated) x.gives ∙ x.all

    -- what it gives is the merit of the state taken there
    pub within-cut-merit : (m : ℕ) (e : (sss_within a ν t).end ≡ spent m) → (within-cut m e).merit ≡ m
    within-cut-merit m e = cc (e, ap (λ r. r.end) (within-cut m e).gives)

    -- the merit is not below the minimax value, nor above `greatest`
    pub within-merit : (m : ℕ) → (sss_within a ν t).end ≡ spent m → (minimax ν t ≤ m) × (m ≤ greatest)
    within-merit m e =
        let x = within-cut m e in
        let n = sym (merit-taken ν t x.list x.more) ∙ within-cut-merit m e in (
          rw (← n) (merit-bound ν t h x.reached),
          rw (← n) (merit-falls ν t at_start x.reached (omega arith)),
        )

    -- no more replacements are made than in the full run, and fewer than twice the number of nodes
    pub within-replacements : ((sss_within a ν t).replacements ≤ (sss ν t).replacements)
        × ((sss ν t).replacements < 2 * size t)
    within-replacements = (
      ⊎_elim (λ x. rw (whole-full x).0 (le_refl _))
          (λ x.
          let k = x.made in
          let f : ℕ = 2 * size t - k in
          let r = list-resumes ν t h x.reached f (omega (arith, list-few ν t h x.reached)) in
          rw x.gives (subst (λ q. k ≤ q.replacements) (sym r) (run_more ν t f k x.list)))
          (within-ending ν t h a),
      sss-replacements ν t h,
    )

  -- of two runs that are cut, the one with the larger allowance has no more merit
  cuts-fall : (a b : ℕ) → a ≤ b → (x : Cut ν t a) (y : Cut ν t b)
      → y.merit ≤ x.merit
  cuts-fall a b l x y = at (leb x.made y.made) refl
    where
      at : (c : Bool) → leb x.made y.made ≡ c → y.merit ≤ x.merit
      at true c =
          let f = merit-falls ν t x.reached y.reached (leb-true _ _ c) in
          omega (arith, merit-taken ν t x.list x.more, merit-taken ν t y.list y.more)
      at false c =
          let s = leaves-grow ν t y.reached x.reached (le_of_lt (leb-false _ _ c)) in
          let z : a ≡ b = omega (arith, x.all, y.all) in
          let u = ap (λ c. (sss_within c ν t).end) z in
          let w : x.merit ≡ y.merit =
          cc (u, ap (λ r. r.end) x.gives, ap (λ r. r.end) y.gives) in
          omega arith

  -- a larger allowance that is spent too never gives a greater merit
  pub within-falls : (a b m n : ℕ) → a ≤ b → (sss_within a ν t).end ≡ spent m → (sss_within b ν t).end ≡ spent n
      → n ≤ m
  within-falls a b m n l e f =
      let i = cuts-fall a b l (within-cut a m e) (within-cut b n f) in
      omega (arith, i, within-cut-merit a m e, within-cut-merit b n f)

  -- a value once given is the whole result under every larger allowance
  pub within-larger : (a b v : ℕ) → a ≤ b → (sss_within a ν t).end ≡ finished v
      → sss_within b ν t ≡ sss_within a ν t
  within-larger a b v l e =
      let f = finished-few a v e in
      within-full b (omega arith) ∙ sym (within-full a f)

  -- FROM A LIST THAT THE FULL RUN REACHES: for the proof of code that runs within an allowance

  -- where the root is taken from it, SOLVED, the run ends with its merit
  pub within-stops : (a : ℕ) {k v : ℕ} {w : List ℕ} {L : List State} → ListAfter ν t k w L → step ν t L ≡ stop v
      → length w ≤ a → sss_within a ν t ≡ record { end = finished v; evaluated = w; replacements = k }
  within-stops a r s l = stopped-within ν t h a r s l

  -- where a leaf is taken and the allowance is used up, it ends spent
  pub within-cuts : (a : ℕ) {k n m : ℕ} {w : List ℕ} {L M : List State} → ListAfter ν t k w L
      → step ν t L ≡ evaluating n m M → length w ≡ a
      → sss_within a ν t ≡ record { end = spent m; evaluated = w; replacements = k }
  within-cuts a r s l = spent-within ν t h a r s l

module _ (ν : ℕ → ℕ) (t : Tree) (r : Proper ν t) where
  some-leaf : 0 < length (sss_evaluated ν t)
  some-leaf = at (sss_evaluated ν t) (search-decides ν t r by_sss)
    where
      at : (w : List ℕ) → Decided ν (among w) t → 0 < length w
      at [] e = absurd (omega (arith, e.low_is, low-none ν t, (value-score ν t r.scored).0))
      at (n ∷ w) e = omega arith

  -- with allowance 0 the run is spent, with `greatest`, and no leaf is evaluated
  pub within_none : ((sss_within 0 ν t).end ≡ spent greatest) × ((sss_within 0 ν t).evaluated ≡ [])
  within_none =
      let x = cut ν t r 0 some-leaf in
      let m = merit-taken ν t x.list x.more ∙ merit-start ν t r x.reached x.all in
      (ap (λ q. q.end) x.gives ∙ ap spent m, within-leaves ν t r 0)

  -- the full run evaluates no more leaves than the tree has nodes
  pub full-few : length (sss_evaluated ν t) ≤ size t
  full-few =
      omega (
        arith,
        once-length (sss_evaluated ν t) (leaves t) (search-once ν t r by_sss) (search-deciding ν t r by_sss).own,
        leaves-size t,
      )

  module _ (a : ℕ) where
    full-split : sss_evaluated ν t ≡ (sss_within a ν t).evaluated ++ drop a (sss_evaluated ν t)
    full-split =
        sym (take-append-drop a _)
        ∙ ap (λ w. w ++ drop a (sss_evaluated ν t)) (sym (within-leaves ν t r a))

    -- what holds of all leaves of the full run holds of those of the run within the allowance
    pub within_all : (P : ℕ → Type 0) → All P (sss_evaluated ν t) → All P (sss_within a ν t).evaluated
    within_all P e =
        all_left P (sss_within a ν t).evaluated (drop a (sss_evaluated ν t)) (subst (All P) full-split e)

    -- no leaf is evaluated twice
    pub within-once : Once (sss_within a ν t).evaluated
    within-once =
        once-left (sss_within a ν t).evaluated (drop a (sss_evaluated ν t))
        (subst Once full-split (search-once ν t r by_sss))

    -- each that is evaluated is a leaf of the tree
    pub within-tree : All (λ k. among (leaves t) k ≡ true) (sss_within a ν t).evaluated
    within-tree = within_all (λ k. among (leaves t) k ≡ true) (search-deciding ν t r by_sss).own

    -- so the length of the list is the number of leaves that are marked as evaluated
    pub within-marks : leaf_count (among (sss_within a ν t).evaluated) t ≡ length (sss_within a ν t).evaluated
    within-marks = once-count (sss_within a ν t).evaluated t r.distinct within-once within-tree

    -- domination: each is one that alpha-beta evaluates
    pub within-dominated : All (λ k. among (full_window ν t).evaluated k ≡ true) (sss_within a ν t).evaluated
    within-dominated =
        within_all (λ k. among (full_window ν t).evaluated k ≡ true) (domination ν t r by_sss)

-- locality: valuations that agree on the leaves that one run evaluates give the same end, spent or not, the same list
-- and the same replacements under one allowance
pub local-within : (a : ℕ) (ν μ : ℕ → ℕ) (t : Tree) → All (λ k. ν k ≡ μ k) (sss_within a ν t).evaluated
    → sss_within a ν t ≡ sss_within a μ t
local-within a ν μ t e = run_within-local ν μ t (2 * size t) a 0 (start t) e
