-- SSS* within an allowance: the theory's theorems on its runs, carried to calls, for Allowance.antt and Sentences.antt.
use Rattle.prelude.proofs.{ℕ, ◌-◌, ◌≤◌, ◌<◌, arith, ◌≡◌, refl, sym, ap, ◌∙◌, subst, List, [], ◌∷◌, pos, length}
use Rattle.prelude.proofs.{length-take, length-drop, drop_of_length-le, take_all, ◌≤ℤ◌}
use Rattle.lists.proofs.Choice.{clash}
use Rattle.gametree.specs.{greatest, minimax, Evaluation, ListAfter, spent, sss_within}
use Rattle.gametree_theory.proofs.Searches.{sss_evaluated}
use Rattle.gametree_theory.proofs.Within as within
use Rattle.table.specs.{tree, valuation, WellFormed, unless, ◌leaving◌, Accepted, SameShape, value_of}
use Rattle.table.proofs.Acceptance.{accepted-formed}
use Rattle.table.proofs.Proper.{tree-proper}
use Rattle.table.proofs.Values.{value-order}
use Rattle.methods.specs.declared.Method.{Method}
use Rattle.methods.specs.declared.Method.TheVariants.{AlphaBeta, Mtd, MtdFrom, Sss}
use Rattle.methods.specs.declared.Findings.{Findings}
use Rattle.methods.specs.declared.Spent.{Spent as Spending}
use Rattle.methods.specs.declared.Answer.TheVariants.{Found, Spent, Rejected}
use Rattle.methods.specs.{run_of, evaluated_by, beyond, Lent, rejection_of, answer_by, given_by, search_outcome}
use Rattle.methods.proofs.Rules as rules
use Rattle.demands.specs.{Call, Room, AgreeOnMarked, CutShort}
use Rattle.demands.proofs.Running.{Says}
use Rattle.demands.proofs.Views.{Stopped}
use Rattle.demands.proofs.Views as views
use Rattle.demands.proofs.Local.{run-same}

-- an allowance of as many leaves as the full run evaluates leaves nothing; the other methods have none
pub nothing_left : (t : List ℕ) (m : Method) → ((n : ℕ) → m ≡ Sss n → length (run_of t).evaluations ≤ n)
    → beyond m t ≡ []
nothing_left t AlphaBeta h = refl
nothing_left t Mtd h = refl
nothing_left t (MtdFrom v) h = refl
nothing_left t (Sss n) h = drop_of_length-le (run_of t).evaluations {i = n} (h n refl)

only-sss : (m : Method) (t : List ℕ) (x : Evaluation) (xs : List Evaluation) → beyond m t ≡ x ∷ xs
    → (n : ℕ) × (m ≡ Sss n)
only-sss AlphaBeta t x xs e = clash (cc)
only-sss Mtd t x xs e = clash (cc)
only-sss (MtdFrom v) t x xs e = clash (cc)
only-sss (Sss n) t x xs e = (n, refl)

module _ (t : List ℕ) (n : ℕ) where
  left-length : length (beyond (Sss n) t) ≡ length (run_of t).evaluations - n
  left-length = length-drop n (run_of t).evaluations

  -- where no evaluation is left, the full run needs no more leaves
  pub none_more : beyond (Sss n) t ≡ [] → length (run_of t).evaluations ≤ n
  none_more e = omega (arith, left-length, ap length e)

  -- where it needs more, one is left
  pub more_left : n < length (run_of t).evaluations
      → (x : Evaluation) × ((xs : List Evaluation) × (beyond (Sss n) t ≡ x ∷ xs))
  more_left h = by_left (beyond (Sss n) t) refl
    where
      by_left : (xs : List Evaluation) → beyond (Sss n) t ≡ xs
          → (x : Evaluation) × ((xs : List Evaluation) × (beyond (Sss n) t ≡ x ∷ xs))
      by_left [] e = absurd (omega (arith, none_more e))
      by_left (x ∷ xs) e = (x, (xs, e))

  -- where none is left, all leaves of the full run are evaluated
  pub all-leaves : beyond (Sss n) t ≡ [] → evaluated_by (Sss n) t ≡ sss_evaluated (valuation t) (tree t)
  all-leaves e =
      take_all n (sss_evaluated (valuation t) (tree t)) (omega (arith, rules.left-count n t, ap length e))

-- so all allowances that are enough give and leave the same
pub settled : (t : List ℕ) (l : Lent) (n k : ℕ) → beyond (Sss n) t ≡ [] → beyond (Sss k) t ≡ []
    → search_outcome (Sss k) t l ≡ search_outcome (Sss n) t l
settled t l n k e f = ap (unless (rejection_of t l) (λ r. Rejected r leaving l)) same
  where
    same : given_by (Sss k) t l ≡ given_by (Sss n) t l
    same = rw (e, f, all-leaves t n e, all-leaves t k f)

-- a run that its allowance ended
module _ (t : List ℕ) (wf : WellFormed t) (n : ℕ) (p : Spending) (v : Stopped (Sss n) t p) where
  run_is : sss_within n (valuation t) (tree t)
      ≡ record {
        end = spent v.next.merit;
        evaluated = evaluated_by (Sss n) t;
        replacements = v.next.replacements;
      }
  run_is = within.spent-first (valuation t) (tree t) n v.next v.later v.left

  pub end_is : (sss_within n (valuation t) (tree t)).end ≡ spent v.next.merit
  end_is = ap (λ r. r.end) run_is

  -- merit and counts are those of the place where the full run was cut short
  cut : CutShort t p
  cut =
      let h = tree-proper t wf in
      let γ = v.next.merit in
      let x = within.within-cut (valuation t) (tree t) h n γ end_is in
      let k : p.steps ≡ x.made = ap (λ y. y.steps) v.gives ∙ ap (λ r. r.replacements) (sym run_is ∙ x.gives) in
      record {
        evaluated = x.leaves;
        states = x.list;
        leaf = x.beyond;
        taken = x.merit;
        next = x.after;
        reached = subst (λ j. ListAfter (valuation t) (tree t) j x.leaves x.list) (sym k) x.reached;
        evaluates = x.more;
        leaves = ap (λ y. y.leaves) v.gives ∙ ap (λ r. length r.evaluated) (sym run_is ∙ x.gives);
        merit = ap (λ y. y.merit) v.gives
            ∙ ap value_of (sym (within.within-cut-merit (valuation t) (tree t) h n γ end_is));
      }

  bounds : (value_of (minimax (valuation t) (tree t)) ≤ℤ p.merit) × (p.merit ≤ℤ pos 32001)
  bounds =
      let m = within.within-merit (valuation t) (tree t) (tree-proper t wf) n v.next.merit end_is in
      let i = ap (λ x. x.merit) v.gives in
      (rw i (value-order _ _ m.0), rw i (value-order _ _ m.1))

  -- the full run needs more leaves, and as many are evaluated as are allowed
  more : n < length (run_of t).evaluations
  more = omega (arith, left-length t n, ap length v.left)

  spent-leaves : p.leaves ≡ n
  spent-leaves =
      omega (
        arith,
        ap (λ x. x.leaves) v.gives,
        length-take n (sss_evaluated (valuation t) (tree t)),
        within.evaluations-count (valuation t) (tree t),
        more,
      )

  spent-steps : p.steps ≤ (run_of t).replacements
  spent-steps =
      let r = (within.within-replacements (valuation t) (tree t) (tree-proper t wf) n).0 in
      rw (ap (λ x. x.steps) v.gives) (rw run_is at r)

-- a call whose allowance is spent
module _ (c : Call) (s : Says c) (p : Spending) (e : c.answer ≡ Spent p) where
  pub spent-formed : WellFormed c.table
  spent-formed = views.formed c s (views.spent-given c s p e)

  -- is one of SSS*
  pub by-sss : (n : ℕ) × (c.method ≡ Sss n)
  by-sss =
      let v = views.stopped c s p e in only-sss c.method c.table v.next v.later v.left

  pub stopped-at : (n : ℕ) → c.method ≡ Sss n → Stopped (Sss n) c.table p
  stopped-at n i = subst (λ m. Stopped m c.table p) i (views.stopped c s p e)

  pub cut_short : CutShort c.table p
  cut_short = cut c.table spent-formed by-sss.0 p (stopped-at by-sss.0 by-sss.1)

  pub merit-bounds : (value_of (minimax (valuation c.table) (tree c.table)) ≤ℤ p.merit) × (p.merit ≤ℤ pos 32001)
  merit-bounds = bounds c.table spent-formed by-sss.0 p (stopped-at by-sss.0 by-sss.1)

  module _ (n : ℕ) (i : c.method ≡ Sss n) where
    pub needs-more : n < length (run_of c.table).evaluations
    needs-more = more c.table spent-formed n p (stopped-at n i)

    pub counts-so-far : (p.leaves ≡ n) × (p.steps ≤ (run_of c.table).replacements)
    counts-so-far = (
      spent-leaves c.table spent-formed n p (stopped-at n i),
      spent-steps c.table spent-formed n p (stopped-at n i),
    )

-- a call within an allowance of n leaves, with an accepted table and room
module _ (c : Call) (s : Says c) (n : ℕ) (i : c.method ≡ Sss n) (a : Accepted c.table)
    (r : Room c.table c.lent) where
  answered-left : (x : Evaluation) (xs : List Evaluation) → beyond (Sss n) c.table ≡ x ∷ xs
      → c.answer ≡ answer_by (x ∷ xs) (Sss n) c.table
  answered-left x xs e =
      views.room-answered c s a r ∙ ap (λ m. answer_by (beyond m c.table) m c.table) i
      ∙ ap (λ ys. answer_by ys (Sss n) c.table) e

  -- is spent where the full run needs more
  pub spends : n < length (run_of c.table).evaluations → (p : Spending) × (c.answer ≡ Spent p)
  spends h = let x = more_left c.table n h in (_, answered-left x.0 x.1.0 x.1.1)

-- and where none is allowed, with 32,001
pub none_allowed : (c : Call) → Says c → c.method ≡ Sss 0 → Accepted c.table → Room c.table c.lent
    → (k : ℕ) × (c.answer ≡ Spent (record { merit = pos 32001; leaves = 0; steps = k }))
none_allowed c s i a r =
    let t = c.table in
    let h = tree-proper t (accepted-formed t a) in
    let e = (within.within_none (valuation t) (tree t) h).0 in
    let m = (within.within-spent (valuation t) (tree t) h 0).0 (greatest, e) in
    let x = more_left t 0 (omega (arith, m, within.evaluations-count (valuation t) (tree t))) in
    let f = within.spent-first (valuation t) (tree t) 0 x.0 x.1.0 x.1.1 in
    let γ : x.0.merit ≡ greatest = cc (e, ap (λ r. r.end) f) in (
      x.0.replacements,
      answered-left c s 0 i a r x.0 x.1.0 x.1.1
          ∙ ap (λ m. Spent (record { merit = value_of m; leaves = 0; steps = x.0.replacements })) γ,
    )

-- the call d as one by the method of c
abbrev pub as_by : (c d : Call) → Call
as_by c d = record { method = c.method; table = d.table; lent = d.lent; answer = d.answer; left = d.left }

-- that is what it is if both are finished runs of SSS*, and their tables agree on the leaves marked 1 in c
pub finishes : (c d : Call) (s : Says c) (q : Says d) (n k : ℕ) → c.method ≡ Sss n → d.method ≡ Sss k
    → (g h : Findings) → c.answer ≡ Found g → d.answer ≡ Found h → SameShape c.table d.table
    → AgreeOnMarked c.table d.table c.left → Says (as_by c d)
finishes c d s q n k i j g h e f shape agree =
    let x = views.found-given c s g e in
    let r = (run-same c d s q x (views.found-given d q h f) shape agree).1 in
    let b = (views.by-found c.method d.table _ g (sym e ∙ views.answered c s x ∙ r)).0 in
    q ∙ ap (λ m. search_outcome m d.table d.lent) j
    ∙ settled d.table d.lent n k (ap (λ m. beyond m d.table) (sym i) ∙ b)
    (ap (λ m. beyond m d.table) (sym j) ∙ views.nothing-beyond d q h f)
    ∙ sym (ap (λ m. search_outcome m d.table d.lent) i)
