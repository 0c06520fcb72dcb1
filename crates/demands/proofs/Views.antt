-- What a call says, by its answer.
use Rattle.prelude.proofs.{ℕ, ◌≤◌, ◌≡◌, refl, sym, ap, ◌∙◌, Option, none, some, List, [], ◌∷◌, ◌++◌, length, drop}
use Rattle.prelude.proofs.{replicate, le-leb}
use Rattle.lists.proofs.Choice.{clash}
use Rattle.gametree.specs.{Evaluation}
use Rattle.table.specs.declared.Rejection.{Rejection}
use Rattle.table.specs.{frames, WellFormed, unless, Outcome, ◌leaving◌, value_of, Accepted}
use Rattle.table.proofs.Asked.{answer-of}
use Rattle.table.proofs.Acceptance.{accepted-formed}
use Rattle.certificate_write.specs.{search_rejection, marks_of, flags_of, listed}
use Rattle.certificate_write.proofs.Questions.{passed-room, room-passed}
use Rattle.methods.specs.declared.Method.{Method}
use Rattle.methods.specs.declared.Method.TheVariants.{Sss}
use Rattle.methods.specs.declared.Findings.{Findings}
use Rattle.methods.specs.declared.Spent.{Spent as Spending}
use Rattle.methods.specs.declared.Answer.{Answer}
use Rattle.methods.specs.declared.Answer.TheVariants.{Found, Spent, Rejected}
use Rattle.methods.specs.{evaluated_by, beyond, Lent, rejection_of, findings_by, answer_by, flags_left, given_by}
use Rattle.methods.specs.{search_outcome}
use Rattle.sss_states.specs.declared.State.{State}
use Rattle.sss_states.specs.{blank}
use Rattle.sss.specs.{sss_outcome}
use Rattle.demands.specs.{Call, Given, count_of, Room}
use Rattle.demands.proofs.Parts.{by-given, by-refusal}
use Rattle.demands.proofs.Running.{Says}

-- the lengths of which question 10 asks
abbrev pub lengths : Lent → List ℕ
lengths l = length l.marks ∷ length l.flags ∷ length l.order ∷ []

-- questions that pass: an accepted table, and room
pub list-room : (t : List ℕ) (l : Lent) → rejection_of t l ≡ none → Accepted t × Room t l
list-room t l e =
    let p = passed-room t (lengths l) e in
    (p.0, record { marks = p.1.0; flags = p.1.1.0; order = p.1.1.1.0 })

pub list-passed : (t : List ℕ) (l : Lent) → Accepted t → Room t l → rejection_of t l ≡ none
list-passed t l a r = room-passed t (lengths l) a (r.marks, (r.flags, (r.order, tt)))

-- the allowance of a method is spent: an evaluation is left, and what is given follows from the first
pub record Stopped (m : Method) (t : List ℕ) (p : Spending) : Type 0 where
  pub next : Evaluation
  pub later : List Evaluation
  pub left : beyond m t ≡ next ∷ later
  pub gives : p ≡ record {
    merit = value_of next.merit;
    leaves = length (evaluated_by m t);
    steps = next.replacements;
  }

same-refusal : (x y : Rejection) → Rejected x ≡ Rejected y → x ≡ y
same-refusal x y e = cc

-- what a method answers, by the evaluations that it has no allowance for
module _ (m : Method) (t : List ℕ) where
  by_answer : (xs : List Evaluation) (r : Rejection) → answer_by xs m t ≡ Rejected r → ⊥
  by_answer [] r e = clash (cc)
  by_answer (x ∷ xs) r e = clash (cc)

  by_count : (xs : List Evaluation) → count_of (answer_by xs m t) ≡ length (evaluated_by m t)
  by_count [] = refl
  by_count (x ∷ xs) = refl

  pub by-found : (xs : List Evaluation) (g : Findings) → Found g ≡ answer_by xs m t → (xs ≡ []) × (g ≡ findings_by m t)
  by-found [] g e = (refl, cc)
  by-found (x ∷ xs) g e = clash (cc)

  by-spent : (xs : List Evaluation) (p : Spending) → beyond m t ≡ xs → Spent p ≡ answer_by xs m t → Stopped m t p
  by-spent [] p i e = clash (cc)
  by-spent (x ∷ xs) p i e = record { next = x; later = xs; left = i; gives = cc }

module _ (c : Call) (s : Says c) where
  pub refused : (q : Rejection) → c.answer ≡ Rejected q
      → (rejection_of c.table c.lent ≡ some q) × (c.left ≡ c.lent)
  refused q e =
      by-refusal Rejected (given_by c.method c.table c.lent) c.lent
      (by_answer c.method c.table (beyond c.method c.table)) same-refusal
      (rejection_of c.table c.lent) q c.left (ap (λ (a : Answer). a leaving c.left) (sym e) ∙ s)

  -- with an accepted table and room it is not refused
  pub room-answered : Accepted c.table → Room c.table c.lent
      → c.answer ≡ answer_by (beyond c.method c.table) c.method c.table
  room-answered a r = ap (λ x. x.answer) s ∙ rw (list-passed c.table c.lent a r)

  pub room-given : Accepted c.table → Room c.table c.lent → Given c
  room-given a r q e =
      by_answer c.method c.table (beyond c.method c.table) q (sym (room-answered a r) ∙ e)

  module _ (given : Given c) where
    passed : (rejection_of c.table c.lent ≡ none)
        × (c.answer leaving c.left ≡ given_by c.method c.table c.lent)
    passed =
        by-given Rejected (given_by c.method c.table c.lent) c.lent (rejection_of c.table c.lent)
        c.answer c.left given s

    pub accepted : Accepted c.table
    accepted = (list-room c.table c.lent passed.0).0

    pub room : Room c.table c.lent
    room = (list-room c.table c.lent passed.0).1

    pub formed : WellFormed c.table
    formed = accepted-formed c.table accepted

    -- the leaves of the method are counted, marked and listed
    pub answered : c.answer ≡ answer_by (beyond c.method c.table) c.method c.table
    answered = ap (λ x. x.answer) passed.1

    pub counted : count_of c.answer ≡ length (evaluated_by c.method c.table)
    counted = ap count_of answered ∙ by_count c.method c.table (beyond c.method c.table)

    pub marks : c.left.marks ≡ marks_of (evaluated_by c.method c.table) c.table c.lent.marks
    marks = ap (λ x. x.left.marks) passed.1

    pub order : c.left.order ≡ listed (evaluated_by c.method c.table) c.lent.order
    order = ap (λ x. x.left.order) passed.1

    flags-by : (xs : List Evaluation) → beyond c.method c.table ≡ xs
        → c.left.flags ≡ flags_left xs c.method c.table c.lent.flags
    flags-by xs e =
        ap (λ x. x.left.flags) passed.1 ∙ ap (λ xs. flags_left xs c.method c.table c.lent.flags) e

  -- a result: nothing stopped the method
  module _ (g : Findings) (e : c.answer ≡ Found g) where
    pub found-given : Given c
    found-given q i = clash (cc)

    found : (beyond c.method c.table ≡ []) × (g ≡ findings_by c.method c.table)
    found = by-found c.method c.table (beyond c.method c.table) g (sym e ∙ answered found-given)

    pub nothing-beyond : beyond c.method c.table ≡ []
    nothing-beyond = found.0

    pub findings : g ≡ findings_by c.method c.table
    findings = found.1

    pub flags : c.left.flags ≡ flags_of (evaluated_by c.method c.table) c.table c.lent.flags
    flags = flags-by found-given [] nothing-beyond

  -- a spent allowance
  module _ (p : Spending) (e : c.answer ≡ Spent p) where
    pub spent-given : Given c
    spent-given q i = clash (cc)

    pub stopped : Stopped c.method c.table p
    stopped =
        by-spent c.method c.table (beyond c.method c.table) p refl (sym e ∙ answered spent-given)

    pub flags-kept : c.left.flags ≡ c.lent.flags
    flags-kept = flags-by spent-given (stopped.next ∷ stopped.later) stopped.left

-- the first "no" of SSS* over a lent list of states s
abbrev pub list_rejection : (t : List ℕ) → List State → Lent → Option Rejection
list_rejection t s l = search_rejection t (length s ∷ lengths l)

-- and its outcome, with an allowance of n leaves
module _ (n : ℕ) (t : List ℕ) (s : List State) (l : Lent) where
  abbrev outcome_by : Option Rejection → Outcome (Outcome Answer Lent) (List State)
  outcome_by q =
      unless q (λ r. Rejected r leaving l leaving s)
      (given_by (Sss n) t l leaving (replicate (frames t) blank ++ drop (frames t) s))

  -- with an entry per node in the list it answers and leaves what the method gives
  pub list-outcome : frames t ≤ length s → (sss_outcome n t s l).answer ≡ search_outcome (Sss n) t l
  list-outcome h = rw (le-leb (frames t) (length s) h) (answer-of (rejection_of t l) _ _ _ _)

  -- a refusal is the first "no", and leaves all as it was
  pub list-refused : (q : Option Rejection) (r : Rejection) (l' : Lent) (s' : List State)
      → Rejected r leaving l' leaving s' ≡ outcome_by q → (q ≡ some r) × (s' ≡ s) × (l' ≡ l)
  list-refused none r l' s' e =
      absurd (by_answer (Sss n) t (beyond (Sss n) t) r (sym (ap (λ x. x.answer.answer) e)))
  list-refused (some y) r l' s' e =
      (rw (same-refusal r y (ap (λ x. x.answer.answer) e)) refl, ap (λ x. x.left) e, ap (λ x. x.answer.left) e)

  -- any other answer leaves the list reset
  pub list-given : (q : Option Rejection) (a : Answer) (l' : Lent) (s' : List State)
      → ((r : Rejection) → a ≡ Rejected r → ⊥) → a leaving l' leaving s' ≡ outcome_by q
      → s' ≡ replicate (frames t) blank ++ drop (frames t) s
  list-given none a l' s' h e = ap (λ x. x.left) e
  list-given (some y) a l' s' h e = absurd (h y (ap (λ x. x.answer.answer) e))
