-- Request N6, sentence by sentence, said of `search::search` by SSS* as it runs; of `sss::search` it holds too
-- (`lent-list` in TheSentence). "Spent is given exactly when the full run needs more leaves than the allowance" and
-- "That merit is never below the root's value": `spent-exactly` and `merit-not-below` in Sentences. "Demand 2 and the
-- proof and smallest-pair wishes concern finished runs only": they speak of calls that give a result, SSS* within
-- whatever allowance. "trees that agree on valued leaves also agree on spent answers under one allowance": `local` in
-- Sentences.
use Rattle.prelude.proofs.{ℕ, ◌≤◌, ◌<◌, arith, ◌≡◌, refl, sym, ap, ap₂, ◌∙◌, subst, map, pos, length, take, ◌≤ℤ◌}
use Rattle.gametree_theory.proofs.Within.{within-falls}
use Rattle.table.specs.{frames, tree, valuation, Accepted, SameShape}
use Rattle.table.proofs.Proper.{tree-proper}
use Rattle.table.proofs.Values.{value-order}
use Rattle.certificate_bounds.specs.{ones}
use Rattle.certificate_write.specs.{marks_of, listed}
use Rattle.methods.specs.declared.Method.TheVariants.{Sss}
use Rattle.methods.specs.declared.Findings.{Findings}
use Rattle.methods.specs.declared.Spent.{Spent as Spending}
use Rattle.methods.specs.declared.Answer.TheVariants.{Found, Spent}
use Rattle.methods.specs.{run_of, evaluated_by, beyond, search_outcome}
use Rattle.demands.specs.{EverySearch, EveryTwo, Given, count_of, Room, AgreeOnMarked, Alike, CutShort}
use Rattle.demands.proofs.Running.{every, every_two}
use Rattle.demands.proofs.Views.{Stopped}
use Rattle.demands.proofs.Views as views
use Rattle.demands.proofs.Handed.{count_ones}
use Rattle.demands.proofs.Local as locals
use Rattle.demands.proofs.Listing.{first-of}
use Rattle.demands.proofs.Allowed as calls

-- "SSS* takes an allowance and answers with the value, or with "spent" and the merit of the state whose leaf it
-- couldn't value" (the value where the allowance is enough: `gives` in Sentences): merit and counts are those of the
-- place where the full run was cut short
pub cut_short : EverySearch (λ c. (p : Spending) → c.answer ≡ Spent p → CutShort c.table p)
cut_short = every calls.cut_short

-- spent is given only by SSS* and where the full run needs more leaves, and the value only where it does not
pub needs-more : EverySearch (λ c. (p : Spending) → c.answer ≡ Spent p
    → (n : ℕ) × (c.method ≡ Sss n) × (n < length (run_of c.table).evaluations))
needs-more = every (λ c s p e.
    let n = calls.by-sss c s p e in (n.0, n.1, calls.needs-more c s p e n.0 n.1))

pub had-enough : EverySearch (λ c. (n : ℕ) → c.method ≡ Sss n → (g : Findings) → c.answer ≡ Found g
    → length (run_of c.table).evaluations ≤ n)
had-enough = every (λ c s n i g e.
    calls.none_more c.table n (ap (λ m. beyond m c.table) (sym i) ∙ views.nothing-beyond c s g e))

-- "With allowance 0 the answer is spent with 32,001": whatever the tree, and so where the root is a leaf
pub none_allowed : EverySearch (λ c. c.method ≡ Sss 0 → Accepted c.table → Room c.table c.lent
    → (k : ℕ) × (c.answer ≡ Spent (record { merit = pos 32001; leaves = 0; steps = k })))
none_allowed = every calls.none_allowed

-- "and a larger allowance never raises it"
pub merit-falls : EveryTwo (λ c d. (n k : ℕ) → c.method ≡ Sss n → d.method ≡ Sss k → d.table ≡ c.table → n ≤ k
    → (p q : Spending) → c.answer ≡ Spent p → d.answer ≡ Spent q → q.merit ≤ℤ p.merit)
merit-falls = every_two (λ c d s z n k i j t l p q e f.
    let wf = calls.spent-formed c s p e in
    let v = calls.stopped-at c s p e n i in
    let w = subst (λ u. Stopped (Sss k) u q) t (calls.stopped-at d z q f k j) in
    rw (ap (λ x. x.merit) v.gives, ap (λ x. x.merit) w.gives)
    (value-order _ _ (within-falls (valuation c.table) (tree c.table) (tree-proper c.table wf) n k
    v.next.merit w.next.merit l (calls.end_is c.table wf n p v) (calls.end_is c.table wf k q w))))

-- "A value once given is the same under every larger allowance": so is all that the call gives and leaves
pub value_stays : EveryTwo (λ c d. (n k : ℕ) → c.method ≡ Sss n → d.method ≡ Sss k → d.table ≡ c.table
    → d.lent ≡ c.lent → n ≤ k → (g : Findings) → c.answer ≡ Found g
    → (d.answer ≡ c.answer) × (d.left ≡ c.left))
value_stays = every_two (λ c d s z n k i j t l h g e.
    let b = ap (λ m. beyond m c.table) (sym i) ∙ views.nothing-beyond c s g e in
    let more = calls.nothing_left c.table (Sss k) (λ m u.
    let v : k ≡ m = cc in omega (arith, calls.none_more c.table n b)) in
    let same = ap₂ (λ m t. search_outcome m t d.lent) j t ∙ ap (search_outcome (Sss k) c.table) l
    ∙ calls.settled c.table c.lent n k b more ∙ sym (ap (λ m. search_outcome m c.table c.lent) i) in
    let o = z ∙ same ∙ sym s in
    (ap (λ x. x.answer) o, ap (λ x. x.left) o))

-- "Spent carries no move and the counts so far" (`cut_short`): the leaves are as many as are allowed, and as the marks
-- at 1; the replacements are no more than those of the full run
pub spent-counts : EverySearch (λ c. (n : ℕ) → c.method ≡ Sss n → (p : Spending) → c.answer ≡ Spent p
    → (p.leaves ≡ n) × (p.leaves ≡ ones c.left.marks (frames c.table))
    × (p.steps ≤ (run_of c.table).replacements))
spent-counts = every (λ c s n i p e.
    let k = calls.counts-so-far c s p e n i in
    (k.0, ap count_of (sym e) ∙ count_ones c s (views.spent-given c s p e), k.1))

-- "it writes the marks so far": those of the first leaves of the full run, as many as are allowed; "and leaves the
-- proof buffer as found"
pub first-leaves : EverySearch (λ c. (n : ℕ) → c.method ≡ Sss n → (p : Spending) → c.answer ≡ Spent p
    → let first = take n (map (λ x. x.leaf) (run_of c.table).evaluations) in
    (c.left.marks ≡ marks_of first c.table c.lent.marks) × (c.left.flags ≡ c.lent.flags)
    × (c.left.order ≡ listed first c.lent.order))
first-leaves = every (λ c s n i p e.
    let x = views.spent-given c s p e in (
      views.marks c s x ∙ ap (λ m. marks_of (evaluated_by m c.table) c.table c.lent.marks) i,
      views.flags-kept c s p e,
      views.order c s x ∙ ap (λ m. listed (evaluated_by m c.table) c.lent.order) i,
    ))

-- and "A stopped run under N6 gives the first leaves of the full run's list" (02, N14), as a run that is not stopped
-- leaves it
pub first-of-list : EveryTwo (λ c d. (n k : ℕ) → c.method ≡ Sss n → d.method ≡ Sss k → d.table ≡ c.table → Given c
    → (g : Findings) → d.answer ≡ Found g
    → take (count_of c.answer) c.left.order ≡ take (count_of c.answer) d.left.order)
first-of-list = every_two (λ c d s z n k i j t x g f.
    let b = ap₂ beyond (sym j) (sym t) ∙ views.nothing-beyond d z g f in
    first-of c d s z x (views.found-given d z g f) n
    (ap (λ m. evaluated_by m c.table) i
    ∙ ap (take n) (sym (ap₂ evaluated_by j t ∙ calls.all-leaves c.table k b))))

-- finished runs are alike on trees that agree on valued leaves, each within an allowance of its own (`local` in
-- Sentences has them within one)
pub local-finished : EveryTwo (λ c d. (n k : ℕ) → c.method ≡ Sss n → d.method ≡ Sss k → (g h : Findings)
    → c.answer ≡ Found g → d.answer ≡ Found h → SameShape c.table d.table
    → AgreeOnMarked c.table d.table c.left
    → (g ≡ h) × Alike (frames c.table) c.left d.left
    × (take g.leaves c.left.order ≡ take h.leaves d.left.order))
local-finished = every_two (λ c d s z n k i j g h e f shape agree.
    let x = views.found-given c s g e in
    let y = views.found-given d z h f in
    let u = calls.finishes c d s z n k i j g h e f shape agree in
    let o = locals.orders-alike c (calls.as_by c d) s u refl x y shape agree in (
      cc (locals.answers-alike c (calls.as_by c d) s u refl x y shape agree),
      locals.buffers-alike c (calls.as_by c d) s u refl x y shape agree g e,
      rw (e, f) at o,
    ))
