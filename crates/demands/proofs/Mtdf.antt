-- MTD(f), the search with a starting value. What is said of every search (TheSentence, Sentences, Demand2, Demand3,
-- Order) is said of it too, from every starting value: no leaf that alpha-beta passes over, value, first root move,
-- certificate, verdict, the counts, the smallest pair, none twice, which leaves have no influence. Here: what the
-- starting value changes and what it cannot.
use Rattle.prelude.proofs.{ℕ, ◌≤◌, arith, ◌≡◌, refl, sym, ap, ap₂, ◌∙◌, subst, true, List, ℤ, pos, negsuc, lt_z, le-leb}
use Rattle.prelude.proofs.{lt-leb, le-ltb, ltb-true}
use Rattle.lists.specs.{All, among}
use Rattle.lists.proofs.Choice.{true-not-false}
use Rattle.gametree.specs.{greatest, minimax, mtdf as rule}
use Rattle.gametree_theory.proofs.Searches.{sss_evaluated}
use Rattle.gametree_theory.proofs.Theorems.{value-score}
use Rattle.gametree_theory.proofs.TestRuns.{guess-tests, guess-two, falling-decides-sss}
use Rattle.table.specs.{tree, valuation, WellFormed, max_value}
use Rattle.table.proofs.Proper.{tree-proper}
use Rattle.table.proofs.Values.{value-range, score-back}
use Rattle.methods.specs.declared.Method.TheVariants.{MtdFrom, Sss}
use Rattle.methods.specs.declared.Findings.{Findings}
use Rattle.methods.specs.declared.Answer.TheVariants.{Found}
use Rattle.methods.specs.{start_score, decision_of, evaluated_by, steps_by}
use Rattle.demands.specs.{Call, EverySearch, EveryTwo, Marked}
use Rattle.demands.proofs.Running.{Says, every, every_two}
use Rattle.demands.proofs.Views as views
use Rattle.demands.proofs.Handed.{leaves_by, handed, proper, marks-covered, count-covered}
use Rattle.demands.proofs.Allowed.{all-leaves}
use Rattle.demands.proofs.Listing.{agree}

-- two searches of one table agree in the value and the move, whatever their methods and starting values (they are the
-- minimax value and the first root move that reaches it: `minimax-value` and `first-move`)
pub methods-agree : EveryTwo (λ c d. d.table ≡ c.table → (g h : Findings) → c.answer ≡ Found g → d.answer ≡ Found h
    → (g.value ≡ h.value) × (g.root_move ≡ h.root_move))
methods-agree = every_two agree

-- a call from the starting value v that gives a result
module _ (c : Call) (s : Says c) (v : ℤ) (i : c.method ≡ MtdFrom v) (g : Findings) (e : c.answer ≡ Found g) where
  tests-are : g.steps ≡ (rule (start_score v) (valuation c.table) (tree c.table)).tests
  unfolding decision_of
  tests-are = ap (λ x. x.steps) (views.findings c s g e) ∙ ap (λ m. steps_by m c.table) i

  fewer-tests : g.steps ≤ g.leaves
  unfolding decision_of
  fewer-tests =
      let k = guess-tests (valuation c.table) (start_score v) (tree c.table) (proper (handed c s g e)).scored in
      rw (tests-are, ap (λ x. x.leaves) (views.findings c s g e), i) k

  right-start : v ≡ g.value → g.steps ≤ 2
  right-start x =
      let t = c.table in
      let h = (proper (handed c s g e)).scored in
      let m = minimax (valuation t) (tree t) in
      let r = le-leb _ max_value (value-range m (value-score (valuation t) (tree t) h)) in
      let k : start_score v ≡ m =
      ap start_score (x ∙ ap (λ x. x.value) (views.findings c s g e)) ∙ rw r (score-back m) in
      rw (tests-are, k) (guess-two (valuation t) (tree t) h)

-- the tests are those that the rule puts to the root, no more than leaves are evaluated, and at most two from a
-- starting value that is the value
pub tests : EverySearch (λ c. (v : ℤ) → c.method ≡ MtdFrom v → (g : Findings) → c.answer ≡ Found g
    → (g.steps ≡ (rule (start_score v) (valuation c.table) (tree c.table)).tests)
    × (g.steps ≤ g.leaves) × (v ≡ g.value → g.steps ≤ 2))
tests = every (λ c s v i g e. (tests-are c s v i g e, fewer-tests c s v i g e, right-start c s v i g e))

-- a starting value above every value, as 32,001 is: the first guess is `greatest`
start-above : (v : ℤ) → lt_z (pos max_value) v ≡ true → start_score v ≡ greatest
start-above (pos n) e = rw (lt-leb n max_value (ltb-true max_value n e), le-ltb n 0 (omega arith))
start-above (negsuc n) e = absurd (true-not-false e refl)

above-leaves : (t : List ℕ) → WellFormed t → (v : ℤ) → lt_z (pos max_value) v ≡ true
    → All (λ k. among (sss_evaluated (valuation t) (tree t)) k ≡ true) (evaluated_by (MtdFrom v) t)
unfolding decision_of
above-leaves t wf v a =
    subst
    (λ n. All (λ k. among (sss_evaluated (valuation t) (tree t)) k ≡ true) (rule n (valuation t) (tree t)).evaluated)
    (sym (start-above v a)) (falling-decides-sss (valuation t) (tree t) (tree-proper t wf))

sss-covers : (c d : Call) → Says c → Says d → (v : ℤ) (n : ℕ) → c.method ≡ MtdFrom v → d.method ≡ Sss n
    → d.table ≡ c.table → lt_z (pos max_value) v ≡ true → (g h : Findings) → c.answer ≡ Found g → d.answer ≡ Found h
    → All (λ k. among (leaves_by d) k ≡ true) (leaves_by c)
sss-covers c d s q v n i j t a g h e f =
    let wf = views.formed c s (views.found-given c s g e) in
    let is = ap₂ evaluated_by j t ∙ all-leaves c.table n (rw (j, t) at (views.nothing-beyond d q h f)) in
    rw (is, i) (above-leaves c.table wf v a)

-- from a starting value above every value MTD(f) is MTD(+∞): it evaluates only leaves that SSS* evaluates, and so no
-- more
pub above-sss : EveryTwo (λ c d. (v : ℤ) (n : ℕ) → c.method ≡ MtdFrom v → d.method ≡ Sss n → d.table ≡ c.table
    → lt_z (pos max_value) v ≡ true → (g h : Findings) → c.answer ≡ Found g → d.answer ≡ Found h
    → ((k : ℕ) → Marked c.table c.left k → Marked d.table d.left k) × (g.leaves ≤ h.leaves))
above-sss = every_two (λ c d s q v n i j t a g h e f.
    let all = sss-covers c d s q v n i j t a g h e f in
    let x = views.found-given c s g e in
    let y = views.found-given d q h f in
    (marks-covered c d s q x y all, rw (e, f) at (count-covered c d s q x y all)))
