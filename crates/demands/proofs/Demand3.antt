-- Demand 3: what is said beside the headline sentences (`no-leaf-passed-over` in TheSentence; `counts`, `exact-count`,
-- `smallest-pair` and `local` in Sentences), of the searches as they run; and what SPEC 8 to 10 say of the other counts
-- and of the list. "same child order, full opening window, leftmost state first on equal merit": so say the rules,
-- `children_from` and `tree` (table/specs/Tree.antt), `reached` from `least` to `greatest`
-- (gametree/specs/AlphaBeta.antt), `pick` and `beats` (gametree/specs/Sss.antt).
use Rattle.prelude.proofs.{ℕ, suc, ◌*◌, ◌≤◌, ◌<◌, ◌≡◌, ap, ◌∙◌, subst, Bool, true, List, ◌++◌, map, length, get_or}
use Rattle.prelude.proofs.{drop}
use Rattle.prelude.proofs.{replicate, eqb-true}
use Rattle.lists.specs.{Once, among, different}
use Rattle.lists.proofs.Choice.{is_false}
use Rattle.gametree.specs.Mtd as rule
use Rattle.gametree.specs.{Smallest, Reason}
use Rattle.gametree_theory.proofs.Results.Reason.{decided-reason}
use Rattle.gametree_theory.proofs.Theorems.{mtd-passes, sss-replacements, smallest-exists}
use Rattle.table.specs.declared.Rejection.{Rejection}
use Rattle.table.specs.{frames, tree, valuation, Accepted, Leaf}
use Rattle.table.proofs.Acceptance.{accepted-formed}
use Rattle.table.proofs.Nodes.{in_tree}
use Rattle.table.proofs.Leaves.{leaf-listed}
use Rattle.table.proofs.Proper.{tree-proper}
use Rattle.table.proofs.Totals.{tree-size}
use Rattle.certificate_bounds.specs.{marked}
use Rattle.methods.specs.declared.Method.TheVariants.{AlphaBeta, Mtd, Sss}
use Rattle.methods.specs.declared.Findings.{Findings}
use Rattle.methods.specs.declared.Answer.TheVariants.{Found, Rejected}
use Rattle.methods.specs.{run_of, evaluated_by, steps_by, lent}
use Rattle.methods.proofs.Rules as rules
use Rattle.sss.proofs as sss
use Rattle.sss.specs.contracts as sss'
use Rattle.sss_states.specs.{blank}
use Rattle.demands.specs.Runs.{Runs, function}
use Rattle.demands.specs.{EverySearch, Given, count_of, Marked}
use Rattle.demands.proofs.Contracts as contracts
use Rattle.demands.proofs.Running.{follows, every}
use Rattle.demands.proofs.Views as views
use Rattle.demands.proofs.Handed.{handed, formed, proper, marks-decided, marks-reached, count_most}

-- What any method marks, stopped or not, Baudet's condition reaches, and so alpha-beta marks (`rule-leaves`).
pub reached-only : EverySearch (λ c. Given c → (k : ℕ) → Marked c.table c.left k
    → among (evaluated_by AlphaBeta c.table) k ≡ true)
reached-only = every marks-reached

pub reached-most : EverySearch (λ c. Given c → count_of c.answer ≤ length (evaluated_by AlphaBeta c.table))
reached-most = every count_most

-- a leaf is passed over only for a reason: for each leaf of the table that is not marked 1 there are, beside the path
-- to it, a child of a Max node and a child of a Min node, and by the bounds of the leaves that are marked 1 the low of
-- the first is at least the high of the second
pub passed_over : EverySearch (λ c. (g : Findings) → c.answer ≡ Found g → (k : ℕ) → Leaf c.table k
    → (Marked c.table c.left k → ⊥) → Reason (valuation c.table) (marked c.left.marks) (tree c.table) k)
passed_over = every (λ c s g e k l h.
    let v = handed c s g e in
    let wf = formed v in
    decided-reason (valuation c.table) _ (tree c.table) (proper v) (marks-decided v) k
    (leaf-listed c.table wf 0 wf.non_empty k (in_tree c.table wf k l.inside) l.childless)
    (is_false (marked c.left.marks k)
    (λ i. h (record { node = l.inside; mark = eqb-true (get_or c.left.marks k 0) 1 i }))))

-- "Neither values a leaf twice": among the leaves of the rule no number stands twice
pub once : EverySearch (λ c. Given c → Once (evaluated_by c.method c.table))
once = every (λ c s x. rules.once c.table (views.formed c s x) c.method)

-- there is a smallest pair
pub pair-exists : (t : List ℕ) → Accepted t → (g : ℕ → Bool) × (h : ℕ → Bool) × Smallest (valuation t) (tree t) g h
pair-exists t a = smallest-exists (valuation t) (tree t) (tree-proper t (accepted-formed t a))

-- MTD's passes are those of its rule, and at most one more than there are different worths, as scores, among the
-- evaluated leaves
pub passes : EverySearch (λ c. c.method ≡ Mtd → (g : Findings) → c.answer ≡ Found g
    → (g.steps ≡ (rule.mtd (valuation c.table) (tree c.table)).passes)
    × (g.steps ≤ suc (different (map (valuation c.table) (evaluated_by Mtd c.table)))))
passes = every (λ c s i g e.
    let n = ap (λ x. x.steps) (views.findings c s g e) ∙ ap (λ m. steps_by m c.table) i in
    (n, rw n (mtd-passes (valuation c.table) (tree c.table) (proper (handed c s g e)))))

-- SSS* makes the replacements of its run, at most twice the number of nodes less 1
pub replacements : EverySearch (λ c. (n : ℕ) → c.method ≡ Sss n → (g : Findings) → c.answer ≡ Found g
    → (g.steps ≡ (run_of c.table).replacements) × (g.steps < 2 * frames c.table))
replacements = every (λ c s n i g e.
    let k = ap (λ x. x.steps) (views.findings c s g e) ∙ ap (λ m. steps_by m c.table) i in
    let h = sss-replacements (valuation c.table) (tree c.table) (proper (handed c s g e)) in
    (k, rw k (subst (λ m. (run_of c.table).replacements < 2 * m) (tree-size c.table (formed (handed c s g e))) h)))

-- and the first entries of a lent list of states, one a node, are reset, and later ones are kept, also where its
-- allowance ends it
pub list-reset : Runs sss'.search.ended (function sss.search.Symbol.name sss.search.Symbol.code)
    (λ κs (t, (l, _)) r (_, (l', _)). ((q : Rejection) → r ≡ Rejected q → ⊥)
    → l'.now ≡ replicate (frames t.now) blank ++ drop (frames t.now) l.now)
list-reset =
    follows contracts.sss-search (λ κs (t, (l, (m, (f, (o, (n, _)))))) r (_, (l', (m', (f', (o', _))))) s given.
    let x = lent m.now f.now o.now in
    views.list-given n t.now l.now x (views.list_rejection t.now l.now x) r _ l'.now given s)
