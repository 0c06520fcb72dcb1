-- What each method evaluates in the tree of a table, by the rules of gametree: `reached` (Baudet's condition), `mtd`,
-- `mtdf` and `sss`.
use Rattle.std.specs.Prelude.{ℕ, cond, List, [], map, leb, ℤ, pos, nat_abs, take, drop}
use Rattle.std.specs.Int.Signed.{lt_z}
use Rattle.gametree.specs.Trees.{least, greatest}
use Rattle.gametree.specs.AlphaBeta.{reached}
use Rattle.gametree.specs.Mtd.{mtd}
use Rattle.gametree.specs.Mtdf.{Decision, mtdf}
use Rattle.gametree.specs.Sss.{Evaluation, SssRun, sss}
use Rattle.table.specs.Tree.{tree, valuation}
use Rattle.table.specs.Value.{score_of, max_value}
use Rattle.methods.specs.declared.Method.{Method}
use Rattle.methods.specs.declared.Method.TheVariants.{AlphaBeta, Mtd, MtdFrom, Sss}

-- the first guess of MTD(f) for a starting value: its score; below the range of values minus infinity, above it plus
-- infinity
abbrev pub start_score : ℤ → ℕ
start_score v = cond (leb (nat_abs v) max_value) (score_of v) (cond (lt_z v (pos 0)) least greatest)

-- what MTD(f) with the first guess f gives in the tree of a table
unfoldable pub decision_of : (f : ℕ) (t : List ℕ) → Decision
decision_of f t = mtdf f (valuation t) (tree t)

-- the full run of SSS* on the tree of a table
abbrev pub run_of : List ℕ → SssRun
run_of t = sss (valuation t) (tree t)

-- the leaves of a table that a method evaluates, in order; SSS* no more of its full run than it is allowed
abbrev pub evaluated_by : Method → List ℕ → List ℕ
evaluated_by AlphaBeta t = reached (valuation t) least greatest (tree t)
evaluated_by Mtd t = (mtd (valuation t) (tree t)).evaluated
evaluated_by (MtdFrom v) t = (decision_of (start_score v) t).evaluated
evaluated_by (Sss n) t = take n (map (λ x. x.leaf) (run_of t).evaluations)

-- the evaluations that a method would make and has no allowance for
abbrev pub beyond : Method → List ℕ → List Evaluation
beyond AlphaBeta t = []
beyond Mtd t = []
beyond (MtdFrom v) t = []
beyond (Sss n) t = drop n (run_of t).evaluations

-- the passes of MTD, the tests that MTD(f) puts to the root, the replacements of SSS*; alpha-beta counts none
abbrev pub steps_by : Method → List ℕ → ℕ
steps_by AlphaBeta t = 0
steps_by Mtd t = (mtd (valuation t) (tree t)).passes
steps_by (MtdFrom v) t = (decision_of (start_score v) t).tests
steps_by (Sss n) t = (run_of t).replacements
