-- Every report fits a text: an analysis, and the line of a rejection.
use Rattle.prelude.proofs.{ℕ, ◌+◌, ◌≤◌, arith, Option, none, some, List, [], ◌∷◌, ◌++◌, map, length, length-append}
use Rattle.table.specs.declared.Rejection.{Rejection}
use Rattle.gametree.specs.{Tree, least, greatest, minimax, root_move_of, reached, sss as run}
use Rattle.gametree.specs.Mtd as rule
use Rattle.methods.specs.declared.Method.TheVariants.{AlphaBeta, Mtd, Sss}
use Rattle.methods.specs.declared.Findings.{Findings}
use Rattle.methods.specs.{findings_by}
use Rattle.table.specs.{max_nodes, tree, valuation, value_of, unless}
use Rattle.file_line.specs.{decoded}
use Rattle.file_read.specs.{file_rejection}
use Rattle.text.specs.{refused_line, text_size}
use Rattle.text.proofs.Digits.{decimal-short, signed_decimal-few}
use Rattle.text.proofs.Sizes.{refused-few}
use Rattle.analysis.specs.{heading, method_line, findings_line, analysis_on, analysis, line_by, report}

-- a line besides the name
line-few : (name : List ℕ) (f : Findings) → length (findings_line name f) ≤ length name + 65
line-few name f =
    simp length-append
    (omega (arith, signed_decimal-few f.value, decimal-short f.root_move, decimal-short f.leaves))

method-few : (name : List ℕ) (ν : ℕ → ℕ) (x : Tree) (w : List ℕ) → length (method_line name ν x w) ≤ length name + 65
method-few name ν x w =
    line-few name
    (record { value = value_of (minimax ν x); root_move = root_move_of ν x; leaves = length w; steps = 0 })

-- the heading and three lines
few : (a b c : List ℕ) → length a ≤ 67 → length b ≤ 68 → length c ≤ 68
    → length (heading ++ (a ++ (b ++ c))) ≤ text_size
few a b c h i j = simp length-append (omega (arith, h, i, j))

pub analysis-few : (t : List ℕ) → length (analysis t) ≤ text_size
unfolding line_by
analysis-few t =
    let ab = findings_line (97 ∷ 98 ∷ []) (findings_by AlphaBeta t) in
    let mtd = findings_line (109 ∷ 116 ∷ 100 ∷ []) (findings_by Mtd t) in
    let sss = findings_line (115 ∷ 115 ∷ 115 ∷ []) (findings_by (Sss max_nodes) t) in
    let last = line-few (115 ∷ 115 ∷ 115 ∷ []) (findings_by (Sss max_nodes) t) in
    few ab mtd (sss ++ []) (line-few (97 ∷ 98 ∷ []) (findings_by AlphaBeta t))
    (line-few (109 ∷ 116 ∷ 100 ∷ []) (findings_by Mtd t)) (omega (arith, last, length-append sss []))

printed-few : (t : List ℕ) (q : Option Rejection)
    → length (unless q refused_line (analysis_on (valuation t) (tree t))) ≤ text_size
printed-few t none =
    let ν = valuation t in
    let x = tree t in
    let ab = reached ν least greatest x in
    let mtd = (rule.mtd ν x).evaluated in
    let sss = map (λ e. e.leaf) (run ν x).evaluations in
    few (method_line (97 ∷ 98 ∷ []) ν x ab) (method_line (109 ∷ 116 ∷ 100 ∷ []) ν x mtd)
    (method_line (115 ∷ 115 ∷ 115 ∷ []) ν x sss) (method-few (97 ∷ 98 ∷ []) ν x ab)
    (method-few (109 ∷ 116 ∷ 100 ∷ []) ν x mtd) (method-few (115 ∷ 115 ∷ 115 ∷ []) ν x sss)
printed-few t (some r) = refused-few r

-- there is room for the report of any file
pub report-few : (f : List ℕ) → length (report f) ≤ text_size
report-few f = printed-few (decoded f) (file_rejection f)
