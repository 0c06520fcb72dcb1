-- What calls gave for a table or a file before byte 3 had a meaning (02: N8): question 4 asked for zero, and who moves
-- was read from the depth.
use Rattle.std.specs.Prelude.{ℕ, Bool, ◌&&◌, List, [], ◌∷◌, eqb, length, Result, ℤ}
use Rattle.std.proofs.Math.Option.{Option}
use Rattle.lists.specs.Lists.{count_from}
use Rattle.gametree.specs.declared.Side.{Side}
use Rattle.gametree.specs.declared.Side.TheVariants.{Max, Min}
use Rattle.table.specs.declared.Rejection.{Rejection}
use Rattle.table.specs.Frame.{frames, first_child, child_count}
use Rattle.table.specs.Position.{depth_of}
use Rattle.table.specs.Tree.{valuation}
use Rattle.table.specs.Rejection.{ask, ◌and_then◌, each_node, unless}
use Rattle.table.specs.Check.{check1, check10}
use Rattle.table.specs.Results.Alternating.{zero_frames, zero_rejection, side_by_depth, tree_by_depth}
use Rattle.file_line.specs.Lines.{decoded}
use Rattle.file_read.specs.File.{file_check2, file_check3, file_check16}
use Rattle.certificate_check.specs.Flags.{member, required_of, root_member}
use Rattle.certificate_check.specs.Check.{check11, check14, judged}
use Rattle.text.specs.Text.{refused_line}
use Rattle.analysis.specs.Report.{analysis_on}

-- the first "no" to the questions put to a file
abbrev pub zero_file : List ℕ → Option Rejection
zero_file f = check1 f and_then file_check2 f and_then file_check3 f and_then file_check16 f and_then zero_frames
    (decoded f)

-- the rule of node i for side p's tree, where who moves is read from the depth
abbrev pub rule_by_depth : Side → List ℕ → List ℕ → ℕ → Bool
rule_by_depth p t flags i =
    root_member p flags i
    && eqb (count_from (member p flags) (first_child t i) (child_count t i))
    (required_of p (side_by_depth (depth_of t i)) (member p flags i) (child_count t i))

abbrev pub tree_rule_by_depth : ℕ → Side → List ℕ → List ℕ → Option Rejection
tree_rule_by_depth q p t flags = each_node (λ i. ask (rule_by_depth p t flags i) q i) 0 (frames t)

-- the answer of the check of a certificate
abbrev pub verdict_by_depth : List ℕ → List ℕ → Result ℤ Rejection
verdict_by_depth t flags =
    judged t flags
    (zero_rejection t and_then check10 (frames t) (length flags ∷ []) and_then check11 t flags
    and_then tree_rule_by_depth 12 Max t flags and_then tree_rule_by_depth 13 Min t flags and_then check14 t flags)

-- what the program printed for a file
abbrev pub report_by_depth : List ℕ → List ℕ
report_by_depth f = unless (zero_file f) refused_line (analysis_on (valuation (decoded f)) (tree_by_depth (decoded f)))
