-- What follows from Alternating for the calls: each gives what it gave before byte 3 had a meaning, by its definition
-- of then. All that a search gives and leaves follows from the tree (`gives-exactly` and `leaves-exactly` in Demand2,
-- `same-bounds` in Plain).
use Rattle.prelude.proofs.{ℕ, ◌<◌, arith, ◌≡◌, refl, ap, ap₂, ◌∙◌, Option, none, some, List, [], ◌∷◌, ◌++◌, length}
use Rattle.prelude.proofs.{Ok, Err}
use Rattle.prelude.proofs.{drop}
use Rattle.gametree.specs.declared.Side.{Side}
use Rattle.gametree.specs.declared.Side.TheVariants.{Max, Min}
use Rattle.gametree.specs.{Tree}
use Rattle.table.specs.{frames, tree, valuation, ask, ◌and_then◌, unless, ◌leaving◌, Accepted, check1, check10}
use Rattle.table.specs.{Alternating, zero_rejection, tree_by_depth}
use Rattle.table.specs.declared.Rejection.{Rejection}
use Rattle.table.proofs.Acceptance.{accepted-formed}
use Rattle.table.proofs.Sides.{each_same, frames-before, rejection-before, side-parity, tree-before}
use Rattle.file_line.specs.{decoded}
use Rattle.file_read.specs.{file_check2, file_check3, file_check16, file_check10, file_rejection, read_rejection}
use Rattle.file_read.specs.{read_outcome}
use Rattle.file_read.proofs.Acceptance.{accepted-table}
use Rattle.certificate_check.specs.{rule_holds, check_tree, check11, check14, trees_rejection, flags_rejection}
use Rattle.certificate_check.specs.{certificate_rejection, judged, verdict}
use Rattle.text.specs.{refused_line}
use Rattle.analysis.specs.{analysis_on, report}
use Rattle.demands.specs.{zero_file, rule_by_depth, tree_rule_by_depth, verdict_by_depth, report_by_depth}

module _ (t : List ℕ) (p : Alternating t) where
  rule-before : (s : Side) (flags : List ℕ) (i : ℕ) → i < frames t → rule_holds s t flags i ≡ rule_by_depth s t flags i
  unfolding rule_holds
  rule-before s flags i h = rw (side-parity t p i h)

  tree-rule-before : (q : ℕ) (s : Side) (flags : List ℕ) → check_tree q s t flags ≡ tree_rule_by_depth q s t flags
  tree-rule-before q s flags =
      each_same _ _ 0 (frames t) (λ i h. ap (λ b. ask b q i) (rule-before s flags i (omega arith)))

  -- the check of certificates answers what it answered
  pub alternating-verdict : (flags : List ℕ) → verdict t flags ≡ verdict_by_depth t flags
  unfolding verdict certificate_rejection flags_rejection trees_rejection
  alternating-verdict flags =
      ap (λ x. judged t flags (x and_then flags_rejection t flags)) (rejection-before t p)
      ∙ ap₂ (λ x y. judged t flags (zero_rejection t and_then check10 (frames t) (length flags ∷ [])
      and_then check11 t flags and_then x and_then y and_then check14 t flags)) (tree-rule-before 12 Max flags)
      (tree-rule-before 13 Min flags)

  pub alternating-tree : Accepted t → tree t ≡ tree_by_depth t
  alternating-tree a = tree-before t p (accepted-formed t a)

-- of files
module _ (f : List ℕ) (p : Alternating (decoded f)) where
  -- the questions put to a file say what they said,
  pub alternating-file : file_rejection f ≡ zero_file f
  unfolding file_rejection
  alternating-file =
      ap (λ x. check1 f and_then file_check2 f and_then file_check3 f and_then file_check16 f and_then x)
      (frames-before (decoded f) p)

  -- and so the reader answers what it answered, and leaves what it left
  pub alternating-read : (table : List ℕ) → read_outcome f table
      ≡ unless (zero_file f and_then file_check10 f table) (λ r. Err r leaving table)
      (Ok (frames (decoded f)) leaving (decoded f ++ drop (length (decoded f)) table))
  unfolding read_rejection
  alternating-read table =
      ap (λ x. unless (x and_then file_check10 f table) (λ r. Err r leaving table)
      (Ok (frames (decoded f)) leaving (decoded f ++ drop (length (decoded f)) table))) alternating-file

  -- and the program prints what it printed
  abbrev printed_by : Option Rejection → Tree → List ℕ
  printed_by q x = unless q refused_line (analysis_on (valuation (decoded f)) x)

  printed-before : (q : Option Rejection) → file_rejection f ≡ q
      → printed_by q (tree (decoded f)) ≡ printed_by q (tree_by_depth (decoded f))
  printed-before none e =
      ap (analysis_on (valuation (decoded f)))
      (tree-before (decoded f) p (accepted-formed (decoded f) (accepted-table f e).1))
  printed-before (some r) e = refl

  pub alternating-report : report f ≡ report_by_depth f
  alternating-report =
      printed-before (file_rejection f) refl ∙ ap (λ q. printed_by q (tree_by_depth (decoded f))) alternating-file
