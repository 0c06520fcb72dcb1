-- Demand 1, sentence by sentence. "each public entry takes whatever bytes it is lent, stays inside them, finishes":
-- Contracts.antt says it of each entry.
use Rattle.prelude.proofs.{ℕ, ◌<◌, ◌≡◌, sym, Bool, not, Option, none, some, List, [], leb, length, get_or, Err}
use Rattle.lists.proofs.Choice.{clash}
use Rattle.gametree.specs.declared.Side.TheVariants.{Max, Min}
use Rattle.gametree.specs.{in_both}
use Rattle.table.specs.declared.Rejection.{Rejection}
use Rattle.table.specs.{frames, ask, check_node, nodes_rejection, depths_rejection, rejection, checked, LowestNo}
use Rattle.table.specs.{LowestDeep}
use Rattle.table.proofs.Acceptance.{rejected-first}
use Rattle.table.proofs.FirstNo.{lowest-no, nodes-first, depth-first}
use Rattle.file_line.specs.{is_line, has_lowercase, lines_of}
use Rattle.file_read.specs.{each_line, file_check3, file_check16}
use Rattle.file_read.proofs.FirstLine.{line_first}
use Rattle.certificate_check.specs.{rule_holds, check11, check_tree, certificate_rejection, judged, verdict}

-- "and gives a result or one numbered refusal with its place": a refusal is the first "no" to the questions that the
-- call puts. Of each call that is lent memory to change: `keeps` and its like in TheSentence.antt, which say that the
-- memory is then as it was

pub first-table : (t : List ℕ) (r : Rejection) → checked t ≡ Err r → rejection t ≡ some r
first-table t r e = rejected-first t r (sym e)

pub first-certificate : (t flags : List ℕ) (r : Rejection) → verdict t flags ≡ Err r
    → certificate_rejection t flags ≡ some r
unfolding verdict
first-certificate t flags r e = by-questions (certificate_rejection t flags) e
  where
    by-questions : (q : Option Rejection) → judged t flags q ≡ Err r → q ≡ some r
    by-questions none e = clash (cc)
    by-questions (some x) e = cc

-- Questions are put in order by `_andThen_` (table/specs/Rejection.antt). Where one is put to each line or node in
-- turn, its first "no" is that of the lowest. Of the lines of a file: 3 and 16
module _ (f : List ℕ) (r : Rejection) where
  lowest : (g : List ℕ → Bool) (q : ℕ) → each_line (λ i l. ask (g l) q i) 0 (lines_of f) ≡ some r
      → LowestNo (λ k. g (get_or (lines_of f) k [])) q (length (lines_of f)) r
  lowest g q e = let p = line_first q g f r e in record { number = p.0; within = p.1; no = p.2; before = p.3 }

  pub lowest-line : file_check3 f ≡ some r → LowestNo (λ k. is_line (get_or (lines_of f) k [])) 3 (length (lines_of f))
      r
  lowest-line = lowest is_line 3

  pub lowest-small : file_check16 f ≡ some r
      → LowestNo (λ k. not (has_lowercase (get_or (lines_of f) k []))) 16 (length (lines_of f)) r
  lowest-small = lowest (λ l. not (has_lowercase l)) 16

-- of the nodes of a table: 4 to 7, and 9
module _ (t : List ℕ) (r : Rejection) where
  pub lowest-node : nodes_rejection t ≡ some r
      → (r.place < frames t) × (check_node t r.place ≡ some r) × ((k : ℕ) → k < r.place → check_node t k ≡ none)
  lowest-node = nodes-first t r

  pub lowest-deep : depths_rejection t ≡ some r → LowestDeep t r
  lowest-deep = depth-first t r

-- and of the flags of a certificate: 11, 12 and 13
module _ (t flags : List ℕ) (r : Rejection) where
  pub lowest-flag : check11 t flags ≡ some r → LowestNo (λ i. leb (get_or flags i 0) in_both) 11 (frames t) r
  lowest-flag = lowest-no _ 11 (frames t) r

  pub lowest-max : check_tree 12 Max t flags ≡ some r → LowestNo (rule_holds Max t flags) 12 (frames t) r
  lowest-max = lowest-no _ 12 (frames t) r

  pub lowest-min : check_tree 13 Min t flags ≡ some r → LowestNo (rule_holds Min t flags) 13 (frames t) r
  lowest-min = lowest-no _ 13 (frames t) r
