-- Each way out is that of the questions on lines, of 16, or of the questions on frames.
use Rattle.table.specs.declared.Rejection.{Rejection}
use Rattle.prelude.proofs.{ℕ, List, ◌≡◌, sym, ◌∙◌, arith, Result, Ok}
use Rattle.table.proofs.Asked.{passed-on, answer-nodes, answer-rejected}
use Rattle.table.specs.{frames_rejection}
use Rattle.file_line.specs.{decoded}
use Rattle.file_read.specs.{file_check16, lines_rejection, Decoded}
use Rattle.file_read.proofs.Reading.{Front, decoded-front, lines-parts, file-then, lines-refused, next-refused}
use Rattle.file_read.proofs.Reading.{frames-asked}
use Rattle.file_read.proofs.check_file.Goals as goal

-- the lines have passed questions 1 to 3
front : (f table : List ℕ) (r : Result ℕ Rejection) (n : ℕ) → Decoded f (lines_rejection f) table r → r ≡ Ok n
    → Front f (lines_rejection f) table n
front f table r n d e = decoded-front _ _ _ _ d (λ p. (let q = lines-parts _ p in (q.1, q.2))) _ e

pub returns-in_err-lines : goal.returns-in_err-lines
returns-in_err-lines c =
    rw (passed-on _ _ c.from_residual.ensures.1, ← c.in_err-lines.was, file-then)
    (lines-refused _ _ _ _ c.check_lines.ensures _ c.in_err-lines.was)

pub check_letters-requires : goal.check_letters-requires
check_letters-requires c =
    let w = front _ _ _ _ c.check_lines.ensures c.in_ok-lines.was in ((lines-parts _ w.passed).2, w.lines)

pub returns-in_err-check_letters : goal.returns-in_err-check_letters
returns-in_err-check_letters c =
    let f = c.args.file.now in
    rw (passed-on _ _ c.from_residual-in_err-check_letters.ensures.1, file-then)
    (next-refused f _ _ (front _ _ _ _ c.check_lines.ensures c.in_ok-lines.was) (file_check16 f)
    (frames_rejection (decoded f)) _ (answer-rejected _ _ _ c.in_err-check_letters.ensures))

pub check_frames-requires : goal.check_frames-requires
check_frames-requires c =
    let w = front _ _ _ _ c.check_lines.ensures c.in_ok-lines.was in rw w.bytes (omega (arith, w.at_most, w.nodes))

pub returns : goal.returns
returns c =
    rw file-then
    (frames-asked _ _ _ (front _ _ _ _ c.check_lines.ensures c.in_ok-lines.was) _ _
    (answer-nodes _ _ _ c.in_ok-check_letters.ensures).0 c.check_frames.ensures)
