-- Each way out is that of the questions on lines or of the questions on frames.
use Rattle.table.specs.declared.Rejection.{Rejection}
use Rattle.prelude.proofs.{ℕ, List, ◌≡◌, refl, none, arith, Result, Ok}
use Rattle.table.proofs.Asked.{passed-on}
use Rattle.table.specs.{frames_rejection}
use Rattle.file_line.specs.{decoded}
use Rattle.file_read.specs.{lines_rejection, Decoded}
use Rattle.file_read.proofs.Reading.{Front, decoded-front, lines-parts, lines_then, lines-refused, frames-asked}
use Rattle.file_convert.proofs.check_file.Goals as goal

-- the lines have passed questions 1 to 3
front : (f table : List ℕ) (r : Result ℕ Rejection) (n : ℕ) → Decoded f (lines_rejection f) table r → r ≡ Ok n
    → Front f (lines_rejection f) table n
front f table r n d e = decoded-front _ _ _ _ d (λ p. (let q = lines-parts _ p in (q.1, q.2))) _ e

pub returns-in_err-lines : goal.returns-in_err-lines
returns-in_err-lines c =
    let f = c.args.file.now in
    let frames = frames_rejection (decoded f) in
    rw (passed-on _ _ c.from_residual.ensures.1, ← c.in_err-lines.was, lines_then f frames)
    (lines-refused _ _ frames _ c.check_lines.ensures _ c.in_err-lines.was)

pub check_frames-requires : goal.check_frames-requires
check_frames-requires c =
    let w = front _ _ _ _ c.check_lines.ensures c.in_ok-lines.was in rw w.bytes (omega (arith, w.at_most, w.nodes))

pub returns : goal.returns
returns c =
    let f = c.args.file.now in
    rw (lines_then f (frames_rejection (decoded f)))
    (frames-asked _ _ _ (front _ _ _ _ c.check_lines.ensures c.in_ok-lines.was) none _ refl c.check_frames.ensures)
