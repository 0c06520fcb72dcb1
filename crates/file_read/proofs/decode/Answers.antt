-- Each turn decodes one line and stores its bytes behind the ones before.
use Rattle.prelude.proofs.{ap, Err}
use Rattle.prelude.proofs.{◌+◌, ◌*◌, ◌≡◌, sym, ◌∙◌, subst, sets, arith}
use Rattle.table.specs.{frame_size}
use Rattle.file_line.specs.{line_digits, line_size, bytes_at}
use Rattle.file_read.proofs.Decoding.{Decoding, decoding-all, decoding-stop, decoding-next}
use Rattle.file_read.proofs.decode.Goals as goal

pub returns-then-not-decode_line : goal.returns-then-not-decode_line
returns-then-not-decode_line c =
    rw c.at.ensures
    (decoding-stop _ _ _ _ (omega arith) c.loop-line.invariant (omega arith) _
    (sym c.decode_line.ensures.answered ∙ c.if-not-decode_line.true))

pub loop-line-preserved : goal.loop-line-preserved
loop-line-preserved c =
    let is = c.if-not-decode_line.false in
    let after : line_size * c.loop-line.line + (line_digits + 1) ≡ line_size * (c.loop-line.line + 1) = omega arith in
    let line = bytes_at c.args.file.now (line_size * c.loop-line.line) in
    let stored = sets c.loop-line.table (frame_size * c.loop-line.line) line in
    rw (rw is at c.decode_line.ensures.stored)
    (subst (λ at. Decoding c.args.file.now stored at (c.loop-line.line + 1)) after
    (decoding-next _ _ _ _ (omega arith) c.loop-line.invariant (omega arith)
    (sym c.decode_line.ensures.answered ∙ is)))

pub returns : goal.returns
returns c =
    let lines : c.div_ceil-lines.result ≡ c.loop-line.line = omega (arith, c.loop-line-test.false) in
    rw lines
    (decoding-all _ _ _ _ (omega arith) c.loop-line.invariant (omega (arith, c.div_ceil-lines.ensures, lines)))
