-- Each way out is a case of what stands at the position.
use Rattle.prelude.proofs.{sym, ◌∙◌, arith}
use Rattle.file_line.proofs.Positions.{line-part, line-short, line-open, line-closed}
use Rattle.file_line.proofs.Storing.{stored_refused}
use Rattle.file_line.proofs.decode_line.Goals as goal

pub returns-then-size-at : goal.returns-then-size-at
returns-then-size-at c = stored_refused _ _ _ _ (line-short _ _ (omega arith))

pub returns-then-size-at-lt-LINE_DIGITS : goal.returns-then-size-at-lt-LINE_DIGITS
returns-then-size-at-lt-LINE_DIGITS c = stored_refused _ _ _ _ (line-short _ _ (omega arith))

pub returns-then-not-is_closed : goal.returns-then-not-is_closed
returns-then-not-is_closed c =
    stored_refused _ _ _ _ (line-open _ _ (sym c.is_closed.ensures ∙ c.if-not-is_closed.true))

pub returns : goal.returns
returns c =
    let closes = sym c.is_closed.ensures ∙ c.if-not-is_closed.false in
    rw (line-closed c.args.file.now c.args.at (omega arith) closes, ← line-part c.args.file.now c.args.at)
    c.decode_digits.ensures
