-- The line's digits stand in front of four zeros when they are read, and each turn stores the byte of two of them
-- behind the ones before.
use Rattle.prelude.proofs.{◌+◌, ◌*◌, ◌≡◌, List, ℕ, ◌++◌, length, take, drop, replicate, take-length, arith}
use Rattle.file_line.specs.{digits_at_once}
use Rattle.file_line.proofs.Storing.{stored_refused, byte-stored, stored-all}
use Rattle.file_line.proofs.Numbering.{line-number, line-right, line-wrong}
use Rattle.file_line.proofs.decode_digits.Goals as goal

-- what is copied over zeros
copied : {line front : List ℕ} → front ≡ line
    → front ++ drop (length line) (replicate digits_at_once 48)
    ≡ take (length line) line ++ drop (length line) (replicate digits_at_once 48)
copied {line} e = rw (e, take-length line)

pub returns-then-read_digits-ne0 : goal.returns-then-read_digits-ne0
returns-then-read_digits-ne0 c =
    stored_refused _ _ _ _
    (line-wrong c.args.line.now _ c.requires.0 (copied c.copy_from_slice.ensures.after) _ _ c.read_digits.ensures
    (omega arith))

pub loop-k-preserved : goal.loop-k-preserved
loop-k-preserved c =
    let number =
    line-number c.args.line.now _ c.requires.0 (copied c.copy_from_slice.ensures.after) _ _ c.read_digits.ensures
    (omega arith) in
    byte-stored _ _ _ _ c.requires.0 (omega arith) _ _ _ c.loop-k.invariant (number (2 * c.loop-k.k) (omega arith))
    (number (2 * c.loop-k.k + 1) (omega arith))

pub returns : goal.returns
returns c =
    stored-all _ _ _ _ c.loop-k.k c.requires.0 (omega arith) c.loop-k.invariant
    (line-right c.args.line.now _ c.requires.0 (copied c.copy_from_slice.ensures.after) _ _ c.read_digits.ensures
    (omega arith))
