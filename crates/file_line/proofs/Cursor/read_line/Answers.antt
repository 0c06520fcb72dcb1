-- Where a line stands at the position, the next position is past twelve digits, and past a line feed if the file goes
-- on.
use Rattle.prelude.proofs.{ℕ, ◌+◌, min, ◌≡◌, sym, ◌∙◌, Bool, true, refl, List, length, Ok, arith}
use Rattle.table.specs.{frame_size}
use Rattle.file_line.specs.{line_digits, is_line_at, bytes_at, line_at, Stored}
use Rattle.file_line.proofs.Lines.{line-bytes}
use Rattle.file_line.proofs.Storing.{stored-whole}
use Rattle.file_line.proofs.Positions.{line-none, line_read, line-is, line-fits}
use Rattle.file_line.proofs.Cursor.read_line.Goals as goal

-- the line that is read, with the next position: the frame has the line's bytes
read : (f : List ℕ) (at : ℕ) {zeros after : List ℕ} {r : Bool} (next : ℕ)
    → Stored (is_line_at f at) (bytes_at f at) zeros 0 after r → r ≡ true → length zeros ≡ frame_size
    → min (at + line_digits + 1) (length f) ≡ next
    → Ok (record { bytes = after }, record { at = next }) ≡ line_at f at
read f at next s t six n =
    let is = sym s.answered ∙ t in
    let whole = stored-whole _ _ _ _ _ s t (line-bytes _ (line-is f at is) ∙ sym six) in
    rw (whole, ← n) (sym (line_read f at is))

pub returns-then-not-decode_line : goal.returns-then-not-decode_line
returns-then-not-decode_line c =
    sym (line-none _ _ (sym c.decode_line.ensures.answered ∙ c.if-not-decode_line.true))

pub overflow_add-end : goal.overflow_add-end
overflow_add-end c =
    let is = sym c.decode_line.ensures.answered ∙ c.if-not-decode_line.false in
    omega (arith, line-fits c.args.file.now c.args.self.at is)

pub returns-then-end-file : goal.returns-then-end-file
returns-then-end-file c =
    read _ _ _ c.decode_line.ensures c.if-not-decode_line.false refl (omega arith)

pub overflow_add-result : goal.overflow_add-result
overflow_add-result c =
    let is = sym c.decode_line.ensures.answered ∙ c.if-not-decode_line.false in
    omega (arith, line-fits c.args.file.now c.args.self.at is)

pub returns : goal.returns
returns c =
    let is = sym c.decode_line.ensures.answered ∙ c.if-not-decode_line.false in
    read _ _ _ c.decode_line.ensures c.if-not-decode_line.false refl
    (omega (arith, line-fits c.args.file.now c.args.self.at is))
