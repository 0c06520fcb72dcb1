-- What stands at a position of a file, case by case, and what reading a line there gives.
use Rattle.prelude.proofs.{ℕ, ◌+◌, ◌-◌, ◌≤◌, ◌<◌, min, ◌≡◌, true, false, and-true, and-false, and-eq-true_iff, List}
use Rattle.prelude.proofs.{Ok, Err}
use Rattle.prelude.proofs.{length, take, drop, length-take, length-drop, add-sub_cancel_left, arith, ne_eqb}
use Rattle.file_line.specs.{line_digits, all_digits, is_line, bytes_at, closed, is_line_at, line_at}
use Rattle.file_line.proofs.Lines.{line-length}

module _ (f : List ℕ) (at : ℕ) where
  -- the twelve bytes at the position
  abbrev pub line_bytes : List ℕ
  line_bytes = take line_digits (drop at f)

  -- as the code lends them
  pub line-part : take (at + line_digits - at) (drop at f) ≡ line_bytes
  line-part = rw (add-sub_cancel_left at line_digits)

  -- fewer than twelve bytes are left
  pub line-short : length f < at + line_digits → is_line_at f at ≡ false
  unfolding is_line_at is_line
  line-short h =
      let short : length line_bytes < line_digits = simp (length-take, length-drop) (omega arith) in
      rw (ne_eqb (length line_bytes) line_digits (omega arith))

  -- what follows the twelve bytes closes no line
  pub line-open : closed (drop (at + line_digits) f) ≡ false → is_line_at f at ≡ false
  unfolding is_line_at
  line-open e = rw e (and-false (is_line line_bytes))

  -- what follows them closes a line: the digits decide
  pub line-closed : at + line_digits ≤ length f → closed (drop (at + line_digits) f) ≡ true
      → is_line_at f at ≡ all_digits line_bytes
  unfolding is_line_at is_line
  line-closed fits e =
      let twelve : length line_bytes ≡ line_digits = simp (length-take, length-drop) (omega arith) in
      rw (e, twelve) (and-true (all_digits line_bytes))

  -- no line is read
  pub line-none : is_line_at f at ≡ false → line_at f at ≡ Err (record { at = at })
  unfolding line_at
  line-none e = rw e

  module _ (is : is_line_at f at ≡ true) where
    -- a line is read
    pub line_read : line_at f at
        ≡ Ok (record { bytes = bytes_at f at }, record { at = min (at + line_digits + 1) (length f) })
    unfolding line_at
    line_read = rw is

    -- the twelve bytes are a line
    pub line-is : is_line line_bytes ≡ true
    unfolding is_line_at
    line-is = ((and-eq-true_iff (is_line line_bytes) (closed (drop (at + line_digits) f))).0 is).0

    -- twelve bytes are left
    pub line-fits : at + line_digits ≤ length f
    line-fits = omega (arith, simp (length-take, length-drop) at (line-length line_bytes line-is))
