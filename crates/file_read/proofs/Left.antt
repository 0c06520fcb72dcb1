-- The lines that are left at a position: reading one line takes the first of them.
use Rattle.prelude.proofs.{ℕ, suc, ◌+◌, ◌<◌, ◌≡◌, sym, ap, ◌∙◌, true, false, none, some, List, ◌∷◌, length, get_or}
use Rattle.prelude.proofs.{take, drop, drop-cons, drop-drop, arith}
use Rattle.table.proofs.Stated.{ask-yes, both-passed}
use Rattle.file_line.specs.{line_digits, is_line, is_line_at, lines_of}
use Rattle.file_line.proofs.Lines.{line-length}
use Rattle.file_line.proofs.Positions.{line_bytes, line-fits}
use Rattle.file_line.proofs.Splits.{first_line, after_line, lines-first, first-take, after-drop, first-digits}
use Rattle.file_read.specs.{each_line, line_check3}

module _ (f : List ℕ) (at : ℕ) where
  abbrev left : List ℕ
  left = drop at f

  -- a position that is not at the end has a line
  lines_left : at < length f → lines_of left ≡ first_line left ∷ lines_of (after_line left)
  lines_left h = rw (drop-cons f at 0 h) (lines-first (get_or f at 0) (drop (suc at) f))

  -- it is as SPEC 2.2 says exactly if a line stands at the position
  first-is : is_line (first_line left) ≡ is_line_at f at
  unfolding is_line is_line_at
  first-is = first-digits line_digits left ∙ rw (drop-drop line_digits at f)

  -- where question 3 passes for the lines that are left, a line stands at the position
  pub line-stands : (n : ℕ) → at < length f → each_line line_check3 n (lines_of left) ≡ none → is_line_at f at ≡ true
  unfolding each_line
  line-stands n h e =
      sym first-is ∙ ask-yes _ _ _ (both-passed (line_check3 n (first_line left)) _ (rw (lines_left h) at e)).0

  -- a line that stands at the position is the first that is left
  pub lines_next : is_line_at f at ≡ true
      → lines_of left ≡ line_bytes f at ∷ lines_of (drop (at + (line_digits + 1)) f)
  lines_next is =
      let twelve : length (first_line left) ≡ line_digits = line-length (first_line left) (first-is ∙ is) in
      let first : first_line left ≡ line_bytes f at =
      first-take left ∙ ap (λ (n : ℕ). take n left) twelve in
      let after : after_line left ≡ drop (at + (line_digits + 1)) f =
      after-drop left ∙ rw (twelve, drop-drop (line_digits + 1) at f) in
      lines_left (omega (arith, line-fits f at is)) ∙ rw (first, after)

  -- where none stands, the first that is left is not as SPEC 2.2 says
  pub lines-stop : (n : ℕ) → at < length f → is_line_at f at ≡ false
      → each_line line_check3 n (lines_of left) ≡ some (record { number = 3; place = n })
  unfolding each_line
  lines-stop n h not = rw (lines_left h, first-is, not)
