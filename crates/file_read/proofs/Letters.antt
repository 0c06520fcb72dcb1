-- Question 16: the loop over the lines of a file whose lines have passed question 3; what holds after n lines.
use Rattle.prelude.proofs.{ℕ, ◌+◌, ◌*◌, ◌≤◌, ◌<◌, ◌≡◌, refl, ◌∙◌, Bool, true, false, none, some, List, [], ◌∷◌}
use Rattle.prelude.proofs.{length, Ok}
use Rattle.prelude.proofs.{drop, drop_of_length-le, eqb, arith, dec_lt}
use Rattle.lists.proofs.Choice.{or-false-both}
use Rattle.table.specs.{answer}
use Rattle.table.proofs.Stated.{both-passed}
use Rattle.file_hex.specs.{is_lowercase}
use Rattle.file_line.specs.{line_feed, line_digits, line_size, has_lowercase, is_line_at, put_before, lines_of}
use Rattle.file_line.proofs.Positions.{line_bytes, line-fits}
use Rattle.file_read.specs.{each_line, file_check3, file_check16, line_check16, line_check3}
use Rattle.file_read.proofs.Left.{lines_next, line-stands}

-- where a file has no lowercase letter, none of its lines has one
lines-small : (f : List ℕ) (i : ℕ) → has_lowercase f ≡ false → each_line line_check16 i (lines_of f) ≡ none
unfolding lines_of each_line has_lowercase
lines-small [] i e = refl
lines-small (b ∷ f) i e = go (eqb b line_feed) (lines_of f) (λ j. lines-small f j p.1)
  where
    p : (is_lowercase b ≡ false) × (has_lowercase f ≡ false)
    p = or-false-both (is_lowercase b) (has_lowercase f) e

    go : (x : Bool) (ls : List (List ℕ)) → ((j : ℕ) → each_line line_check16 j ls ≡ none)
        → each_line line_check16 i (put_before x b ls) ≡ none
    go true ls h = h (i + 1)
    go false [] h = rw p.0
    go false (l ∷ ls) h = rw p.0 (h i)

pub file-small : (f : List ℕ) → has_lowercase f ≡ false → file_check16 f ≡ none
file-small f e = lines-small f 0 e

-- after n lines question 16 is left for the lines from there on, which have passed question 3
pub record Lettering (f : List ℕ) (n : ℕ) : Type 0 where
  pub right : each_line line_check3 n (lines_of (drop (line_size * n) f)) ≡ none
  pub many : n + length (lines_of (drop (line_size * n) f)) ≡ length (lines_of f)
  pub passed : file_check16 f ≡ each_line line_check16 n (lines_of (drop (line_size * n) f))

module _ (f : List ℕ) where
  -- before the first line
  pub lettering-none : file_check3 f ≡ none → Lettering f 0
  lettering-none e = record { right = e; many = omega arith; passed = refl }

  module _ (n : ℕ) (l : Lettering f n) where
    abbrev at : ℕ
    at = line_size * n

    -- past the last line
    pub lettering-all : length (lines_of f) ≤ n
        → Ok (length (lines_of f)) ≡ answer (length (lines_of f)) (file_check16 f)
    unfolding each_line
    lettering-all h = rw (l.passed ∙ no_lines (lines_of (drop at f)) (omega (arith, l.many)))
      where
        no_lines : (ls : List (List ℕ)) → length ls ≤ 0 → each_line line_check16 n ls ≡ none
        no_lines [] h = refl
        no_lines (x ∷ ls) h = absurd (omega arith)

    module _ (inside : n < length (lines_of f)) where
      -- a line stands at the position
      not-past : length f ≤ at → ⊥
      unfolding lines_of
      not-past h =
          let e : length (lines_of (drop at f)) ≡ 0 = rw (drop_of_length-le f {i = at} h) in omega (arith, l.many)

      pub line-here : is_line_at f at ≡ true
      line-here = elim (dec_lt at (length f)) [
        | yes h ↦ line-stands f at n h l.right
        | no h ↦ absurd (not-past (omega arith))
      ]

      pub line-room : at + line_digits ≤ length f
      line-room = line-fits f at line-here

      -- it has a lowercase letter
      pub lettering-stop : has_lowercase (line_bytes f at) ≡ true
          → file_check16 f ≡ some (record { number = 16; place = n })
      unfolding each_line
      lettering-stop e = l.passed ∙ rw (lines_next f at line-here, e)

      -- it has none
      pub lettering-next : has_lowercase (line_bytes f at) ≡ false → Lettering f (n + 1)
      unfolding each_line
      lettering-next e =
          let next : at + line_size ≡ line_size * (n + 1) = omega arith in
          let lines = lines_next f at line-here in
          record {
            right = rw (← next) (both-passed (line_check3 n (line_bytes f at)) _ (rw lines at l.right)).1;
            many = rw (← next) (omega (arith, rw lines at l.many));
            passed = l.passed ∙ rw (lines, e, next);
          }
