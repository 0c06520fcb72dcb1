-- What lifting keeps of a file: its lines, and the digit that each byte is. So the lifted file has the file's table,
-- and gets the answers that the file gets, but to question 16, which passes.
use Rattle.prelude.proofs.{ℕ, zero, suc, ◌+◌, ◌-◌, ◌≡◌, refl, ap, ◌∙◌, Bool, true, false, cond, none, List, [], ◌∷◌}
use Rattle.prelude.proofs.{map, eqb, length, take, drop, length-map, arith, ne_eqb}
use Rattle.file_hex.specs.{is_lowercase, digit_of}
use Rattle.file_hex.proofs.Digits.{inside, below, above, bounds}
use Rattle.file_line.specs.{line_digits, line_feed, all_digits, is_line, has_lowercase, bytes_of, closed, is_line_at}
use Rattle.file_line.specs.{line_at, put_before, lines_of, decode, decoded}
use Rattle.file_read.specs.{each_line, file_check3, file_check16, file_rejection, line_check16, line_check3}
use Rattle.file_convert.specs.{raise_case, raised, base_rejection}

module _ (b : ℕ) where
  -- a capital has the number of its lowercase letter
  raise-digit : digit_of (raise_case b) ≡ digit_of b
  unfolding raise_case digit_of
  raise-digit = go (is_lowercase b) refl
    where
      go : (small : Bool) → is_lowercase b ≡ small → digit_of (cond small (b - 32) b) ≡ digit_of b
      go true e =
          let p = bounds 97 102 b e in
          rw (
            above 48 57 (b - 32) (omega arith),
            inside 65 70 (b - 32) (omega arith) (omega arith),
            above 48 57 b (omega arith),
            above 65 70 b (omega arith),
            e,
          ) (omega arith)
      go false e = refl

  -- it is no line feed where that is none
  raise-feed : eqb (raise_case b) line_feed ≡ eqb b line_feed
  unfolding raise_case
  raise-feed = go (is_lowercase b) refl
    where
      go : (small : Bool) → is_lowercase b ≡ small → eqb (cond small (b - 32) b) line_feed ≡ eqb b line_feed
      go true e =
          let p = bounds 97 102 b e in
          rw (ne_eqb (b - 32) line_feed (λ z. omega arith), ne_eqb b line_feed (λ z. omega arith))
      go false e = refl

  -- and no lowercase letter
  raise-large : is_lowercase (raise_case b) ≡ false
  unfolding raise_case
  raise-large = go (is_lowercase b) refl
    where
      go : (small : Bool) → is_lowercase b ≡ small → is_lowercase (cond small (b - 32) b) ≡ false
      go true e = let p = bounds 97 102 b e in below 97 102 (b - 32) (omega arith)
      go false e = e

-- a lifted file is as long as the file
raised-length : (f : List ℕ) → length (raised f) ≡ length f
raised-length f = length-map f raise_case

-- of a line
raised-digits : (l : List ℕ) → all_digits (raised l) ≡ all_digits l
unfolding all_digits
raised-digits [] = refl
raised-digits (b ∷ l) = rw (raise-digit b, raised-digits l)

raised-right : (l : List ℕ) → is_line (raised l) ≡ is_line l
unfolding is_line
raised-right l = rw (raised-length l, raised-digits l)

raised-bytes : (l : List ℕ) → bytes_of (raised l) ≡ bytes_of l
unfolding bytes_of
raised-bytes [] = refl
raised-bytes (h ∷ []) = refl
raised-bytes (h ∷ l ∷ ds) = rw (raise-digit h, raise-digit l, raised-bytes ds)

raised-large : (l : List ℕ) → has_lowercase (raised l) ≡ false
unfolding has_lowercase
raised-large [] = refl
raised-large (b ∷ l) = rw (raise-large b) (raised-large l)

-- of lines
lines-right : (i : ℕ) (ls : List (List ℕ)) → each_line line_check3 i (map raised ls) ≡ each_line line_check3 i ls
unfolding each_line
lines-right i [] = refl
lines-right i (l ∷ ls) = rw (raised-right l, lines-right (i + 1) ls)

lines-large : (i : ℕ) (ls : List (List ℕ)) → each_line line_check16 i (map raised ls) ≡ none
unfolding each_line
lines-large i [] = refl
lines-large i (l ∷ ls) = rw (raised-large l) (lines-large (i + 1) ls)

lines-bytes : (ls : List (List ℕ)) → decode (map raised ls) ≡ decode ls
unfolding decode
lines-bytes [] = refl
lines-bytes (l ∷ ls) = rw (raised-bytes l, lines-bytes ls)

-- the lines of a lifted file
lines-raised : (f : List ℕ) → lines_of (raised f) ≡ map raised (lines_of f)
unfolding lines_of
lines-raised [] = refl
lines-raised (b ∷ f) = rw (raise-feed b, lines-raised f) (go (eqb b line_feed) (lines_of f))
  where
    go : (e : Bool) (ls : List (List ℕ)) → put_before e (raise_case b) (map raised ls) ≡ map raised (put_before e b ls)
    go true ls = refl
    go false [] = refl
    go false (l ∷ ls) = refl

module _ (f : List ℕ) where
  -- a lifted file has the file's table
  pub raised-table : decoded (raised f) ≡ decoded f
  raised-table = rw (lines-raised f) (lines-bytes (lines_of f))

  -- question 3 sees no letter case, and 16 passes
  pub raised-check3 : file_check3 (raised f) ≡ file_check3 f
  raised-check3 = rw (lines-raised f) (lines-right 0 (lines_of f))

  pub raised-check16 : file_check16 (raised f) ≡ none
  raised-check16 = rw (lines-raised f) (lines-large 0 (lines_of f))

  -- the reader's questions to a lifted file are those that the base put to the file
  pub raised-rejection : file_rejection (raised f) ≡ base_rejection f
  unfolding file_rejection
  raised-rejection = rw (raised-length f, raised-check3, raised-check16, raised-table)

-- reading one line takes either letter case: that of a lifted file gives what that of the file gives
raised-drop : (n : ℕ) (l : List ℕ) → drop n (raised l) ≡ raised (drop n l)
raised-drop zero l = refl
raised-drop (suc n) [] = refl
raised-drop (suc n) (b ∷ l) = raised-drop n l

raised-take : (n : ℕ) (l : List ℕ) → take n (raised l) ≡ raised (take n l)
raised-take zero l = refl
raised-take (suc n) [] = refl
raised-take (suc n) (b ∷ l) = ap (λ (k : List ℕ). raise_case b ∷ k) (raised-take n l)

raised-closed : (l : List ℕ) → closed (raised l) ≡ closed l
raised-closed [] = refl
raised-closed (b ∷ l) = raise-feed b

pub raised-line : (f : List ℕ) (at : ℕ) → line_at (raised f) at ≡ line_at f at
unfolding line_at is_line_at
raised-line f at =
    let line = take line_digits (drop at f) in
    let same : take line_digits (drop at (raised f)) ≡ raised line =
    ap (take line_digits) (raised-drop at f) ∙ raised-take line_digits (drop at f) in
    rw (
      same,
      raised-right line,
      raised-bytes line,
      raised-drop (at + line_digits) f,
      raised-closed (drop (at + line_digits) f),
      raised-length f,
    )
