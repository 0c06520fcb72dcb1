-- A file's first line and what follows it. The first line is what stands before the first line feed; it is right
-- (SPEC 2.2) exactly if twelve digits stand at the front, and then a line feed or the end.
use Rattle.prelude.proofs.{ℕ, zero, suc, ◌≡◌, refl, sym, ap, Bool, true, false, cond, ◌&&◌, and-false, and_assoc, List}
use Rattle.prelude.proofs.{[], ◌∷◌, ltb, eqb, eqb-zero-suc, eqb-suc-zero, eqb-suc-suc, length, take, drop, eqb-true}
use Rattle.file_hex.specs.{no_digit, digit_of}
use Rattle.file_line.specs.{line_feed, all_digits, closed, put_before, lines_of}

-- the first line from a byte b on: empty where b is a line feed
abbrev first_from : Bool → ℕ → List ℕ → List ℕ
first_from true b l = []
first_from false b l = b ∷ l

-- the bytes before the first line feed
pub first_line : List ℕ → List ℕ
first_line [] = []
first_line (b ∷ f) = first_from (eqb b line_feed) b (first_line f)

-- the bytes after it
pub after_line : List ℕ → List ℕ
after_line [] = []
after_line (b ∷ f) = cond (eqb b line_feed) f (after_line f)

-- a file that is not empty has a first line
pub lines-first : (b : ℕ) (f : List ℕ) → lines_of (b ∷ f) ≡ first_line (b ∷ f) ∷ lines_of (after_line (b ∷ f))
unfolding lines_of first_line after_line
lines-first b [] = go (eqb b line_feed)
  where
    go : (e : Bool) → put_before e b [] ≡ first_from e b [] ∷ lines_of (cond e [] [])
    go true = refl
    go false = refl
lines-first b (c ∷ f) = go (eqb b line_feed) (lines-first c f)
  where
    r : List ℕ
    r = c ∷ f

    go : (e : Bool) → lines_of r ≡ first_line r ∷ lines_of (after_line r)
        → put_before e b (lines_of r) ≡ first_from e b (first_line r) ∷ lines_of (cond e r (after_line r))
    go true i = refl
    go false i = ap (put_before false b) i

-- the first line is the front of the file
pub first-take : (f : List ℕ) → first_line f ≡ take (length (first_line f)) f
unfolding first_line
first-take [] = refl
first-take (b ∷ f) = go (eqb b line_feed) (first-take f)
  where
    go : (e : Bool) → first_line f ≡ take (length (first_line f)) f
        → first_from e b (first_line f) ≡ take (length (first_from e b (first_line f))) (b ∷ f)
    go true i = refl
    go false i = ap (λ (l : List ℕ). b ∷ l) i

-- what comes after it follows its line feed
pub after-drop : (f : List ℕ) → after_line f ≡ drop (suc (length (first_line f))) f
unfolding first_line after_line
after-drop [] = refl
after-drop (b ∷ f) = go (eqb b line_feed) (after-drop f)
  where
    go : (e : Bool) → after_line f ≡ drop (suc (length (first_line f))) f
        → cond e f (after_line f) ≡ drop (length (first_from e b (first_line f))) f
    go true i = refl
    go false i = i

-- n digits, and nothing else
abbrev digits : ℕ → List ℕ → Bool
digits n l = eqb (length l) n && all_digits l

-- a line feed is no digit
pub feed-no-digit : (b : ℕ) → eqb b line_feed ≡ true → ltb (digit_of b) no_digit ≡ false
unfolding digit_of
feed-no-digit b e = rw (eqb-true b line_feed e)

-- a byte before n digits makes n + 1 of them if it is a digit
digits-suc : (n b : ℕ) (l : List ℕ) → digits (suc n) (b ∷ l) ≡ (ltb (digit_of b) no_digit && digits n l)
unfolding all_digits
digits-suc n b l = rw (eqb-suc-suc (length l) n) (swap (eqb (length l) n) (ltb (digit_of b) no_digit))
  where
    swap : (x y : Bool) → (x && (y && all_digits l)) ≡ (y && (x && all_digits l))
    swap true y = refl
    swap false y = sym (and-false y)

-- the first line is n digits exactly if n digits stand at the front, and then a line feed or the end
pub first-digits : (n : ℕ) (f : List ℕ) → digits n (first_line f) ≡ (digits n (take n f) && closed (drop n f))
unfolding first_line all_digits
first-digits zero [] = refl
first-digits (suc n) [] = rw (eqb-zero-suc n)
first-digits zero (b ∷ f) = go (eqb b line_feed)
  where
    go : (e : Bool) → digits 0 (first_from e b (first_line f)) ≡ e
    go true = refl
    go false = rw (eqb-suc-zero (length (first_line f)))
first-digits (suc n) (b ∷ f) = go (eqb b line_feed) refl (first-digits n f)
  where
    go : (e : Bool) → eqb b line_feed ≡ e → digits n (first_line f) ≡ (digits n (take n f) && closed (drop n f))
        → digits (suc n) (first_from e b (first_line f)) ≡ (digits (suc n) (b ∷ take n f) && closed (drop n f))
    go true h i = rw (digits-suc n b (take n f), feed-no-digit b h, eqb-zero-suc n)
    go false h i =
        rw (digits-suc n b (take n f), digits-suc n b (first_line f), i)
        (sym (and_assoc (ltb (digit_of b) no_digit) (digits n (take n f)) (closed (drop n f))))
