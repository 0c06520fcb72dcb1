-- A byte is a digit from 0 to 9 or A to F exactly if it is a digit and no lowercase letter; and so for a line's bytes.
use Rattle.prelude.proofs.{ℕ, zero, suc, ◌+◌, ◌-◌, ◌<◌, ◌≡◌, refl, ⊎_elim, Bool, true, false, cond, ◌||◌, List, [], ◌∷◌}
use Rattle.prelude.proofs.{length, get_or, arith, lt-ltb}
use Rattle.lists.proofs.Choice.{clash, or_cases, or-false-both}
use Rattle.file_hex.specs.{within, is_lowercase, no_digit, digit_of, is_capital_digit}
use Rattle.file_hex.proofs.Digits.{below, above, bounds}
use Rattle.file_line.specs.{all_digits, has_lowercase}

-- a digit that is no lowercase letter
digit-capital : (b : ℕ) → digit_of b < no_digit → is_lowercase b ≡ false → is_capital_digit b ≡ true
unfolding digit_of
digit-capital b = go (within 48 57 b) (within 65 70 b) (is_lowercase b)
  where
    go : (figure upper lower : Bool)
        → cond figure (b - 48) (cond upper (b - 65 + 10) (cond lower (b - 97 + 10) no_digit)) < no_digit
        → lower ≡ false → (figure || upper) ≡ true
    go true upper lower h e = refl
    go false true lower h e = refl
    go false false true h e = clash (cc)
    go false false false h e = absurd (omega arith)

-- the other way round
capital-digit : (b : ℕ) → is_capital_digit b ≡ true → (digit_of b < no_digit) × (is_lowercase b ≡ false)
unfolding digit_of
capital-digit b e =
    ⊎_elim
    (λ h.
    let p = bounds 48 57 b h in
    (rw h (omega arith), below 97 102 b (omega arith)))
    (λ h.
    let p = bounds 65 70 b h in
    (rw (above 48 57 b (omega arith), h) (omega arith), below 97 102 b (omega arith)))
    (or_cases (within 48 57 b) (within 65 70 b) e)

-- in a line without lowercase letters no byte is one
small_at : (l : List ℕ) (k : ℕ) → has_lowercase l ≡ false → k < length l → is_lowercase (get_or l k 0) ≡ false
unfolding has_lowercase
small_at [] k e h = absurd (omega arith)
small_at (b ∷ l) zero e h = (or-false-both (is_lowercase b) (has_lowercase l) e).0
small_at (b ∷ l) (suc k) e h = small_at l k (or-false-both (is_lowercase b) (has_lowercase l) e).1 (omega arith)

-- a line of digits without lowercase letters
pub capital-at : (l : List ℕ) (k : ℕ) → digit_of (get_or l k 0) < no_digit → has_lowercase l ≡ false → k < length l
    → is_capital_digit (get_or l k 0) ≡ true
capital-at l k d e h = digit-capital (get_or l k 0) d (small_at l k e h)

-- a line of such digits
pub capitals-all : (l : List ℕ) → ((k : ℕ) → k < length l → is_capital_digit (get_or l k 0) ≡ true)
    → (all_digits l ≡ true) × (has_lowercase l ≡ false)
unfolding all_digits has_lowercase
capitals-all [] p = (refl, refl)
capitals-all (b ∷ l) p =
    let first = capital-digit b (p 0 (omega arith)) in
    let rest = capitals-all l (λ k h. p (suc k) (omega arith)) in
    (rw (lt-ltb (digit_of b) no_digit first.0) rest.0, rw first.1 rest.1)
