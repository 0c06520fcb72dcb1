-- The digits that the writer lays are capitals, and the reader takes them back: a line that is written stands for its
-- frame.
use Rattle.prelude.proofs.{ℕ, zero, suc, ◌+◌, ◌*◌, ◌/◌, ◌%◌, ◌<◌, ◌≡◌, refl, ◌∙◌, Bool, true, false, List, [], ◌∷◌}
use Rattle.prelude.proofs.{◌++◌, ltb, eqb, length, get_or, arith, dec_lt, lt-ltb, le-ltb, eq-eqb}
use Rattle.lists.proofs.Choice.{true-not-false, and_both, or_right}
use Rattle.table.specs.{frame_size}
use Rattle.file_hex.specs.{within, no_digit, digit_of, capital_of, is_capital_digit}
use Rattle.file_hex.proofs.Digits.{inside, above}
use Rattle.file_line.specs.{line_digits, line_feed, all_digits, is_line, has_lowercase, bytes_of, put_before, lines_of}
use Rattle.file_line.proofs.CapitalDigits.{capitals-all}
use Rattle.file_line.proofs.Splits.{feed-no-digit}
use Rattle.file_write.specs.{digits_of}
use Rattle.file_write.proofs.Laying.{digits-length}
use Rattle.file.specs.{Bytes}

module _ (n : ℕ) (small : n < no_digit) where
  -- the digit of a number is a capital
  capital-is : is_capital_digit (capital_of n) ≡ true
  unfolding capital_of
  capital-is =
      elim (dec_lt n 10) [
        | yes h ↦ rw (lt-ltb n 10 h, inside 48 57 (n + 48) (omega arith) (omega arith))
        | no h ↦ rw (le-ltb n 10 (omega arith))
            (or_right (within 48 57 (n + 55)) _ (inside 65 70 (n + 55) (omega arith) (omega arith)))
      ]

  -- and it has that number
  digit-capital : digit_of (capital_of n) ≡ n
  unfolding capital_of digit_of
  digit-capital =
      elim (dec_lt n 10) [
        | yes h ↦ rw (lt-ltb n 10 h, inside 48 57 (n + 48) (omega arith) (omega arith)) (omega arith)
        | no h ↦ (let letter = inside 65 70 (n + 55) (omega arith) (omega arith) in
            rw (le-ltb n 10 (omega arith), above 48 57 (n + 55) (omega arith), letter) (omega arith))
      ]

-- the bytes behind the first
later : (b : ℕ) (bs : List ℕ) → Bytes (b ∷ bs) → Bytes bs
later b bs h k l = h (suc k) (omega arith)

-- every digit of bytes is a capital
pub digits-capital : (bs : List ℕ) → Bytes bs → (k : ℕ) → k < 2 * length bs
    → is_capital_digit (get_or (digits_of bs) k 0) ≡ true
unfolding digits_of
digits-capital [] h k l = absurd (omega arith)
digits-capital (b ∷ bs) h zero l = capital-is (b / 16) (omega (arith, h 0 (omega arith)))
digits-capital (b ∷ bs) h (suc zero) l = capital-is (b % 16) (omega arith)
digits-capital (b ∷ bs) h (suc (suc k)) l = digits-capital bs (later b bs h) k (omega arith)

module _ (bs : List ℕ) (h : Bytes bs) where
  digits_are : (all_digits (digits_of bs) ≡ true) × (has_lowercase (digits_of bs) ≡ false)
  digits_are = capitals-all (digits_of bs) (λ k l. digits-capital bs h k (omega (arith, digits-length bs)))

  -- they are digits to the reader
  pub digits-read : all_digits (digits_of bs) ≡ true
  digits-read = digits_are.0

  -- and none is a lowercase letter
  pub digits-large : has_lowercase (digits_of bs) ≡ false
  digits-large = digits_are.1

-- and stand for the bytes
pub bytes_back : (bs : List ℕ) → Bytes bs → bytes_of (digits_of bs) ≡ bs
unfolding digits_of bytes_of
bytes_back [] h = refl
bytes_back (b ∷ bs) h =
    let high : b / 16 < no_digit = omega (arith, h 0 (omega arith)) in
    let whole : 16 * (b / 16) + b % 16 ≡ b = omega arith in
    rw (digit-capital (b / 16) high, digit-capital (b % 16) (omega arith), whole, bytes_back bs (later b bs h))

-- the digits of a frame are a line
pub frame-line : (frame : List ℕ) → length frame ≡ frame_size → Bytes frame → is_line (digits_of frame) ≡ true
unfolding is_line
frame-line frame six h =
    let twelve : length (digits_of frame) ≡ line_digits = digits-length frame ∙ omega arith in
    rw (twelve, eq-eqb line_digits line_digits refl) (digits-read frame h)

-- digits with a line feed behind them are the first line
pub digits-first : (ds f : List ℕ) → all_digits ds ≡ true → lines_of (ds ++ (line_feed ∷ f)) ≡ ds ∷ lines_of f
unfolding lines_of all_digits
digits-first [] f h = refl
digits-first (d ∷ ds) f h =
    let both = and_both (ltb (digit_of d) no_digit) (all_digits ds) h in
    go (eqb d line_feed) refl both.0 (digits-first ds f both.1)
  where
    go : (e : Bool) → eqb d line_feed ≡ e → ltb (digit_of d) no_digit ≡ true
        → lines_of (ds ++ (line_feed ∷ f)) ≡ ds ∷ lines_of f
        → put_before e d (lines_of (ds ++ (line_feed ∷ f))) ≡ (d ∷ ds) ∷ lines_of f
    go true p digit i = absurd (true-not-false digit (feed-no-digit d p))
    go false p digit i = rw i
