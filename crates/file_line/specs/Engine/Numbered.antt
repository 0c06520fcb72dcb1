-- Digits that are read one after the other, each to its number, while those that are none are counted.
use Rattle.std.specs.Prelude.{ℕ, ◌≤◌, ◌<◌, min, ◌≡◌, List, get_or}
use Rattle.file_hex.specs.Digit.{no_digit, digit_of}

-- how many are read at once
abbrev pub digits_at_once : ℕ
digits_at_once = 16

-- after the first k bytes, x of which are no digits and have some number from 16 on
pub record Numbered (digits numbers : List ℕ) (x k : ℕ) : Type 0 where
  pub at_most : x ≤ k
  pub each : (i : ℕ) → i < k → min (get_or numbers i 0) no_digit ≡ digit_of (get_or digits i 0)
  pub none : x ≡ 0 → (i : ℕ) → i < k → digit_of (get_or digits i 0) < no_digit
  pub non_empty : 0 < x → (i : ℕ) × (i < k) × (digit_of (get_or digits i 0) ≡ no_digit)
