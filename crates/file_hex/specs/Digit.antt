-- Hexadecimal digits: the number of a digit in either letter case, and the digit of a number in capitals.
use Rattle.std.specs.Prelude.{ℕ, ◌+◌, ◌-◌, Bool, cond, ◌&&◌, ◌||◌, ltb, leb}

-- is the byte b one of those from a to z
abbrev pub within : ℕ → ℕ → ℕ → Bool
within a z b = leb a b && leb b z

-- is the byte a lowercase letter, a to f
abbrev pub is_lowercase : ℕ → Bool
is_lowercase b = within 97 102 b

-- is it a digit from 0 to 9 or from A to F
abbrev pub is_capital_digit : ℕ → Bool
is_capital_digit b = within 48 57 b || within 65 70 b

-- what stands for no digit
abbrev pub no_digit : ℕ
no_digit = 16

-- the number of a digit: 0 to 9 are the bytes 48 to 57, A to F the bytes 65 to 70, a to f the bytes 97 to 102
unfoldable pub digit_of : ℕ → ℕ
digit_of b =
    cond (within 48 57 b) (b - 48)
    (cond (within 65 70 b) (b - 65 + 10)
    (cond (within 97 102 b) (b - 97 + 10) no_digit))

-- the digit of a number from 0 to 15: the bytes 48 to 57 are 0 to 9, the bytes 65 to 70 are A to F
unfoldable pub capital_of : ℕ → ℕ
capital_of n = cond (ltb n 10) (n + 48) (n + 55)
