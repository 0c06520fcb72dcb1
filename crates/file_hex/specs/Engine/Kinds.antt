-- Whether a byte is in a range, as 0 or 1, for the arithmetic on a digit.
use Rattle.std.specs.Prelude.{ℕ, cond, leb}
use Rattle.file_hex.specs.Digit.{within}

-- 1 from the byte a on, else 0
abbrev pub one_from : (a b : ℕ) → ℕ
one_from a b = cond (leb a b) 1 0

-- 1 if the byte b is one of those from a to z, else 0
abbrev pub one_within : (a z b : ℕ) → ℕ
one_within a z b = cond (within a z b) 1 0
