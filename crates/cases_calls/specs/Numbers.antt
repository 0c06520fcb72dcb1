-- What the numbers of a call stand for.
use Rattle.std.specs.Prelude.{ℕ, ◌%◌, ℤ, pos, ◌-ℤ◌}

-- a value is the difference of two numbers, of their last six digits
abbrev pub difference : ℕ → ℕ → ℤ
difference plus minus = pos (plus % 1000000) -ℤ pos (minus % 1000000)
