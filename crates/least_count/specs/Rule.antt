-- The least number of leaves that decide a regular tree (SPEC 18.2): a rule of powers.
use Rattle.std.specs.Prelude.{ℕ, ◌+◌, ◌-◌, ◌/◌, ◌^◌, min}

-- the greatest number that an entry holds
abbrev pub cap : ℕ
cap = 65535

-- the width to the power of half the depth rounded up, plus the width to the power of half rounded down, less 1
abbrev pub least_of : (width depth : ℕ) → ℕ
least_of w d = w ^ ((d + 1) / 2) + w ^ (d / 2) - 1

-- capped
abbrev pub least_count : (width depth : ℕ) → ℕ
least_count w d = min (least_of w d) cap
