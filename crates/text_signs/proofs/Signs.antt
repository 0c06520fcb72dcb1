-- A signed value, its sign and its magnitude.
use Rattle.prelude.proofs.{arith, ◌≡◌, refl, true, false, T, le-ltb, ℤ, pos, negsuc, ◌-ℤ◌, nat_abs, lt_z, non_neg, w16}
use Rattle.prelude.proofs.{w32, w64, Fits, SFits}
use Rattle.lists.proofs.Choice.{true-not-false}

-- a value of 16 bits takes 32 too, and one of 32 bits 64
pub wide32 : (v : ℤ) → SFits w16 v → SFits w32 v
wide32 v f = record { sfits = omega (arith, f.sfits) }

pub wide64 : (v : ℤ) → SFits w32 v → SFits w64 v
wide64 v f = record { sfits = omega (arith, f.sfits) }

-- what its negation is, where it is negative
pub record Negative (v : ℤ) : Type 0 where
  pub fits : SFits w64 (pos 0 -ℤ v)
  pub positive : T (non_neg (pos 0 -ℤ v))
  pub small : Fits w64 (nat_abs (pos 0 -ℤ v))
  pub same : nat_abs (pos 0 -ℤ v) ≡ nat_abs v

pub negative : (v : ℤ) → SFits w32 v → lt_z v (pos 0) ≡ true → Negative v
negative (pos n) f e = absurd (true-not-false e (le-ltb n 0 (omega arith)))
negative (negsuc n) f e =
    record {
      fits = record { sfits = omega (arith, f.sfits) };
      positive = tt;
      small = record { fits = omega (arith, f.sfits) };
      same = omega arith;
    }

-- and what it is where it is not
pub record Positive (v : ℤ) : Type 0 where
  pub positive : T (non_neg v)
  pub small : Fits w64 (nat_abs v)

pub positive : (v : ℤ) → SFits w32 v → lt_z v (pos 0) ≡ false → Positive v
positive (pos n) f e = record { positive = tt; small = record { fits = omega (arith, f.sfits) } }
positive (negsuc n) f e = absurd (true-not-false refl e)
