-- The text of a signed value, by its sign.
use Rattle.prelude.proofs.{arith, ◌≡◌, refl, true, false, ◌∷◌, le-ltb, ℤ, pos, negsuc, nat_abs, lt_z}
use Rattle.lists.proofs.Choice.{true-not-false}
use Rattle.text.specs.{decimal, signed_decimal}

-- a minus sign stands before the magnitude of a negative one
pub negative-text : (v : ℤ) → lt_z v (pos 0) ≡ true → signed_decimal v ≡ 45 ∷ decimal (nat_abs v)
negative-text (pos n) e = absurd (true-not-false e (le-ltb n 0 (omega arith)))
negative-text (negsuc n) e = refl

-- and nothing before that of another
pub positive-text : (v : ℤ) → lt_z v (pos 0) ≡ false → signed_decimal v ≡ decimal (nat_abs v)
positive-text (pos n) e = refl
positive-text (negsuc n) e = absurd (true-not-false refl e)
