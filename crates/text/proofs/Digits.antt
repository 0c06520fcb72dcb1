-- Numbers in base ten: their last digit, and how many they take.
use Rattle.prelude.proofs.{ℕ, zero, suc, ◌+◌, ◌^◌, ◌/◌, ◌%◌, ◌≤◌, ◌<◌, arith, ◌≡◌, refl, ap, subst, [], ◌∷◌, ◌++◌}
use Rattle.prelude.proofs.{length, length-append, lt-ltb, le-ltb, pow-suc, div-lt_iff_lt-mul, cond, ltb, ℤ, pos, negsuc}
use Rattle.lists.proofs.Choice.{cond_cases}
use Rattle.text.specs.{decimal_within, decimal, signed_decimal}

-- more digits than a number has change nothing
digits-enough : (f g n : ℕ) → n < 10 ^ suc f → n < 10 ^ suc g → decimal_within (suc f) n ≡ decimal_within (suc g) n
unfolding decimal_within
digits-enough zero zero n a b = refl
digits-enough zero (suc g) n a b = rw (lt-ltb n 10 (omega arith))
digits-enough (suc f) zero n a b = rw (lt-ltb n 10 (omega arith))
digits-enough (suc f) (suc g) n a b =
    ap (λ d. cond (ltb n 10) ((48 + n) ∷ []) (d ++ ((48 + n % 10) ∷ [])))
    (digits-enough f g (n / 10) (tenth n (suc f) a) (tenth n (suc g) b))
  where
    tenth : (n k : ℕ) → n < 10 ^ suc k → n / 10 < 10 ^ k
    tenth n k h =
        (div-lt_iff_lt-mul {k = 10} {x = n} {y = 10 ^ k} (omega arith)).1 (subst (λ x. n < x) (pow-suc 10 k) h)

-- a number below ten is one digit
pub decimal-one : (n : ℕ) → n < 10 → decimal n ≡ (48 + n) ∷ []
unfolding decimal_within
decimal-one n h = rw (lt-ltb n 10 h)

-- a larger one has the last digit behind the others
pub decimal-more : (n : ℕ) → 10 ≤ n → n < 2 ^ 64 → decimal n ≡ decimal (n / 10) ++ ((48 + n % 10) ∷ [])
unfolding decimal_within
decimal-more n h k =
    rw (le-ltb n 10 h)
    (ap (λ d. d ++ ((48 + n % 10) ∷ []))
    (digits-enough 18 19 (n / 10) (omega arith) (omega arith)))

-- what `grind` needs to follow the digits of a number
pub ruleset digits = (decimal-one, decimal-more)

-- no number takes more than 20 digits
pub decimal-few : (f n : ℕ) → length (decimal_within f n) ≤ f
unfolding decimal_within
decimal-few zero n = omega arith
decimal-few (suc f) n =
    cond_cases (λ d. length d ≤ suc f) (ltb n 10) ((48 + n) ∷ []) (decimal_within f (n / 10) ++ ((48 + n % 10) ∷ []))
    (λ _. omega arith) (λ _. simp length-append (omega (arith, decimal-few f (n / 10))))

pub decimal-short : (n : ℕ) → length (decimal n) ≤ 20
decimal-short n = decimal-few 20 n

-- and a sign
pub signed_decimal-few : (v : ℤ) → length (signed_decimal v) ≤ 21
signed_decimal-few (pos n) = omega (arith, decimal-short n)
signed_decimal-few (negsuc n) = omega (arith, decimal-short (suc n))
