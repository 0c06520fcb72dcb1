-- What `digit` computes is the number of a digit, for each of the 256 bytes: one test, computed over all of them.
use Rattle.prelude.proofs.{ℕ, zero, suc, ◌+◌, ◌-◌, ◌*◌, ◌/◌, ◌%◌, ◌≤◌, ◌<◌, min, ◌≡◌, refl, subst, Bool, true, ◌&&◌}
use Rattle.prelude.proofs.{leb, eqb, arith, dec_lt, le-leb, lt-leb, leb-true, eqb-true}
use Rattle.lists.proofs.Choice.{and_both}
use Rattle.file_hex.specs.{no_digit, digit_of, one_from, one_within}

-- the test f passes for each number below n
unfoldable every : (ℕ → Bool) → ℕ → Bool
every f zero = true
every f (suc n) = f n && every f n

every-at : (f : ℕ → Bool) (n : ℕ) → every f n ≡ true → (b : ℕ) → b < n → f b ≡ true
unfolding every
every-at f (suc n) e b h =
    let p = and_both (f n) (every f n) e in
    elim (dec_lt b n) [
      | yes q ↦ every-at f n p.1 b q
      | no q ↦ (let s : n ≡ b = omega arith in subst (λ k. f k ≡ true) s p.0)
    ]
every-at f zero e b h = absurd (omega arith)

-- times 0 or 1
pub times-bit : (x y : ℕ) → y ≤ 1 → x * y ≤ x
times-bit x zero h = omega arith
times-bit x (suc zero) h = omega arith
times-bit x (suc (suc y)) h = absurd (omega arith)

-- half of a byte, rounded as half of a is, tells whether the byte is less than a
pub halves : (a b : ℕ) → 0 < a → a < 256 → b < 256
    → (b / 2 + b % 2 * (a % 2) + (128 - (a / 2 + a % 2))) / 128 ≡ one_from a b
halves a b h l m = go (a % 2) refl (omega arith)
  where
    from : (q : ℕ) → (a ≤ b → q ≡ 1) → (b < a → q ≡ 0) → q ≡ one_from a b
    from q f g =
        elim (dec_lt b a) [
          | yes p ↦ rw (lt-leb a b p) (g p)
          | no p ↦ (let k : a ≤ b = omega arith in rw (le-leb a b k) (f k))
        ]

    go : (odd : ℕ) → a % 2 ≡ odd → odd < 2 → (b / 2 + b % 2 * odd + (128 - (a / 2 + odd))) / 128 ≡ one_from a b
    go zero e p = from _ (λ k. omega arith) (λ k. omega arith)
    go (suc zero) e p = from _ (λ k. omega arith) (λ k. omega arith)
    go (suc (suc n)) e p = absurd (omega arith)

-- a range is what is from its first byte on and not behind its last
pub ranges : (a z b : ℕ) → a ≤ z
    → (one_from (z + 1) b ≤ one_from a b) × (one_from a b - one_from (z + 1) b ≡ one_within a z b)
ranges a z b h =
    elim (dec_lt b a) [
      | yes p ↦ rw (lt-leb a b p, lt-leb (z + 1) b (omega arith)) (omega arith, refl)
      | no p ↦ elim (dec_lt z b) [
        | yes q ↦ (let k : a ≤ b = omega arith in
            rw (le-leb a b k, le-leb (z + 1) b (omega arith), lt-leb b z q) (omega arith, refl))
        | no q ↦ (let k : a ≤ b = omega arith in
            rw (le-leb a b k, lt-leb (z + 1) b (omega arith), le-leb b z (omega arith)) (omega arith, refl))
      ]
    ]

-- of which kind it is; a letter in either case
abbrev figure_at : ℕ → ℕ
figure_at b = one_within 48 57 b

abbrev letter_at : ℕ → ℕ
letter_at b = one_within 65 70 (b - b / 32 % 2 * 32)

-- how much less than 16 is added to its low four bits
abbrev less : (figure letter : ℕ) → ℕ
less figure letter = no_digit * figure + 7 * letter

-- that is 16 at most, and the number is the digit's, or from 16 on
unfoldable right : ℕ → Bool
right b =
    let l = less (figure_at b) (letter_at b) in
    leb l no_digit && eqb (min (b % no_digit + (no_digit - l)) no_digit) (digit_of b)

-- for each of the 256 bytes
all_right : every right 256 ≡ true
unfolding every right digit_of
all_right = refl

-- what the arithmetic of `digit_or_more` needs, and gives
pub record Right (figure letter b : ℕ) : Type 0 where
  pub at_most : less figure letter ≤ no_digit
  pub number : min (b % no_digit + (no_digit - less figure letter)) no_digit ≡ digit_of b

pub digit-right : (b figure letter : ℕ) → b < 256 → figure ≡ one_within 48 57 b
    → letter ≡ one_within 65 70 (b - b / 32 % 2 * 32) → Right figure letter b
unfolding right
digit-right b figure letter h e f =
    let p = and_both _ _ (every-at right 256 all_right b h) in
    rw (e, f) (record { at_most = leb-true _ _ p.0; number = eqb-true _ _ p.1 })

-- a number below 32, cut off at 16
pub cut_off : (n : ℕ) → n < 2 * no_digit
    → (n / no_digit * (n % no_digit) ≤ n) × (n - n / no_digit * (n % no_digit) ≡ min n no_digit)
cut_off n h = go (n / no_digit) refl
  where
    go : (q : ℕ) → n / no_digit ≡ q
        → (q * (n % no_digit) ≤ n) × (n - q * (n % no_digit) ≡ min n no_digit)
    go zero e = (omega arith, omega arith)
    go (suc zero) e = (omega arith, omega arith)
    go (suc (suc q)) e = absurd (omega arith)
