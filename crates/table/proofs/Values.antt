-- Scores as signed values.
use Rattle.prelude.proofs.{ℕ, suc, ◌+◌, ◌-◌, ◌^◌, ◌≤◌, ◌<◌, arith, dec_lt, ◌≡◌, refl, ap, ◌↔◌, List, le→leb, lt-ltb}
use Rattle.prelude.proofs.{le-ltb, ℤ, pos, negsuc, nat_abs, ◌+ℤ◌, ◌-ℤ◌, mag, ◌≤ℤ◌}
use Rattle.gametree.specs.{Score, zero_score, greatest}
use Rattle.table.specs.{byte_of, value_bytes, stored_score, two_bytes, value_of, score_of, signed, max_value}

-- the value of a score takes 16 bits
pub value-small : (s : ℕ) → s ≤ 64002 → mag (value_of s) < 2 ^ 15
value-small s h =
    elim (dec_lt s zero_score) [
      | yes p ↦ rw (lt-ltb s zero_score p) (omega arith)
      | no p ↦ rw (le-ltb s zero_score (omega arith)) (omega arith)
    ]

-- values are ordered as their scores are
pub value-order : (m n : ℕ) → m ≤ n → value_of m ≤ℤ value_of n
value-order m n h =
    record {
      le =
          elim (dec_lt m zero_score) [
            | yes p ↦ elim (dec_lt n zero_score) [
              | yes q ↦ rw (lt-ltb m zero_score p, lt-ltb n zero_score q)
                  (le→leb (zero_score - suc n) (zero_score - suc m) (omega arith))
              | no q ↦ rw (lt-ltb m zero_score p, le-ltb n zero_score (omega arith)) tt
            ]
            | no p ↦ rw (le-ltb m zero_score (omega arith), le-ltb n zero_score (omega arith))
                (le→leb (m - zero_score) (n - zero_score) (omega arith))
          ];
    }

-- the value of a leaf's score is from -32,000 to 32,000
pub value-range : (s : ℕ) → Score s → nat_abs (value_of s) ≤ max_value
value-range s h =
    elim (dec_lt s zero_score) [
      | yes p ↦ rw (lt-ltb s zero_score p) (omega (arith, h.0))
      | no p ↦ rw (le-ltb s zero_score (omega arith)) (omega (arith, h.1))
    ]

-- a score from 32,001 on is that much more than its value
pub value-plus : (s v : ℕ) → s ≡ v + zero_score → value_of s ≡ pos v
value-plus s v e = rw (le-ltb s zero_score (omega arith)) (ap pos (omega arith))

-- a smaller one has a negative value
pub value-below : (s v : ℕ) → s + v ≡ max_value → value_of s ≡ negsuc v
value-below s v e = rw (lt-ltb s zero_score (omega arith)) (ap negsuc (omega arith))

-- the score of a negative value
pub score-negative : (v : ℕ) → v < zero_score → score_of (negsuc v) ≡ zero_score - suc v
score-negative v h = rw (le-ltb zero_score (suc v) (omega arith))

-- a value and 32,001 are its score, which is none past the greatest
pub score-sum : (v : ℤ) → nat_abs v ≤ zero_score → v +ℤ pos zero_score ≡ pos (score_of v)
score-sum (pos n) h = refl
score-sum (negsuc n) h = rw (le-ltb zero_score (suc n) (omega arith))

pub score-small : (v : ℤ) → nat_abs v ≤ zero_score → score_of v ≤ greatest
score-small (pos n) h = omega arith
score-small (negsuc n) h = rw (score-negative n (omega arith)) (omega arith)

-- the value of a score is from -32,001 to 32,001
pub value-within : (s : ℕ) → s ≤ greatest → nat_abs (value_of s) ≤ zero_score
value-within s h =
    elim (dec_lt s zero_score) [
      | yes p ↦ rw (lt-ltb s zero_score p) (omega arith)
      | no p ↦ rw (le-ltb s zero_score (omega arith)) (omega arith)
    ]

-- a score is that of its value
pub score-back : (s : ℕ) → score_of (value_of s) ≡ s
score-back s =
    elim (dec_lt s zero_score) [
      | yes p ↦ rw (value-below s (max_value - s) (omega arith), score-negative (max_value - s) (omega arith))
          (omega arith)
      | no p ↦ rw (value-plus s (s - zero_score) (omega arith)) (omega arith)
    ]

-- a smaller one is that of the number less 65,536
value-minus : (s v : ℕ) → s + 33535 ≡ v → v < two_bytes → value_of s ≡ pos v -ℤ pos two_bytes
value-minus s v e h = rw (lt-ltb s zero_score (omega arith), lt-ltb v two_bytes h) (ap negsuc (omega arith))

-- the value of a stored score in range is the number that bytes 4 and 5 hold
pub value-stored : (t : List ℕ) (i : ℕ) → byte_of t i 4 < 256 → byte_of t i 5 < 256 → Score (stored_score t i)
    → value_of (stored_score t i) ≡ signed (byte_of t i 4) (byte_of t i 5)
value-stored t i a b s =
    elim (dec_lt (byte_of t i 4) 128) [
      | yes p ↦ rw (lt-ltb (byte_of t i 4) 128 p) (value-plus (stored_score t i) (value_bytes t i) (omega arith))
      | no p ↦ rw (le-ltb (byte_of t i 4) 128 (omega arith))
          (value-minus (stored_score t i) (value_bytes t i) (omega arith) (omega arith))
    ]

-- bytes 4 and 5 hold a score exactly if the number that they hold in two's complement is from -32,000 to 32,000
pub score-stored : (t : List ℕ) (i : ℕ) → byte_of t i 4 < 256 → byte_of t i 5 < 256
    → Score (stored_score t i) ↔ (nat_abs (signed (byte_of t i 4) (byte_of t i 5)) ≤ max_value)
score-stored t i a b =
    elim (dec_lt (byte_of t i 4) 128) [
      | yes p ↦ rw (lt-ltb (byte_of t i 4) 128 p) (λ s. omega arith, λ s. (omega arith, omega arith))
      | no p ↦ rw (le-ltb (byte_of t i 4) 128 (omega arith), lt-ltb (value_bytes t i) two_bytes (omega arith))
          (λ s. omega arith, λ s. (omega arith, omega arith))
    ]
