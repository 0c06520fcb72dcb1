-- The first of consecutive entries that is equal to a number, and the chosen child by it.
use Rattle.prelude.proofs.{ℕ, zero, suc, ◌+◌, ◌-◌, ◌≤◌, ◌<◌, arith, ◌≡◌, refl, sym, ap, ap₂, cond, List, eqb, eq-eqb}
use Rattle.prelude.proofs.{ne_eqb}
use Rattle.gametree.specs.declared.Side.{Side}
use Rattle.certificate_flags.specs.{first_equal, bounds_by_side, chosen_child}

-- the first entry that is v: here, later, or none
pub first-here : (f : ℕ → ℕ) (v i to : ℕ) → i < to → f i ≡ v → first_equal f v i (to - i) ≡ i
unfolding first_equal
first-here f v i to h q = let e : to - i ≡ suc (to - (i + 1)) = omega arith in rw (e, eq-eqb (f i) v q)

pub first-later : (f : ℕ → ℕ) (v i to : ℕ) → i < to → (f i ≡ v → ⊥)
    → first_equal f v (i + 1) (to - (i + 1)) ≡ first_equal f v i (to - i)
unfolding first_equal
first-later f v i to h q = let e : to - i ≡ suc (to - (i + 1)) = omega arith in rw (e, ne_eqb (f i) v q)

pub first-none : (f : ℕ → ℕ) (v i to : ℕ) → to ≤ i → first_equal f v i (to - i) ≡ 0
unfolding first_equal
first-none f v i to h = let e : to - i ≡ 0 = omega arith in rw e

-- the chosen child by the bounds of a side that is known
pub chosen_by : {s q : Side} (lows highs : List ℕ) (node i n : ℕ) → q ≡ s
    → chosen_child (bounds_by_side s lows highs) node i n ≡ chosen_child (bounds_by_side q lows highs) node i n
chosen_by lows highs node i n e = ap (λ s. chosen_child (bounds_by_side s lows highs) node i n) (sym e)

-- the same entries, the same first one
pub first-same : (f g : ℕ → ℕ) (v i n : ℕ) → ((k : ℕ) → i ≤ k → k < i + n → f k ≡ g k)
    → first_equal f v i n ≡ first_equal g v i n
unfolding first_equal
first-same f g v i zero e = refl
first-same f g v i (suc n) e =
    ap₂ (λ x y. cond (eqb x v) i y) (e i (omega arith) (omega arith))
    (first-same f g v (i + 1) n (λ k l m. e k (omega arith) (omega arith)))
