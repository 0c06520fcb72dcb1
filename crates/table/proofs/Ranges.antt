-- The values of a function at the numbers from i on.
use Rattle.prelude.proofs.{ℕ, zero, suc, ◌+◌, ◌≤◌, ◌<◌, arith, ◌≡◌, refl, ap, ap₂, ◌∙◌, [], ◌∷◌, ◌++◌, map, length}
use Rattle.prelude.proofs.{get_or}
use Rattle.table.specs.{up_from}

-- how many there are, each by its place, the same of another function, and one more
pub length_up : (f : ℕ → ℕ) (i n : ℕ) → length (map f (up_from i n)) ≡ n
unfolding up_from
length_up f i zero = refl
length_up f i (suc n) = omega (arith, length_up f (i + 1) n)

pub up_at : (f : ℕ → ℕ) (i n k : ℕ) → k < n → get_or (map f (up_from i n)) k 0 ≡ f (i + k)
unfolding up_from
up_at f i zero k h = absurd (omega arith)
up_at f i (suc n) zero h = ap f (omega arith)
up_at f i (suc n) (suc k) h = up_at f (i + 1) n k (omega arith) ∙ ap f (omega arith)

pub up_same : (f g : ℕ → ℕ) (i n : ℕ) → ((k : ℕ) → i ≤ k → k < i + n → f k ≡ g k)
    → map f (up_from i n) ≡ map g (up_from i n)
unfolding up_from
up_same f g i zero e = refl
up_same f g i (suc n) e =
    ap₂ ◌∷◌ (e i (omega arith) (omega arith)) (up_same f g (i + 1) n (λ k l h. e k (omega arith) (omega arith)))

pub up_next : (f : ℕ → ℕ) (i n k : ℕ) → k ≡ i + n → map f (up_from i (suc n)) ≡ map f (up_from i n) ++ (f k ∷ [])
unfolding up_from
up_next f i zero k e = ap (λ j. f j ∷ []) (omega arith)
up_next f i (suc n) k e = ap (λ l. f i ∷ l) (up_next f (i + 1) n k (omega arith))
