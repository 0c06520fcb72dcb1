-- More evaluated leaves bring the bounds closer; they never cross, and no high exceeds `greatest`.
use Rattle.prelude.proofs.{ℕ, ◌≤◌, ◌<◌, le_refl, arith, ◌≡◌, refl, Bool, true, false, cond}
use Rattle.gametree.specs.{Tree, least, greatest, Scored, known, low, high}
use Rattle.gametree_theory.proofs.Minimax.Bounds.{every_map, every-leaf, minimax-mono, minimax-within, low≤}
use Rattle.gametree_theory.proofs.Minimax.Bounds.{≤high}
use Rattle.gametree_theory.proofs.Minimax.Bounds.{known-capped}

-- one more leaf evaluated raises its low and lowers its high
known-rises : (b c : Bool) (v : ℕ) → (b ≡ true → c ≡ true) → cond b v least ≤ cond c v least
known-rises true c v f = rw (f refl) (le_refl v)
known-rises false c v f = omega arith

known-falls : (b c : Bool) (v : ℕ) → (b ≡ true → c ≡ true) → v < greatest → cond c v greatest ≤ cond b v greatest
known-falls true c v f h = rw (f refl) (le_refl v)
known-falls false true v f h = omega arith
known-falls false false v f h = le_refl greatest

-- more evaluated leaves give no smaller low
pub low-rises : (ν : ℕ → ℕ) (E F : ℕ → Bool) → ((n : ℕ) → E n ≡ true → F n ≡ true) → (t : Tree)
    → low ν E t ≤ low ν F t
low-rises ν E F f t =
    minimax-mono (known ν E least) (known ν F least) t (every-leaf _ (λ n. known-rises (E n) (F n) (ν n) (f n)) t)

-- and no greater high
pub high-falls : (ν : ℕ → ℕ) (E F : ℕ → Bool) → ((n : ℕ) → E n ≡ true → F n ≡ true) → (t : Tree) → Scored ν t
    → high ν F t ≤ high ν E t
high-falls ν E F f t h =
    minimax-mono (known ν F greatest) (known ν E greatest) t
    (every_map _ _ (λ n i. known-falls (E n) (F n) (ν n) (f n) i.1) t h)

-- the low is at most the high
pub bounds≤ : (ν : ℕ → ℕ) (E : ℕ → Bool) (t : Tree) → Scored ν t → low ν E t ≤ high ν E t
bounds≤ ν E t h = omega (arith, low≤ ν E t, ≤high ν E t h)

-- no high exceeds `greatest`
pub high≤ : (ν : ℕ → ℕ) (E : ℕ → Bool) (t : Tree) → Scored ν t → high ν E t ≤ greatest
high≤ ν E t h =
    (minimax-within least greatest _ t
    (every_map _ _ (λ n i. (omega arith, i)) t (known-capped ν E greatest (le_refl greatest) t h))).1
