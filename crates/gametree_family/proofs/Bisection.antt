-- Bisection makes at most 16 tests: each halves the distance of the bounds, which is less than 2 ^ 16 at the start.
use Rattle.prelude.proofs.{ℕ, zero, suc, ◌+◌, ◌*◌, ◌^◌, ◌/◌, ◌%◌, ◌≤◌, ◌<◌, mod-lt, div-add-mod', arith, ◌≡◌, Bool}
use Rattle.prelude.proofs.{true, false, List, [], ◌∷◌, ◌++◌, eqb, length, eqb-false}
use Rattle.lists.specs.{among}
use Rattle.gametree.specs.{Tree, leaves, Scored, low, high, test, view, chosen_test, TestSearch, drive, search_by}
use Rattle.gametree.specs.{bisection}
use Rattle.lists.proofs.Choice.{cond_cases}
use Rattle.lists.proofs.Lists.{among-left}
use Rattle.gametree_theory.proofs.Minimax.Bounds.{low≤, ≤high, low-none}
use Rattle.gametree_theory.proofs.Tests.Progress.{Confirms, test-confirmed}
use Rattle.gametree_theory.proofs.Minimax.Closer.{low-rises, high-falls, high≤}

-- the half q of the bounds' sum is between them, and a test with it halves their distance D + D, on either answer
halves : (q m l h l' h' D : ℕ) (b : Bool) → q * 2 + m ≡ suc l + h → m < 2 → l < h → h < l + (D + D) → l ≤ l' → h' ≤ h
    → Confirms q b l' h'
    → h' < l' + D
halves q m l h l' h' D true e r o i j k c = omega arith
halves q m l h l' h' D false e r o i j k c = omega arith

-- bounds less than 2 ^ k apart take at most k tests
bisection-few : (ν : ℕ → ℕ) (f k : ℕ) (t : Tree) (bs : List Bool) (w : List ℕ) → Scored ν t
    → high ν (among w) t < low ν (among w) t + 2 ^ k
    → length (drive ν bisection f t bs w).tests ≤ k
bisection-few ν zero k t bs w s i = omega arith
bisection-few ν (suc f) zero t bs w s i =
    cond_cases (λ (q : TestSearch). length q.tests ≤ 0) (eqb (low ν (among w) t) (high ν (among w) t)) _ _
    (λ _. omega arith)
    (λ e.
    let n = eqb-false (low ν (among w) t) (high ν (among w) t) e in
    let x = low≤ ν (among w) t in
    let y = ≤high ν (among w) t s in
    absurd (omega arith))
bisection-few ν (suc f) (suc k) t bs w s i =
    cond_cases (λ (q : TestSearch). length q.tests ≤ suc k) (eqb (low ν (among w) t) (high ν (among w) t)) _ _
    (λ _. omega arith)
    (λ e.
    let n = eqb-false (low ν (among w) t) (high ν (among w) t) e in
    let x = low≤ ν (among w) t in
    let y = ≤high ν (among w) t s in
    let l = low ν (among w) t in
    let h = high ν (among w) t in
    let γ = chosen_test bisection (view ν t bs w) in
    let d = div-add-mod' (suc l + h) 2 in
    let m = mod-lt (suc l + h) {m = 2} (omega arith) in
    let g : γ ≡ (suc l + h) / 2 = omega arith in
    let r = test ν γ w t in
    let v = w ++ r.evaluated in
    let a = among-left w r.evaluated in
    let o =
    halves γ ((suc l + h) % 2) l h (low ν (among v) t) (high ν (among v) t) (2 ^ k) r.not_below (omega arith)
    (omega arith) (omega arith) (omega arith) (low-rises ν (among w) (among v) a t)
    (high-falls ν (among w) (among v) a t s)
    (test-confirmed ν γ w t s) in
    omega (arith, bisection-few ν f k t (r.not_below ∷ bs) v s o))

-- bisection makes at most 16 tests
pub bisection-tests : (ν : ℕ → ℕ) (t : Tree) → Scored ν t → length (search_by bisection ν t).tests ≤ 16
bisection-tests ν t s =
    let i = low-none ν t in
    let j = high≤ ν (among []) t s in
    bisection-few ν (suc (length (leaves t))) 16 t [] [] s (omega arith)
