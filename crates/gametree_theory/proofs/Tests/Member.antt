-- MTD(f) is the search by the strategy `mtd_from f`, with the last phase.
use Rattle.prelude.proofs.{ℕ, zero, suc, ◌+◌, arith, ◌≡◌, refl, ◌∙◌, ap, Bool, true, false, cond, List, [], ◌∷◌, ◌++◌}
use Rattle.prelude.proofs.{eqb, length}
use Rattle.lists.specs.{among}
use Rattle.gametree.specs.{Tree, leaves, low, high, test, last_phase, Decision, concluded, tests_from, mtdf, view}
use Rattle.gametree.specs.{chosen_test, TestSearch, met, tested, drive, search_by, after_guess, mtd_from, decide_by}

-- the run q with the last phase, and k tests in all
abbrev ended : (ℕ → ℕ) → Tree → TestSearch → ℕ → Decision
ended ν t q k = record { evaluated = q.evaluated ++ last_phase ν q.value q.evaluated t; tests = k }

-- the test that follows an answer
next-test : (f : ℕ) (b : Bool) (bs : List Bool) (l h : ℕ) → cond b (suc l) h ≡ after_guess f (b ∷ bs) l h
next-test f true bs l h = refl
next-test f false bs l h = refl

-- the tests from any place of the run, after k of them
from-drive : (ν : ℕ → ℕ) (f n k : ℕ) (bs : List Bool) (w : List ℕ) (t : Tree)
    → let q = drive ν (mtd_from f) n t bs w in
    tests_from ν n k (mtd_from f (view ν t bs w)) w t ≡ ended ν t q (k + length q.tests)
from-drive ν f zero k bs w t = ap (ended ν t (met (low ν (among w) t) w)) (omega arith)
from-drive ν f (suc n) k bs w t =
    let γ = chosen_test (mtd_from f) (view ν t bs w) in
    let r = test ν γ w t in
    let u = w ++ r.evaluated in
    let q = drive ν (mtd_from f) n t (r.not_below ∷ bs) u in
    at (eqb (low ν (among w) t) (high ν (among w) t)) _ (tested γ q)
    (ap (λ g. tests_from ν n (suc k) g u t) (next-test f r.not_below bs (low ν (among u) t) (high ν (among u) t))
    ∙ from-drive ν f n (suc k) (r.not_below ∷ bs) u t
    ∙ ap (ended ν t q) (omega arith))
  where
    at : (b : Bool) (d : Decision) (q : TestSearch) → d ≡ ended ν t q (k + length q.tests)
        → let p = cond b (met (low ν (among w) t) w) q in
        cond b (concluded ν k w t) d ≡ ended ν t p (k + length p.tests)
    at true d q e = ap (ended ν t (met (low ν (among w) t) w)) (omega arith)
    at false d q e = e

pub mtdf-member : (ν : ℕ → ℕ) (f : ℕ) (t : Tree) → mtdf f ν t ≡ decide_by (mtd_from f) ν t
mtdf-member ν f t =
    from-drive ν f (suc (length (leaves t))) 0 [] [] t ∙ ap (ended ν t (search_by (mtd_from f) ν t)) (omega arith)
