-- MTD(f): tests of the root from a first guess until its bounds meet, and then the last phase. Where the bounds have
-- met they may single out a best child that is not the first; so the root's children are tested from the left against
-- the value, with the same memory, until one is found to have it. Then the bounds show the first root move.
use Rattle.std.specs.Prelude.{ℕ, zero, suc, cond, List, [], ◌++◌, eqb, length}
use Rattle.lists.specs.Lists.{among}
use Rattle.gametree.specs.Trees.{Side, Max, Min, Tree, leaf, inner, leaves}
use Rattle.gametree.specs.Bounds.{low, high}
use Rattle.gametree.specs.AlphaBeta.{clamp}
use Rattle.gametree.specs.Tests.{test, test_children}

-- the test that a child settles exactly if it has the root's value v, as none is better: at Max it is v, which such a
-- child is not below, at Min v + 1, which it is below
abbrev pub equal_test : Side → ℕ → ℕ
equal_test Max v = v
equal_test Min v = suc v

-- the leaves that the last phase evaluates, in order, after the leaves w whose bounds have met at v; a leaf has no move
abbrev pub last_phase : (ℕ → ℕ) → ℕ → List ℕ → Tree → List ℕ
last_phase ν v w (leaf n) = []
last_phase ν v w (inner n s ks) = (test_children ν (equal_test s v) w s ks).evaluated

-- what MTD(f) gives: the leaves evaluated, in order, and how many tests were put to the root
pub record Decision : Type 0 where
  pub evaluated : List ℕ
  pub tests : ℕ

-- the bounds have met after k tests and the leaves w: the last phase follows
abbrev pub concluded : (ℕ → ℕ) → ℕ → List ℕ → Tree → Decision
concluded ν k w t = record { evaluated = w ++ last_phase ν (low ν (among w) t) w t; tests = k }

-- tests of the root, after k of them and the leaves w, until its bounds meet. The test g is brought between low + 1 and
-- high; after the answer "not below" the next one is the root's low + 1, after "below" its high. The first number
-- bounds how many: each test evaluates a leaf, so `suc (length (leaves t))` suffices, and the clause for none left is
-- never asked (`tests-minimax` in gametree_theory/proofs/TestRuns).
abbrev pub tests_from : (ℕ → ℕ) → ℕ → (k g : ℕ) → List ℕ → Tree → Decision
tests_from ν zero k g w t = concluded ν k w t
tests_from ν (suc n) k g w t =
    let l = low ν (among w) t in
    let h = high ν (among w) t in
    let r = test ν (clamp (suc l) h g) w t in
    let u = w ++ r.evaluated in
    let next = cond r.not_below (suc (low ν (among u) t)) (high ν (among u) t) in
    cond (eqb l h) (concluded ν k w t) (tests_from ν n (suc k) next u t)

-- MTD(f) with the first guess f
abbrev pub mtdf : ℕ → (ℕ → ℕ) → Tree → Decision
mtdf f ν t = tests_from ν (suc (length (leaves t))) 0 f [] t
