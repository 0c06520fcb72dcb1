-- The family of searches made of null-window tests with memory: a strategy chooses each test of the root. MTD(f) is one
-- of them (`mtdf-by-tests` in gametree_theory/proofs/TestRuns); others are its two ends and bisection (source 000,
-- sections 8 and 9).
use Rattle.std.specs.Prelude.{ℕ, zero, suc, ◌+◌, ◌/◌, Bool, true, false, cond, List, [], ◌∷◌, ◌++◌, eqb, length}
use Rattle.lists.specs.Lists.{among}
use Rattle.gametree.specs.Trees.{Tree, least, greatest, leaves}
use Rattle.gametree.specs.Bounds.{low, high}
use Rattle.gametree.specs.AlphaBeta.{clamp}
use Rattle.gametree.specs.Tests.{test}
use Rattle.gametree.specs.Mtdf.{last_phase, Decision}

-- what can be seen before a test of the root: the answers so far (true is not below), the last one first, the root's
-- bounds, and the leaves evaluated so far
pub record View : Type 0 where
  pub answers : List Bool
  pub low : ℕ
  pub high : ℕ
  pub evaluated : List ℕ

abbrev pub view : (ℕ → ℕ) → Tree → List Bool → List ℕ → View
view ν t bs w = record { answers = bs; low = low ν (among w) t; high = high ν (among w) t; evaluated = w }

-- a strategy is any function of that; the test that it gives is brought between low + 1 and high
abbrev pub Strategy : Type 0
Strategy = View → ℕ

abbrev pub chosen_test : Strategy → View → ℕ
chosen_test σ x = clamp (suc x.low) x.high (σ x)

-- what a run of tests gives: the value, the leaves evaluated and the tests put to the root, both in order
pub record TestSearch : Type 0 where
  pub value : ℕ
  pub evaluated : List ℕ
  pub tests : List ℕ

-- the bounds have met at v, after the leaves w
abbrev pub met : ℕ → List ℕ → TestSearch
met v w = record { value = v; evaluated = w; tests = [] }

-- the run q after the test γ
abbrev pub tested : ℕ → TestSearch → TestSearch
tested γ q = record { value = q.value; evaluated = q.evaluated; tests = γ ∷ q.tests }

-- the run after the leaves w and the answers bs: the root is tested until its bounds meet. The number bounds how often;
-- each test evaluates a leaf, so `suc (length (leaves t))` suffices, and the clause for none left is never asked
-- (`tests-minimax` in TestRuns).
abbrev pub drive : (ℕ → ℕ) → Strategy → ℕ → Tree → List Bool → List ℕ → TestSearch
drive ν σ zero t bs w = met (low ν (among w) t) w
drive ν σ (suc f) t bs w =
    let x = view ν t bs w in
    let γ = chosen_test σ x in
    let r = test ν γ w t in
    let more = tested γ (drive ν σ f t (r.not_below ∷ bs) (w ++ r.evaluated)) in
    cond (eqb x.low x.high) (met x.low w) more

-- the search of a tree by a strategy
abbrev pub search_by : Strategy → (ℕ → ℕ) → Tree → TestSearch
search_by σ ν t = drive ν σ (suc (length (leaves t))) t [] []

-- MTD(f) with the first guess f: that is its first test; after an answer "below" the next one is the root's high, after
-- "not below" its low + 1
abbrev pub after_guess : ℕ → List Bool → (l h : ℕ) → ℕ
after_guess f [] l h = f
after_guess f (false ∷ bs) l h = h
after_guess f (true ∷ bs) l h = suc l

abbrev pub mtd_from : ℕ → Strategy
mtd_from f x = after_guess f x.answers x.low x.high

-- its two ends: the tests fall from `greatest` (MTD(+∞)), and rise from `least` (MTD(-∞), which is DUAL*)
abbrev pub falling : Strategy
falling = mtd_from greatest

abbrev pub rising : Strategy
rising = mtd_from (suc least)

-- bisection: the middle of the bounds
abbrev pub bisection : Strategy
bisection x = (suc x.low + x.high) / 2

-- the search of a tree by a strategy, with the last phase
abbrev pub decide_by : Strategy → (ℕ → ℕ) → Tree → Decision
decide_by σ ν t =
    let q = search_by σ ν t in
    record { evaluated = q.evaluated ++ last_phase ν q.value q.evaluated t; tests = length q.tests }
