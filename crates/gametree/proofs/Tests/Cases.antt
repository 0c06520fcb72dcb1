-- Small trees, searched by tests, computed from the definitions.
use Rattle.prelude.proofs.{ℕ, suc, ◌≡◌, refl, List, [], ◌∷◌}
use Rattle.lists.specs.{among}
use Rattle.gametree.specs.{greatest, mtd, root_move_of, bound_move, mtdf, Strategy, TestSearch, search_by, mtd_from}
use Rattle.gametree.specs.{falling, rising, bisection, score, Case, valuation, equal_merits, low_known}
use Rattle.gametree.specs.{found_before_case}
use Rattle.gametree.specs.{three_passes, falling_leaves}

-- the search of a case, and what it gives: the score, the leaves, the tests
abbrev searched : Strategy → Case → TestSearch
searched σ c = search_by σ (valuation c) c.tree

abbrev gives : ℕ → List ℕ → List ℕ → TestSearch
gives v w γs = record { value = v; evaluated = w; tests = γs }

-- Max(Min(3, 6), Min(3, 1)): the two ends evaluate the same leaves, in another order; a right guess takes two tests
pub equal-merits : (searched falling equal_merits ≡ gives (score 3) (3 ∷ 5 ∷ 4 ∷ []) (greatest ∷ score 3 ∷ []))
    × (searched rising equal_merits ≡ gives (score 3) (3 ∷ 4 ∷ 5 ∷ []) (1 ∷ suc (score 3) ∷ []))
    × (searched (mtd_from (score 3)) equal_merits ≡ gives (score 3) (3 ∷ 4 ∷ 5 ∷ []) (score 3 ∷ suc (score 3) ∷ []))
    × (searched bisection equal_merits ≡ gives (score 3) (3 ∷ 4 ∷ 5 ∷ []) (32001 ∷ 48003 ∷ []))
equal-merits = (refl, refl, refl, refl)

-- a strategy that gives 0 each time, which is outside the bounds: the test is brought to their lower end; MTD(f) from
-- the guess 0 makes the same tests
pub brought-inside : (searched (λ _. 0) equal_merits ≡ gives (score 3) (3 ∷ 4 ∷ 5 ∷ []) (1 ∷ suc (score 3) ∷ []))
    × (mtdf 0 (valuation equal_merits) equal_merits.tree ≡ record { evaluated = 3 ∷ 4 ∷ 5 ∷ []; tests = 2 })
brought-inside = (refl, refl)

-- Max(Min(5, 4, 3)): after the answer "below" MTD(f) tests the root's high, after "not below" its low + 1
pub next-by-answer : (mtdf greatest (valuation falling_leaves) falling_leaves.tree
    ≡ record { evaluated = 2 ∷ 3 ∷ 4 ∷ []; tests = 3 })
    × (mtdf 0 (valuation falling_leaves) falling_leaves.tree ≡ record { evaluated = 2 ∷ 3 ∷ 4 ∷ []; tests = 1 })
next-by-answer = (refl, refl)

-- Max(Min(Max(Min(1, 4), 3), 1)): the two ends evaluate different leaves
pub found_before : (searched falling found_before_case ≡ gives (score 1) (6 ∷ 5 ∷ 3 ∷ []) (greatest ∷ score 3 ∷ []))
    × (searched rising found_before_case ≡ gives (score 1) (6 ∷ 7 ∷ 3 ∷ []) (1 ∷ []))
found_before = (refl, refl)

-- Max(Min(4, 3)): the bounds meet in the last test, and no further one confirms the value, as MTD's third pass does
pub three-passes : searched falling three_passes ≡ gives (score 3) (2 ∷ 3 ∷ []) (greatest ∷ score 4 ∷ [])
three-passes = refl

-- Max(Min(1, 1), 1): one test decides the value, with a leaf less than MTD and SSS* evaluate
pub fewer-leaves : (searched falling low_known ≡ gives (score 1) (3 ∷ 2 ∷ []) (greatest ∷ []))
    × ((mtd (valuation low_known) low_known.tree).evaluated ≡ 3 ∷ 2 ∷ 4 ∷ [])
unfolding mtd
fewer-leaves = (refl, refl)

-- but these leaves show the second child as the move, and the first one has the root's value, too
pub other-move : (bound_move (valuation low_known) (among (3 ∷ 2 ∷ [])) low_known.tree ≡ 2)
    × (root_move_of (valuation low_known) low_known.tree ≡ 1)
other-move = (refl, refl)

-- the last phase tests the first child, and evaluates the third leaf
pub first-move : mtdf greatest (valuation low_known) low_known.tree
    ≡ record { evaluated = 3 ∷ 2 ∷ 4 ∷ []; tests = 1 }
first-move = refl
