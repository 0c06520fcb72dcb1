-- The theorems for use on the family of searches made of tests, beyond those that calls need (TestRuns in
-- gametree_theory).
use Rattle.prelude.proofs.{ℕ, suc, ◌≤◌, ◌<◌, arith, ◌≡◌, refl, sym, ◌∙◌, subst, true, false, [], map, length}
use Rattle.lists.specs.{All, among, Once, different}
use Rattle.gametree.specs.{Tree, least, greatest, minimax, Scored, Proper, Decided, alpha_beta, bound_move, test, mtdf}
use Rattle.gametree.specs.{Strategy, search_by, mtd_from, rising, bisection}
use Rattle.gametree_family.specs.{mirror, mirrored, opposite_test, scout}
use Rattle.gametree_theory.proofs.Minimax.Bounds.{every-leaf}
use Rattle.gametree_theory.proofs.Alphabeta.Window.{alpha_beta-evaluated}
use Rattle.gametree_theory.proofs.Searches.{sss_evaluated}
use Rattle.gametree_family.proofs.Narrower.{reached-narrower}
use Rattle.gametree_family.proofs.Null.{test-null}
use Rattle.gametree_family.proofs.Move.{BestMove, decided-best}
use Rattle.gametree_family.proofs.Few.{guess-scores}
use Rattle.gametree_family.proofs.Bisection.{bisection-tests}
use Rattle.gametree_family.proofs.Scout.{scout-value, scout-decides, scout-once}
use Rattle.gametree_family.proofs.Mirror.{proper-mirror, RunMirrors, search-mirror, decide-mirror}
use Rattle.gametree_theory.proofs.TestRuns.{tests-decide, mtdf-by-tests, falling-sss, falling-decides-sss}

-- ONE TEST

-- the first test is alpha-beta with the null window from γ - 1 to γ, here g and g + 1
pub first-test : (ν : ℕ → ℕ) (t : Tree) → Proper ν t → (g : ℕ) → g < greatest
    → (test ν (suc g) [] t).evaluated ≡ (alpha_beta ν g (suc g) t).evaluated
first-test ν t r g l =
    test-null ν g [] t r.scored r.distinct l (every-leaf (λ n. among [] n ≡ false) (λ n. refl) t)
    ∙ sym (alpha_beta-evaluated ν g (suc g) (omega arith) t)

-- alpha-beta with a narrower window evaluates no other leaves
pub narrower-window : (ν : ℕ → ℕ) (t : Tree) (α β α' β' : ℕ) → α < β → α' ≤ α → β ≤ β'
    → All (λ k. among (alpha_beta ν α' β' t).evaluated k ≡ true) (alpha_beta ν α β t).evaluated
narrower-window ν t α β α' β' o l u =
    rw (alpha_beta-evaluated ν α β o t, alpha_beta-evaluated ν α' β' (omega arith) t)
    (reached-narrower ν α β α' β' l u t)

-- A SEARCH BY ANY STRATEGY

-- the move that the bounds show leads to a child with the root's value, though not always to the first one
pub tests-move : (σ : Strategy) (ν : ℕ → ℕ) (t : Tree) → Scored ν t
    → BestMove ν t (bound_move ν (among (search_by σ ν t).evaluated) t)
tests-move σ ν t h = decided-best ν _ t h (tests-decide σ ν t h)

-- MTD(f)

-- whatever the guess, it makes at most one test more than there are different scores among the leaves that it evaluates
pub guess-few : (ν : ℕ → ℕ) (f : ℕ) (t : Tree) → Scored ν t
    → length (search_by (mtd_from f) ν t).tests ≤ suc (different (map ν (search_by (mtd_from f) ν t).evaluated))
guess-few ν f t h = guess-scores ν f t h

-- in the game with the sides exchanged the opposite guess gives the same leaves and the opposite tests
pub guess-mirror : (ν : ℕ → ℕ) (f : ℕ) (t : Tree) → Scored ν t
    → RunMirrors (search_by (mtd_from f) ν t) (search_by (mtd_from (opposite_test f)) (mirrored ν) (mirror t))
guess-mirror ν f t h = search-mirror ν f t h

-- with the last phase the leaves are the same, too
pub guess-mirror-decides : (ν : ℕ → ℕ) (f : ℕ) (t : Tree) → Scored ν t
    → (mtdf (opposite_test f) (mirrored ν) (mirror t)).evaluated ≡ (mtdf f ν t).evaluated
guess-mirror-decides ν f t h =
    rw (mtdf-by-tests ν f t, mtdf-by-tests (mirrored ν) (opposite_test f) (mirror t)) (decide-mirror ν f t h)

-- ITS OTHER END

-- DUAL*, from `least`, evaluates only leaves that SSS* evaluates in the game with the sides exchanged
pub rising-sss : (ν : ℕ → ℕ) (t : Tree) → Proper ν t
    → All (λ k. among (sss_evaluated (mirrored ν) (mirror t)) k ≡ true) (search_by rising ν t).evaluated
rising-sss ν t r =
    subst (All (λ k. among (sss_evaluated (mirrored ν) (mirror t)) k ≡ true))
    (search-mirror ν (suc least) t r.scored).leaves-are
    (falling-sss (mirrored ν) (mirror t) (proper-mirror ν t r))

-- with the last phase too
pub rising-decides-sss : (ν : ℕ → ℕ) (t : Tree) → Proper ν t
    → All (λ k. among (sss_evaluated (mirrored ν) (mirror t)) k ≡ true) (mtdf (suc least) ν t).evaluated
rising-decides-sss ν t r =
    subst (All (λ k. among (sss_evaluated (mirrored ν) (mirror t)) k ≡ true))
    (guess-mirror-decides ν (suc least) t r.scored)
    (falling-decides-sss (mirrored ν) (mirror t) (proper-mirror ν t r))

-- BISECTION

-- bisection makes at most 16 tests, however large the tree
pub bisection-few : (ν : ℕ → ℕ) (t : Tree) → Scored ν t → length (search_by bisection ν t).tests ≤ 16
bisection-few ν t h = bisection-tests ν t h

-- SCOUT

module _ (ν : ℕ → ℕ) (t : Tree) where
  -- Scout gives the minimax value
  pub scout-minimax : Scored ν t → (scout ν [] t).value ≡ minimax ν t
  scout-minimax h = scout-value ν [] t h

  -- the bounds of the leaves that it evaluates meet there
  pub scout-decided : Scored ν t → Decided ν (among (scout ν [] t).evaluated) t
  scout-decided h = scout-decides ν [] t h

  -- no leaf is evaluated twice; but not each is one that alpha-beta evaluates: `scout-more` in Scout
  pub scout-leaves : Once (scout ν [] t).evaluated
  scout-leaves = (scout-once ν [] t).once
