-- The theorems for use on searches made of null-window tests with memory, in the manner of Theorems: each says in one
-- sentence what it gives. Sections: one test, a search by any strategy, the last phase, MTD(f), its upper end. What no
-- call needs is in gametree_family.
use Rattle.prelude.proofs.{ℕ, suc, ◌+◌, ◌≤◌, ◌<◌, arith, ◌≡◌, sym, ◌∙◌, ap, ap₂, subst, ◌↔◌, Bool, true, false, cond}
use Rattle.prelude.proofs.{List, [], ◌++◌, length, length-append, leb-true, leb-false, le-leb, lt-leb}
use Rattle.lists.specs.{All, among, Once}
use Rattle.gametree.specs.declared.Side.TheVariants.{Max, Min}
use Rattle.gametree.specs.{Tree, least, greatest, minimax, leaves, Scored, Proper, low, high, Decided, alpha_beta}
use Rattle.gametree.specs.{full_window, pair_leaves, chosen, flag, Smallest, root_move_of, bound_move, test}
use Rattle.gametree.specs.{last_phase, mtdf}
use Rattle.gametree.specs.{Strategy, TestSearch, search_by, mtd_from, falling, decide_by}
use Rattle.lists.proofs.Lists.{once-length}
use Rattle.gametree_theory.proofs.Minimax.Bounds.{known-local}
use Rattle.gametree_theory.proofs.Minimax.Moves.{bound_move-local}
use Rattle.gametree_theory.proofs.Alphabeta.Window.{alpha_beta-evaluated}
use Rattle.gametree_theory.proofs.Certificates.Flags.{FlagsCertify, decided-certify}
use Rattle.gametree_theory.proofs.Certificates.SmallestPair.{smallest≤}
use Rattle.gametree_theory.proofs.Searches.{sss_evaluated, Searched, by_tests}
use Rattle.gametree_theory.proofs.Sss.Run.{sss-is-mtd}
use Rattle.gametree_theory.proofs.Theorems.{alpha_beta-leaves, local-decide}
use Rattle.gametree_theory.proofs.Tests.Answer.{test-answer}
use Rattle.gametree_theory.proofs.Tests.Leaves.{New, test-dominated, test-once}
use Rattle.gametree_theory.proofs.Tests.Progress.{confirmed-low, confirmed-high, test-confirmed}
use Rattle.gametree_theory.proofs.Tests.Local.{run-local}
use Rattle.gametree_theory.proofs.Tests.Runs.{reaches-own, test-opens, search-right}
use Rattle.gametree_theory.proofs.Tests.Member.{mtdf-member}
use Rattle.gametree_theory.proofs.Tests.Guess.{right-guess}
use Rattle.gametree_theory.proofs.Tests.FirstMove.{ElderMovesWorse, decide-right}
use Rattle.gametree_theory.proofs.Tests.Falling.{falling-mtd}
use Rattle.gametree_theory.proofs.Tests.FallingMove.{falling-decides-mtd}

-- ONE TEST

module _ (ν : ℕ → ℕ) (t : Tree) (h : Scored ν t) (γ : ℕ) (w : List ℕ) where
  -- the answer is "not below" exactly if the test is at most the minimax value, whatever leaves were evaluated before
  pub test-not-below : ((test ν γ w t).not_below ≡ true) ↔ (γ ≤ minimax ν t)
  test-not-below = (
    λ e. leb-true γ (minimax ν t) (sym (test-answer ν γ w t h) ∙ e),
    λ k. test-answer ν γ w t h ∙ le-leb γ (minimax ν t) k,
  )

  -- and "below" exactly if the value is below the test
  pub test_below : ((test ν γ w t).not_below ≡ false) ↔ (minimax ν t < γ)
  test_below = (
    λ e. leb-false γ (minimax ν t) (sym (test-answer ν γ w t h) ∙ e),
    λ k. test-answer ν γ w t h ∙ lt-leb γ (minimax ν t) k,
  )

  -- every leaf that it evaluates is one that alpha-beta evaluates with any window that holds γ - 1 and γ
  pub test-domination : (α β : ℕ) → α < γ → γ ≤ β
      → All (λ k. among (alpha_beta ν α β t).evaluated k ≡ true) (test ν γ w t).evaluated
  test-domination α β l u =
      rw (alpha_beta-evaluated ν α β (omega arith) t) (test-dominated ν γ α β w t h l u)

  -- none of them was evaluated before, and none is evaluated twice
  pub test-new : New w (test ν γ w t).evaluated
  test-new = test-once ν γ w t

  -- after the answer "below" the high by the leaves evaluated now is below the test, after "not below" the low is not
  pub test-narrows : ((test ν γ w t).not_below ≡ false → high ν (among (w ++ (test ν γ w t).evaluated)) t < γ)
      × ((test ν γ w t).not_below ≡ true → γ ≤ low ν (among (w ++ (test ν γ w t).evaluated)) t)
  test-narrows = (
    λ e. confirmed-high γ (test ν γ w t).not_below _ _ e (test-confirmed ν γ w t h),
    λ e. confirmed-low γ (test ν γ w t).not_below _ _ e (test-confirmed ν γ w t h),
  )

  -- so a test between the bounds evaluates a leaf
  pub test-evaluates : low ν (among w) t < γ → γ ≤ high ν (among w) t → 0 < length (test ν γ w t).evaluated
  test-evaluates l u = test-opens ν γ w t h l u

-- A SEARCH BY ANY STRATEGY

module _ (σ : Strategy) (ν : ℕ → ℕ) (t : Tree) (h : Scored ν t) where
  -- it ends with the minimax value
  pub tests-minimax : (search_by σ ν t).value ≡ minimax ν t
  tests-minimax = (search-right σ ν t h).value

  -- the bounds of the leaves that it evaluates meet at the minimax value
  pub tests-decide : Decided ν (among (search_by σ ν t).evaluated) t
  tests-decide = (search-right σ ν t h).decided

  -- no leaf is evaluated twice, even if leaves of the tree share a number
  pub tests-once : Once (search_by σ ν t).evaluated
  tests-once = (search-right σ ν t h).once

  -- domination: every leaf that it evaluates is one that alpha-beta evaluates
  pub tests-domination : All (λ k. among (full_window ν t).evaluated k ≡ true) (search_by σ ν t).evaluated
  tests-domination = rw (alpha_beta-leaves ν t) (search-right σ ν t h).reaches

  -- so it evaluates no more leaves than alpha-beta
  pub tests-count : length (search_by σ ν t).evaluated ≤ length (full_window ν t).evaluated
  tests-count = once-length (search_by σ ν t).evaluated (full_window ν t).evaluated tests-once tests-domination

  -- they are leaves of the tree
  pub tests-own : All (λ k. among (leaves t) k ≡ true) (search_by σ ν t).evaluated
  tests-own = reaches-own ν least greatest t (search_by σ ν t).evaluated (search-right σ ν t h).reaches

  -- it makes no more tests than it evaluates leaves
  pub tests-few : length (search_by σ ν t).tests ≤ length (search_by σ ν t).evaluated
  tests-few = omega (arith, (search-right σ ν t h).counted)

-- the flags read off the bounds are a certificate of the value, made of evaluated leaves only
pub tests-certify : (σ : Strategy) (ν : ℕ → ℕ) (t : Tree) → Proper ν t
    → FlagsCertify ν (among (search_by σ ν t).evaluated) t
tests-certify σ ν t r = decided-certify ν _ t r (tests-decide σ ν t r.scored)

-- so no strategy evaluates fewer leaves than a smallest certificate has
pub tests-smallest : (σ : Strategy) (ν : ℕ → ℕ) (t : Tree) → Proper ν t → (g h : ℕ → Bool) → Smallest ν t g h
    → pair_leaves g h t ≤ length (search_by σ ν t).evaluated
tests-smallest σ ν t r g h m = smallest≤ ν t g h (search_by σ ν t).evaluated r m (tests-certify σ ν t r)

-- it gives the same value, leaves and tests under a valuation that agrees on the leaves that it evaluates
pub local-tests : (σ : Strategy) (ν μ : ℕ → ℕ) (t : Tree) → All (λ k. ν k ≡ μ k) (search_by σ ν t).evaluated
    → search_by σ ν t ≡ search_by σ μ t
local-tests σ ν μ t a = run-local ν μ σ (suc (length (leaves t))) t [] [] a

-- so the value, the flags of the certificate and the move that the bounds show are the same
pub local-tests-results : (σ : Strategy) (ν μ : ℕ → ℕ) (t : Tree) → Scored ν t → Scored μ t → (w : List ℕ)
    → w ≡ (search_by σ ν t).evaluated → All (λ k. ν k ≡ μ k) w
    → (minimax ν t ≡ minimax μ t)
    × ((k : ℕ) → flag ν (among w) t k ≡ flag μ (among w) t k)
    × (bound_move ν (among w) t ≡ bound_move μ (among w) t)
local-tests-results σ ν μ t h i w e a = (
  sym (tests-minimax σ ν t h)
      ∙ ap (λ (q : TestSearch). q.value) (local-tests σ ν μ t (subst (All (λ k. ν k ≡ μ k)) e a))
      ∙ tests-minimax σ μ t i,
  λ k.
      ap₂ (λ κ χ. cond (among (chosen Max κ t) k) 1 0 + cond (among (chosen Min χ t) k) 2 0)
      (known-local ν μ w a greatest)
      (known-local ν μ w a least),
  bound_move-local ν μ w a t,
)

-- THE LAST PHASE

-- With it a search made of tests is `Searched` (by `by_tests`), so that its leaves are `Deciding`: the certificate, the
-- move by the bounds, domination, the smallest certificate and locality are those of Theorems.

module _ (σ : Strategy) (ν : ℕ → ℕ) (t : Tree) (h : Scored ν t) where
  -- the move that the bounds show is the first child with the root's value
  pub decide-move : bound_move ν (among (decide_by σ ν t).evaluated) t ≡ root_move_of ν t
  decide-move = (decide-right σ ν t h).shown

  -- the bounds show each elder sibling of the move to be worse: under Max its high is below the value, under Min its
  -- low is above it
  pub decide-elders : ElderMovesWorse ν (among (decide_by σ ν t).evaluated) t
  decide-elders = (decide-right σ ν t h).elders

-- so the strategy matters neither for the value nor for the move
pub decide-same : (σ τ : Strategy) (ν : ℕ → ℕ) (t : Tree) → Scored ν t
    → ((search_by σ ν t).value ≡ (search_by τ ν t).value)
    × (bound_move ν (among (decide_by σ ν t).evaluated) t ≡ bound_move ν (among (decide_by τ ν t).evaluated) t)
decide-same σ τ ν t h = (
  tests-minimax σ ν t h ∙ sym (tests-minimax τ ν t h),
  decide-move σ ν t h ∙ sym (decide-move τ ν t h),
)

-- MTD(f)

module _ (ν : ℕ → ℕ) (f : ℕ) (t : Tree) where
  -- MTD(f) is the search by the strategy that starts with f, with the last phase
  pub mtdf-by-tests : mtdf f ν t ≡ decide_by (mtd_from f) ν t
  mtdf-by-tests = mtdf-member ν f t

  -- so it is one of the searches of Theorems
  pub mtdf-searched : Searched ν t (mtdf f ν t).evaluated
  mtdf-searched = rw mtdf-by-tests (by_tests (mtd_from f))

  -- it makes no more tests than it evaluates leaves
  pub guess-tests : Scored ν t → (mtdf f ν t).tests ≤ length (mtdf f ν t).evaluated
  guess-tests h =
      let q = search_by (mtd_from f) ν t in
      let k = tests-few (mtd_from f) ν t h in
      let n = length-append q.evaluated (last_phase ν q.value q.evaluated t) in
      rw mtdf-by-tests (omega arith)

-- it gives the same leaves and number of tests under a valuation that agrees on the leaves that it evaluates
pub local-mtdf : (f : ℕ) (ν μ : ℕ → ℕ) (t : Tree) → All (λ k. ν k ≡ μ k) (mtdf f ν t).evaluated
    → mtdf f ν t ≡ mtdf f μ t
local-mtdf f ν μ t a =
    mtdf-by-tests ν f t ∙ local-decide (mtd_from f) ν μ t (rw mtdf-by-tests at a) ∙ sym (mtdf-by-tests μ f t)

-- the first guess matters neither for the value nor for the move
pub guess-same : (f g : ℕ) (ν : ℕ → ℕ) (t : Tree) → Scored ν t
    → ((search_by (mtd_from f) ν t).value ≡ (search_by (mtd_from g) ν t).value)
    × (bound_move ν (among (mtdf f ν t).evaluated) t ≡ bound_move ν (among (mtdf g ν t).evaluated) t)
guess-same f g ν t h = rw (mtdf-by-tests ν f t, mtdf-by-tests ν g t) (decide-same (mtd_from f) (mtd_from g) ν t h)

-- two tests of the root suffice where it is the value
pub guess-two : (ν : ℕ → ℕ) (t : Tree) → Scored ν t → (mtdf (minimax ν t) ν t).tests ≤ 2
guess-two ν t h = rw (mtdf-by-tests ν (minimax ν t) t) (right-guess ν t h)

-- ITS UPPER END

module _ (ν : ℕ → ℕ) (t : Tree) (r : Proper ν t) where
  -- from `greatest` it evaluates only leaves that SSS* evaluates
  pub falling-sss : All (λ k. among (sss_evaluated ν t) k ≡ true) (search_by falling ν t).evaluated
  falling-sss =
      subst (λ w. All (λ k. among w k ≡ true) (search_by falling ν t).evaluated)
      (sym (sss-is-mtd ν t r).leaves-are) (falling-mtd ν t r)

  -- so no more than SSS*
  pub falling-count : length (search_by falling ν t).evaluated ≤ length (sss_evaluated ν t)
  falling-count =
      once-length (search_by falling ν t).evaluated (sss_evaluated ν t) (tests-once falling ν t r.scored)
      falling-sss

  -- with the last phase too
  pub falling-decides-sss : All (λ k. among (sss_evaluated ν t) k ≡ true) (mtdf greatest ν t).evaluated
  falling-decides-sss =
      subst (λ w. All (λ k. among w k ≡ true) (mtdf greatest ν t).evaluated)
      (sym (sss-is-mtd ν t r).leaves-are) (rw (mtdf-by-tests ν greatest t) (falling-decides-mtd ν t r))
