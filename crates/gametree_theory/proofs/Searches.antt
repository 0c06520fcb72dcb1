-- The searches, as what they evaluate, and what follows from the leaves of any search.
use Rattle.prelude.proofs.{ℕ, ◌≡◌, true, List, map}
use Rattle.lists.specs.{All, among, Once}
use Rattle.gametree.specs.{Tree, minimax, leaves, Decided, full_window, mtd, sss, Strategy, decide_by, flag}
use Rattle.gametree.specs.{root_move_of}
use Rattle.gametree.specs.{bound_move}

-- the leaves that SSS* evaluates, in order
abbrev pub sss_evaluated : (ℕ → ℕ) → Tree → List ℕ
sss_evaluated ν t = map (λ x. x.leaf) (sss ν t).evaluations

-- the list of leaves is what one of the searches evaluates in the tree, in order; one made of tests, by any strategy,
-- is taken with its last phase
pub data Searched (ν : ℕ → ℕ) (t : Tree) : List ℕ → Type 0 where
  by_alpha_beta : Searched ν t (full_window ν t).evaluated
  by_mtd : Searched ν t (mtd ν t).evaluated
  by_sss : Searched ν t (sss_evaluated ν t)
  by_tests : (σ : Strategy) → Searched ν t (decide_by σ ν t).evaluated

-- a list of leaves of the tree, none twice, whose bounds meet at the minimax value and prove the root move: so it is
-- with each of the searches, and with all leaves together
pub record Deciding (ν : ℕ → ℕ) (t : Tree) (w : List ℕ) : Type 0 where
  pub own : All (λ k. among (leaves t) k ≡ true) w
  pub once : Once w
  pub decided : Decided ν (among w) t
  pub move : bound_move ν (among w) t ≡ root_move_of ν t

-- two valuations give the same results where the leaves w are evaluated
pub record SameResults (ν μ : ℕ → ℕ) (t : Tree) (w : List ℕ) : Type 0 where
  pub same_value : minimax ν t ≡ minimax μ t
  pub same_move : root_move_of ν t ≡ root_move_of μ t
  pub same_flags : (k : ℕ) → flag ν (among w) t k ≡ flag μ (among w) t k
