-- The root move (01: the move): the first child of the root with the root's value, by the minimax values, and by the
-- bounds of a set of evaluated leaves.
use Rattle.std.specs.Prelude.{ℕ, Bool, cond, eqb}
use Rattle.gametree.specs.Trees.{Max, Min, Tree, leaf, inner, Children, last, ◌then◌, minimax, number}
use Rattle.gametree.specs.Bounds.{low, high}

-- the number of the first child at which f is v; 0 where there is none
abbrev pub first_with : (Tree → ℕ) → ℕ → Children → ℕ
first_with f v (last t) = cond (eqb (f t) v) (number t) 0
first_with f v (t then ts) = cond (eqb (f t) v) (number t) (first_with f v ts)

-- the first child with the root's value, 0 where the root is a leaf
abbrev pub root_move_of : (ℕ → ℕ) → Tree → ℕ
root_move_of ν (leaf n) = 0
root_move_of ν (inner n s ks) = first_with (minimax ν) (minimax ν (inner n s ks)) ks

-- the same by the bounds of the evaluated leaves E: the lows under a Max root, the highs under a Min root
abbrev pub bound_move : (ℕ → ℕ) → (ℕ → Bool) → Tree → ℕ
bound_move ν E (leaf n) = 0
bound_move ν E (inner n Max ks) = first_with (low ν E) (low ν E (inner n Max ks)) ks
bound_move ν E (inner n Min ks) = first_with (high ν E) (high ν E (inner n Min ks)) ks
