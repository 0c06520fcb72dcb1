-- The chosen child of a node: the first one whose bound equals the node's.
use Rattle.std.specs.Prelude.{ℕ, zero, suc, ◌+◌, cond, List, eqb, get_or}
use Rattle.gametree.specs.declared.Side.{Side}
use Rattle.gametree.specs.declared.Side.TheVariants.{Max, Min}

-- the first of the n numbers from i on at which f is v; 0 where there is none
unfoldable pub first_equal : (ℕ → ℕ) → ℕ → ℕ → ℕ → ℕ
first_equal f v i zero = 0
first_equal f v i (suc n) = cond (eqb (f i) v) i (first_equal f v (i + 1) n)

-- the bounds by which a child is chosen: lows where Max moves, highs where Min moves
abbrev pub bounds_by_side : Side → (lows highs : List ℕ) → List ℕ
bounds_by_side Max lows highs = lows
bounds_by_side Min lows highs = highs

-- the first of the n numbers from i on whose bound equals that of the node
abbrev pub chosen_child : (bounds : List ℕ) → (node i n : ℕ) → ℕ
chosen_child bounds node i n = first_equal (λ k. get_or bounds k 0) (get_or bounds node 0) i n
