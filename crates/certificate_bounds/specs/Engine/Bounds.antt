-- The bounds of the nodes of a table.
use Rattle.std.specs.Prelude.{ℕ, Bool, List}
use Rattle.gametree.specs.Trees.{least, greatest, minimax}
use Rattle.gametree.specs.Bounds.{known}
use Rattle.table.specs.Tree.{tree_at, valuation}
use Rattle.certificate_bounds.specs.declared.Interval.{Interval}

-- the bound of node k where the leaves of the set E are evaluated and each other leaf has the score x: the low bound of
-- gametree for x = least, the high bound for x = greatest
abbrev pub bound_of : List ℕ → (ℕ → Bool) → ℕ → ℕ → ℕ
bound_of t E x k = minimax (known (valuation t) E x) (tree_at t k)

-- both bounds of node k
abbrev pub bounds_of : List ℕ → (ℕ → Bool) → ℕ → Interval
bounds_of t E k = record { low = bound_of t E least k; high = bound_of t E greatest k }

-- both bounds of a leaf k: its score if it is evaluated
abbrev pub leaf_bounds : List ℕ → (ℕ → Bool) → ℕ → Interval
leaf_bounds t E k = record { low = known (valuation t) E least k; high = known (valuation t) E greatest k }
