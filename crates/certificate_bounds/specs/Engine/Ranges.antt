-- The best of the entries of consecutive nodes.
use Rattle.std.specs.Prelude.{ℕ, zero, suc, ◌+◌}
use Rattle.gametree.specs.declared.Side.{Side}
use Rattle.gametree.specs.Trees.{better}

-- the best of f i, f (i + 1), .., f (i + n) for a side
unfoldable pub best_in : Side → (ℕ → ℕ) → ℕ → ℕ → ℕ
best_in s f i zero = f i
best_in s f i (suc n) = better s (f i) (best_in s f (i + 1) n)
