-- The leaves of a table.
use Rattle.std.specs.Prelude.{ℕ, ◌<◌, ◌≡◌, List}
use Rattle.table.specs.Frame.{frames, child_count}

-- node k of the table is a leaf
pub record Leaf (t : List ℕ) (k : ℕ) : Type 0 where
  pub inside : k < frames t
  pub childless : child_count t k ≡ 0
