-- A merit in an entry of the list is a value; the rules go by its score.
use Rattle.std.specs.Prelude.{◌≤◌, ◌≡◌, ℤ}
use Rattle.gametree.specs.Trees.{greatest}
use Rattle.table.specs.Value.{value_of, score_of}

-- a value from -32,001 to 32,001
pub record IsMerit (value : ℤ) : Type 0 where
  pub same : value ≡ value_of (score_of value)
  pub at_most : score_of value ≤ greatest
