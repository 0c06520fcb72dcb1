-- What a turn asks.
use Rattle.std.specs.Prelude.{ℕ, ◌-◌, ◌≤◌, ◌<◌, List}
use Rattle.gametree.specs.declared.Position.{Position}
use Rattle.gametree.specs.declared.Side.{Side}
use Rattle.table.specs.Frame.{max_depth, frames}
use Rattle.table.specs.Position.{depth_of}
use Rattle.certificate_write.specs.Engine.Searchable.{Searchable}

-- where the side s moves and at most `left` levels may follow
abbrev pub turn_position : Side → (left : ℕ) → Position
turn_position s left = record { depth = max_depth - left; side = s }

-- node i may be searched, it is the turn of the side s there, and no node lies deeper than `left` levels below it
pub record Ready (t e : List ℕ) (s : Side) (i left : ℕ) : Type 0 where
  pub searchable : Searchable t e i (turn_position s left)
  pub remaining : left ≤ max_depth
  pub shallow : (k : ℕ) → k < frames t → depth_of t k ≤ max_depth
