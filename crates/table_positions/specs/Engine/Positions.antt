-- A work array with each node's parent, depth and side in one number.
use Rattle.std.specs.Prelude.{ℕ, zero, suc, ◌+◌, ◌*◌, ◌/◌, ◌%◌, ◌≤◌, ◌<◌, ◌≡◌, List, length, get_or}
use Rattle.gametree.specs.declared.Position.{Position}
use Rattle.gametree.specs.declared.Side.{Side}
use Rattle.gametree.specs.declared.Side.TheVariants.{Max, Min}
use Rattle.table.specs.Frame.{max_nodes, frames}
use Rattle.table.specs.Position.{parent_of, position_of}

-- how many depths an entry tells apart: as many as a tree has nodes, and no node is deeper than its number
abbrev pub depth_count : ℕ
depth_count = max_nodes

-- how many sides an entry tells apart
abbrev pub side_count : ℕ
side_count = 2

-- the number that stands for a side: 0 for Max, 1 for Min
abbrev pub side_number : Side → ℕ
side_number Max = 0
side_number Min = 1

-- the side that a number stands for
abbrev pub number_side : ℕ → Side
number_side zero = Max
number_side (suc n) = Min

-- a parent and a position in one number
abbrev pub packed : ℕ → Position → ℕ
packed parent p = (parent * depth_count + p.depth) * side_count + side_number p.side

-- the entry of node k: its parent, its depth, and who moves there
abbrev pub position_entry : List ℕ → ℕ → ℕ
position_entry t k = packed (parent_of t k) (position_of t k)

-- what an array has for the parent, the depth and the side of node k
abbrev pub parent_in : List ℕ → ℕ → ℕ
parent_in P k = get_or P k 0 / side_count / depth_count

abbrev pub depth_in : List ℕ → ℕ → ℕ
depth_in P k = get_or P k 0 / side_count % depth_count

abbrev pub side_in : List ℕ → ℕ → Side
side_in P k = number_side (get_or P k 0 % side_count)

-- and for its position
abbrev pub position_in : List ℕ → ℕ → Position
position_in P k = record { depth = depth_in P k; side = side_in P k }

-- the array holds the entry of each node of the table, which are few enough for their depths to be told apart
pub record Positioned (t P : List ℕ) : Type 0 where
  pub at_most : frames t ≤ max_nodes
  pub room : frames t ≤ length P
  pub entry : (k : ℕ) → k < frames t → get_or P k 0 ≡ position_entry t k
