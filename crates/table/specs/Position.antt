-- Where a node of a table stands: its parent, its depth, and who moves there.
use Rattle.std.specs.Prelude.{ℕ, zero, suc, ◌+◌, Bool, cond, ◌&&◌, List, ltb, leb, eqb}
use Rattle.gametree.specs.declared.Position.{Position}
use Rattle.gametree.specs.declared.Side.{Side}
use Rattle.gametree.specs.declared.Side.TheVariants.{Max}
use Rattle.gametree.specs.Trees.{other}
use Rattle.table.specs.Frame.{first_child, child_count, byte3, same_mover}

-- is k one of node i's children, which are consecutive
abbrev pub is_child : List ℕ → ℕ → ℕ → Bool
is_child t i k = leb (first_child t i) k && ltb k (first_child t i + child_count t i)

-- the last node before number n that has k for a child; 0 where none has
unfoldable pub parent_before : List ℕ → ℕ → ℕ → ℕ
parent_before t k zero = 0
parent_before t k (suc n) = cond (is_child t n k) n (parent_before t k n)

-- the parent of node k: an accepted table has exactly one for each node but the root
abbrev pub parent_of : List ℕ → ℕ → ℕ
parent_of t k = parent_before t k k

-- the root stands at depth 0, and Max moves there
abbrev pub root_position : Position
root_position = record { depth = 0; side = Max }

-- who moves at a child k of a node where the side s moves: the same side if byte 3 of the child says so, else the other
abbrev pub child_side : List ℕ → ℕ → Side → Side
child_side t k s = cond (eqb (byte3 t k) same_mover) s (other s)

-- a child k of a node that stands at p is one deeper
abbrev pub child_position : List ℕ → ℕ → Position → Position
child_position t k p = record { depth = p.depth + 1; side = child_side t k p.side }

-- where node k stands, from its parent's place; the first number bounds the steps to the root
unfoldable pub position_within : ℕ → List ℕ → ℕ → Position
position_within zero t k = root_position
position_within (suc f) t zero = root_position
position_within (suc f) t (suc k) = child_position t (suc k) (position_within f t (parent_of t (suc k)))

unfoldable pub position_of : List ℕ → ℕ → Position
position_of t k = position_within k t k

-- the depth of node k, and who moves there
abbrev pub depth_of : List ℕ → ℕ → ℕ
depth_of t k = (position_of t k).depth

abbrev pub side_of : List ℕ → ℕ → Side
side_of t k = (position_of t k).side
