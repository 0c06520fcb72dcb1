-- The children's frames as a part of the table.
use Rattle.std.specs.Prelude.{ℕ, ◌+◌, ◌*◌, cond, ◌&&◌, List, [], ltb, leb, take, drop}
use Rattle.table.specs.Frame.{frame_size, frames, first_child, child_count}

-- the frames of node i's children: empty on a leaf, for a number past the last whole frame, and where they would reach
-- past the table's whole frames
unfoldable pub children_of : List ℕ → ℕ → List ℕ
children_of t i =
    cond (ltb i (frames t) && leb (first_child t i + child_count t i) (frames t))
    (take (frame_size * child_count t i) (drop (frame_size * first_child t i) t)) []

-- where that part begins in a table with the pointer p: at the first child's frame; at the table's front for a number
-- past the last frame, and where the part would reach past the table
unfoldable pub children_at : ℕ × ℕ → List ℕ → ℕ → ℕ × ℕ
children_at p t i =
    cond (ltb i (frames t) && leb (first_child t i + child_count t i) (frames t))
    (p.0, frame_size * first_child t i + p.1) p
