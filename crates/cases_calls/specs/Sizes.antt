-- How many bytes the frames of a checked table have, and a part at the front of a list.
use Rattle.table.specs.declared.Rejection.{Rejection}
use Rattle.std.specs.Prelude.{ℕ, ◌*◌, ◌≤◌, ◌≡◌, min, List, length, take, Result, Ok, Err}
use Rattle.table.specs.Frame.{frame_size, max_nodes}

-- those of at most as many nodes as a tree may have, and none where the table is refused
abbrev pub frames_size : Result ℕ Rejection → ℕ
frames_size (Ok n) = frame_size * min n max_nodes
frames_size (Err r) = 0

-- the first n elements of a list are within it, and are n
abbrev pub IsPrefixLen : ℕ → List ℕ → Type 0
IsPrefixLen n xs = (n ≤ length xs) × (n ≡ length (take n xs))
