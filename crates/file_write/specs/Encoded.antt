-- The file of a table: a line for each frame, in capital letters, each closed by a line feed.
use Rattle.std.specs.Prelude.{ℕ, zero, suc, ◌/◌, ◌%◌, List, [], ◌∷◌, ◌++◌, take, drop}
use Rattle.table.specs.Frame.{frame_size, frames}
use Rattle.file_hex.specs.Digit.{capital_of}
use Rattle.file_line.specs.Line.{line_feed}

-- the digits of bytes, two for each, the high one first
unfoldable pub digits_of : List ℕ → List ℕ
digits_of [] = []
digits_of (b ∷ bs) = capital_of (b / 16) ∷ capital_of (b % 16) ∷ digits_of bs

-- the line of a frame
unfoldable pub line_of : List ℕ → List ℕ
line_of frame = digits_of frame ++ (line_feed ∷ [])

-- the lines of the first n frames of a table, in order
unfoldable pub encode : ℕ → List ℕ → List ℕ
encode zero t = []
encode (suc n) t = line_of (take frame_size t) ++ encode n (drop frame_size t)

-- the file of a table
abbrev pub file_of : List ℕ → List ℕ
file_of t = encode (frames t) t
