-- What decoding a file gives.
use Rattle.std.specs.Prelude.{◌≡◌, not, List, ℕ, ◌*◌, ◌/◌, ◌≤◌, length, take, Result}
use Rattle.std.proofs.Math.Option.{Option, none}
use Rattle.table.specs.declared.Rejection.{Rejection}
use Rattle.table.specs.Frame.{frame_size, frames}
use Rattle.table.specs.Rejection.{ask, ◌and_then◌, answer}
use Rattle.table.specs.Check.{check1}
use Rattle.file_line.specs.Line.{line_size, is_line, has_lowercase}
use Rattle.file_line.specs.Lines.{decoded}
use Rattle.file_read.specs.File.{file_check2, file_check3}

-- questions 3 and 16 of one line
abbrev pub line_check3 : ℕ → List ℕ → Option Rejection
line_check3 i l = ask (is_line l) 3 i

abbrev pub line_check16 : ℕ → List ℕ → Option Rejection
line_check16 i l = ask (not (has_lowercase l)) 16 i

-- the first "no" to questions 1 to 3, which see no letter case
unfoldable pub lines_rejection : List ℕ → Option Rejection
lines_rejection f = check1 f and_then file_check2 f and_then file_check3 f

-- the answer r to questions about a file, where x is the first "no"; if there is none, the table begins with the
-- bytes that the file's lines stand for
pub record Decoded (f : List ℕ) (x : Option Rejection) (table : List ℕ) (r : Result ℕ Rejection) : Type 0 where
  pub answered : r ≡ answer (frames (decoded f)) x
  pub filled : x ≡ none → take (length (decoded f)) table ≡ decoded f

-- a table of n bytes has room for the frames of a file's lines
abbrev pub RoomFor : List ℕ → ℕ → Type 0
RoomFor f n = length f ≤ line_size * (n / frame_size)

-- this table has
abbrev pub LongEnough : (f table : List ℕ) → Type 0
LongEnough f table = RoomFor f (length table)
