-- The reader of a file: its questions in order, its answer, and what it leaves in the lent table.
use Rattle.std.specs.Prelude.{ℕ, ◌+◌, ◌*◌, ◌≡◌, not, List, [], ◌∷◌, ◌++◌, leb, length, drop, Result, Ok, Err}
use Rattle.std.proofs.Math.Option.{Option, none}
use Rattle.table.specs.declared.Rejection.{Rejection}
use Rattle.table.specs.Frame.{frame_size, max_nodes, frames}
use Rattle.table.specs.Rejection.{ask, ◌and_then◌, unless, Outcome, ◌leaving◌}
use Rattle.table.specs.Check.{check1, frames_rejection}
use Rattle.file_line.specs.Line.{line_size, is_line, has_lowercase}
use Rattle.file_line.specs.Lines.{lines_of, decoded}

-- the most bytes of a file, 53,248: a line and its line feed for each node
abbrev pub max_file : ℕ
max_file = line_size * max_nodes

-- 2: is the file no longer?
abbrev pub file_check2 : List ℕ → Option Rejection
file_check2 f = ask (leb (length f) max_file) 2 0

-- the first rejection of a check put to lines in order, the first of them number i
unfoldable pub each_line : (ℕ → List ℕ → Option Rejection) → ℕ → List (List ℕ) → Option Rejection
each_line q i [] = none
each_line q i (l ∷ ls) = q i l and_then each_line q (i + 1) ls

-- 3: is each line twelve hexadecimal digits? The place of a "no" is the number of the first line that is not.
abbrev pub file_check3 : List ℕ → Option Rejection
file_check3 f = each_line (λ i l. ask (is_line l) 3 i) 0 (lines_of f)

-- 16: has no line a lowercase letter? The place of a "no" is the number of the first line that has one.
abbrev pub file_check16 : List ℕ → Option Rejection
file_check16 f = each_line (λ i l. ask (not (has_lowercase l)) 16 i) 0 (lines_of f)

-- 10: has the lent table six bytes for each line?
abbrev pub file_check10 : List ℕ → List ℕ → Option Rejection
file_check10 f table = ask (leb (frame_size * length (lines_of f)) (length table)) 10 0

-- the first "no" to questions 1 to 3 and 16, which concern the file, and 4 to 9, which concern its frames
unfoldable pub file_rejection : List ℕ → Option Rejection
file_rejection f =
    check1 f and_then file_check2 f and_then file_check3 f and_then file_check16 f and_then frames_rejection (decoded f)

-- a file that is accepted: none of these gets a "no"
abbrev pub AcceptedFile : List ℕ → Type 0
AcceptedFile f = file_rejection f ≡ none

-- the first "no" to the reader's questions
unfoldable pub read_rejection : List ℕ → List ℕ → Option Rejection
read_rejection f table = file_rejection f and_then file_check10 f table

-- the outcome of a call with a file and a table: the number of nodes, and the frames at the table's front, with what it
-- held past them; on a "no" the table as it was
abbrev pub read_outcome : List ℕ → List ℕ → Outcome (Result ℕ Rejection) (List ℕ)
read_outcome f table =
    unless (read_rejection f table) (λ r. Err r leaving table)
    (Ok (frames (decoded f)) leaving (decoded f ++ drop (length (decoded f)) table))
