-- The writer of a file: its questions in order, its answer, and what it leaves in the lent buffer.
use Rattle.std.specs.Prelude.{ℕ, ◌*◌, List, ◌++◌, leb, length, drop, Result, Ok, Err}
use Rattle.std.proofs.Math.Option.{Option}
use Rattle.table.specs.declared.Rejection.{Rejection}
use Rattle.table.specs.Frame.{frames}
use Rattle.table.specs.Rejection.{ask, ◌and_then◌, unless, Outcome, ◌leaving◌}
use Rattle.table.specs.Check.{rejection}
use Rattle.file_line.specs.Line.{line_size}
use Rattle.file_write.specs.Encoded.{file_of}

-- 10: has the lent buffer 13 bytes for each node?
abbrev pub write_check10 : List ℕ → ℕ → Option Rejection
write_check10 t room = ask (leb (line_size * frames t) room) 10 0

-- the first "no" to the writer's questions, for a buffer of so many bytes
unfoldable pub write_rejection : List ℕ → ℕ → Option Rejection
write_rejection t room = rejection t and_then write_check10 t room

-- bytes at a buffer's front, with what it held past them, and their length; on a "no" the buffer as it was
abbrev pub at_front : Option Rejection → (bytes buffer : List ℕ) → Outcome (Result ℕ Rejection) (List ℕ)
at_front q x b = unless q (λ r. Err r leaving b) (Ok (length x) leaving (x ++ drop (length x) b))

-- the outcome of a call with a table and a buffer: the file of the table
abbrev pub write_outcome : List ℕ → List ℕ → Outcome (Result ℕ Rejection) (List ℕ)
write_outcome t file = at_front (write_rejection t (length file)) (file_of t) file
