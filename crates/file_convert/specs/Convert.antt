-- The converter of a file: its questions in order, its answer, and what it leaves in the lent buffer.
use Rattle.std.specs.Prelude.{ℕ, List, length, Result}
use Rattle.std.proofs.Math.Option.{Option}
use Rattle.table.specs.declared.Rejection.{Rejection}
use Rattle.table.specs.Rejection.{◌and_then◌, Outcome}
use Rattle.file_line.specs.Lines.{decoded}
use Rattle.file_read.specs.File.{file_rejection}
use Rattle.file_write.specs.Encoded.{file_of}
use Rattle.file_write.specs.Write.{write_check10, at_front}
use Rattle.file_convert.specs.RaiseCase.{raised}

-- the first "no": the reader's questions to the lifted file, and then 10 for a buffer of so many bytes
unfoldable pub convert_rejection : List ℕ → ℕ → Option Rejection
convert_rejection f room = file_rejection (raised f) and_then write_check10 (decoded (raised f)) room

-- the outcome of a call with a file and a buffer: that of writing the table of the lifted file
unfoldable pub convert_outcome : List ℕ → List ℕ → Outcome (Result ℕ Rejection) (List ℕ)
convert_outcome f buffer = at_front (convert_rejection f (length buffer)) (file_of (decoded (raised f))) buffer
