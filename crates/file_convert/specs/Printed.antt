-- What the program that converts prints for a file: the converted file, or the line of the refusal.
use Rattle.std.specs.Prelude.{ℕ, cond, List, ◌++◌, leb, length, drop}
use Rattle.table.specs.Rejection.{unless, Outcome, ◌leaving◌}
use Rattle.file_line.specs.Lines.{decoded}
use Rattle.file_write.specs.Encoded.{file_of}
use Rattle.text.specs.Text.{refused_line}
use Rattle.file_convert.specs.declared.Printed.{Printed}
use Rattle.file_convert.specs.declared.Printed.TheVariants.{File, Line, NoRoom}
use Rattle.file_convert.specs.RaiseCase.{raised}
use Rattle.file_convert.specs.Convert.{convert_rejection}

-- how many bytes are printed
abbrev pub length_printed : Printed → ℕ
length_printed (File n) = n
length_printed (Line r n) = n
length_printed NoRoom = 0

-- a text at the buffer's front, named with its length; where it has no room, the buffer as it was
unfoldable pub laid_text : (named : ℕ → Printed) (text buffer : List ℕ) → Outcome Printed (List ℕ)
laid_text named x buffer =
    cond (leb (length x) (length buffer)) (named (length x) leaving (x ++ drop (length x) buffer))
    (NoRoom leaving buffer)

-- the outcome of a call with a file and a buffer
abbrev pub output_outcome : List ℕ → List ℕ → Outcome Printed (List ℕ)
output_outcome f buffer =
    unless (convert_rejection f (length buffer)) (λ r. laid_text (Line r) (refused_line r) buffer)
    (laid_text File (file_of (decoded (raised f))) buffer)
