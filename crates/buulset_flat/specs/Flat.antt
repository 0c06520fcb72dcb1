-- What each call gives back, as an answer of numbers.
use Rattle.std.specs.Prelude.{ℕ, Result, Ok, Err}
use Rattle.table.specs.declared.Rejection.{Rejection}
use Rattle.file_line.specs.declared.Cursor.{Cursor}
use Rattle.file_line.specs.declared.Frame.{Frame}
use Rattle.file_convert.specs.declared.Printed as printed
use Rattle.methods.specs.declared.Answer as search
use Rattle.certificate_choice.specs.declared.Chosen.{Chosen}
use Rattle.certificate_choice.specs.declared.Chosen.TheVariants.{First, Second}
use Rattle.text.specs.declared.Text as text
use Rattle.buulset_answers.specs.declared.Answer.{Answer}
use Rattle.buulset_answers.specs.declared.Choice.{Choice}
use Rattle.buulset_answers.specs.declared.Line.{Line}
use Rattle.buulset_answers.specs.declared.Text.{Text}
use Rattle.buulset_answers.specs.Answers.{counted, found, moved, spent, refused, laid_line}
use Rattle.buulset_answers.specs.Answers.{chosen, no_choice, read_line, no_line}

-- a result: its value made an answer, or its rejection
abbrev pub flat : {A : Type 0} → (A → Answer) → Result A Rejection → Answer
flat given (Ok a) = given a
flat given (Err r) = refused r

-- the converted file, or a refusal whose line is laid down; 10 where there is no room for it
abbrev pub flat_printed : printed.Printed → Answer
flat_printed (printed.TheVariants.File n) = counted n
flat_printed (printed.TheVariants.Line r n) = laid_line r n
flat_printed printed.TheVariants.NoRoom = refused (record { number = 10; place = 0 })

-- a search by any method
abbrev pub flat_answer : search.Answer → Answer
flat_answer (search.TheVariants.Found f) = found f
flat_answer (search.TheVariants.Spent s) = spent s
flat_answer (search.TheVariants.Rejected r) = refused r

abbrev pub flat_choice : Result Chosen Rejection → ℕ → Choice
flat_choice (Ok First) n = chosen 1 n
flat_choice (Ok Second) n = chosen 2 n
flat_choice (Err r) n = no_choice r

abbrev pub flat_line : Result (Frame × Cursor) Cursor → Line
flat_line (Ok (f, c)) = read_line f c
flat_line (Err c) = no_line c

-- a text
abbrev pub flat_text : text.Text → Text
flat_text t = record { bytes = t.bytes; length = t.length }
