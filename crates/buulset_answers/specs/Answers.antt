-- The answers of the library for other languages: each kind as a struct of numbers.
use Rattle.std.specs.Prelude.{ℕ, ℤ, pos, replicate}
use Rattle.table.specs.declared.Rejection.{Rejection}
use Rattle.file_line.specs.declared.Frame.{Frame}
use Rattle.file_line.specs.declared.Cursor.{Cursor}
use Rattle.methods.specs.declared.Findings.{Findings}
use Rattle.methods.specs.declared.Spent.{Spent}
use Rattle.plain.specs.declared.PlainResult.{PlainResult}
use Rattle.variation.specs.declared.LineFound.{LineFound}
use Rattle.buulset_answers.specs.declared.Answer.{Answer}
use Rattle.buulset_answers.specs.declared.Choice.{Choice}
use Rattle.buulset_answers.specs.declared.Children.{Children}
use Rattle.buulset_answers.specs.declared.Line.{Line}

-- a result with its value, count, root move and steps
abbrev pub result : ℤ → (count move steps : ℕ) → Answer
result v n m s =
    record { refused = 0; spent = 0; value = v; place = 0; count = n; root_move = m; steps = s }

-- a count, a value, what a search finds, what the plain engine finds
abbrev pub counted : ℕ → Answer
counted n = result (pos 0) n 0 0

abbrev pub valued : ℤ → Answer
valued v = result v 0 0 0

abbrev pub found : Findings → Answer
found f = result f.value f.leaves f.root_move f.steps

abbrev pub moved : PlainResult → Answer
moved f = result f.value 0 f.root_move 0

-- the best line, whose length is the count
abbrev pub lined : LineFound → Answer
lined f = result f.value f.length f.root_move 0

-- that an allowance is spent: the merit stands where the value would
abbrev pub spent : Spent → Answer
spent s =
    record {
      refused = 0;
      spent = 1;
      value = s.merit;
      place = 0;
      count = s.leaves;
      root_move = 0;
      steps = s.steps;
    }

-- a rejection whose line has n bytes and was laid down; and one without a line
abbrev pub laid_line : Rejection → ℕ → Answer
laid_line r n =
    record { refused = r.number; spent = 0; value = pos 0; place = r.place; count = n; root_move = 0; steps = 0 }

abbrev pub refused : Rejection → Answer
refused r = laid_line r 0

-- which of two certificates, 1 or 2, and how many flags it has; or neither
abbrev pub chosen : (which count : ℕ) → Choice
chosen k n = record { refused = 0; chosen = k; place = 0; count = n }

abbrev pub no_choice : Rejection → Choice
no_choice r = record { refused = r.number; chosen = 0; place = r.place; count = 0 }

-- no children
abbrev pub no_children : Children
no_children = record { first = 0; count = 0 }

-- one line: its bytes with the position past it, or none with the position as it was
abbrev pub read_line : Frame → Cursor → Line
read_line f c = record { bytes = f.bytes; read = 1; at = c.at }

abbrev pub no_line : Cursor → Line
no_line c = record { bytes = replicate 6 0; read = 0; at = c.at }
