-- The parts of two answers that the call hands on.
use Rattle.table.specs.declared.Rejection.{Rejection}
use Rattle.std.specs.Prelude.{ℕ, pos, Result, Ok, Err}
use Rattle.methods.specs.declared.Answer.{Answer}
use Rattle.methods.specs.declared.Answer.TheVariants.{Found, Spent, Rejected}
use Rattle.variation.specs.declared.LineFound.{LineFound}

-- no value and no move
abbrev pub nothing_in : (length : ℕ) → LineFound
nothing_in n = record { value = pos 0; root_move = 0; length = n }

-- what an answer has found, with a line of this length
abbrev pub found_in : Answer → (length : ℕ) → LineFound
found_in (Found f) n = record { value = f.value; root_move = f.root_move; length = n }
found_in (Spent s) n = nothing_in n
found_in (Rejected r) n = nothing_in n

-- the length of a line that was given; 0 where none was
abbrev pub line_length : Result ℕ Rejection → ℕ
line_length (Ok n) = n
line_length (Err r) = 0
