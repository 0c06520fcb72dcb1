-- What SPEC 2 says of a file, clause by clause. Acceptance.antt shows that the questions ask exactly this.
use Rattle.std.specs.Prelude.{ℕ, ◌<◌, ◌≡◌, true, List, [], length, get_or}
use Rattle.table.specs.Results.Stated.{TableAsStated}
use Rattle.file_hex.specs.Digit.{is_capital_digit}
use Rattle.file_line.specs.Line.{line_digits}
use Rattle.file_line.specs.Lines.{lines_of, decoded}

-- a line is twelve hexadecimal digits, its letters capitals
pub record LineAsStated (l : List ℕ) : Type 0 where
  pub twelve : length l ≡ line_digits
  pub digits : (k : ℕ) → k < line_digits → is_capital_digit (get_or l k 0) ≡ true

-- the lines of a file are as stated, and so is the table that they hold
pub record FileAsStated (f : List ℕ) : Type 0 where
  pub line : (i : ℕ) → i < length (lines_of f) → LineAsStated (get_or (lines_of f) i [])
  pub table : TableAsStated (decoded f)
