-- What 02 says of saving a tree (N3): the letters and lines of a written file, and what a call of the writer leaves.
use Rattle.std.specs.Prelude.{ℕ, ◌+◌, ◌*◌, ◌<◌, ◌≡◌, true, List, length, get_or, take, drop}
use Rattle.table.specs.Frame.{frames}
use Rattle.table.specs.Check.{Accepted}
use Rattle.file_hex.specs.Digit.{is_capital_digit}
use Rattle.file_line.specs.Line.{line_digits, line_feed, line_size}
use Rattle.file_write.specs.Encoded.{file_of}
use Rattle.file_write.specs.Write.{write_outcome}

-- every entry is a byte, as in any lent memory
abbrev pub Bytes : List ℕ → Type 0
Bytes t = (k : ℕ) → k < length t → get_or t k 0 < 256

-- n lines of twelve such digits, each closed by a line feed, the last included
pub record InCapitals (f : List ℕ) (n : ℕ) : Type 0 where
  pub size : length f ≡ line_size * n
  pub capitals : (i k : ℕ) → i < n → k < line_digits → is_capital_digit (get_or f (line_size * i + k) 0) ≡ true
  pub closed : (i : ℕ) → i < n → get_or f (line_size * i + line_digits) 0 ≡ line_feed

-- what a call of the writer with the table t and this buffer leaves, where it gives the length n: the file of an
-- accepted table, and past it what the buffer held
pub record Saved (t file : List ℕ) (n : ℕ) : Type 0 where
  pub accepted : Accepted t
  pub size : n ≡ line_size * frames t
  pub front : take n (write_outcome t file).left ≡ file_of t
  pub past : drop n (write_outcome t file).left ≡ drop n file
