-- What 02 says of converting a file (N7): the questions that are left of the reader's, and what a call leaves.
use Rattle.std.specs.Prelude.{ℕ, ◌*◌, ◌≡◌, List, take, drop}
use Rattle.std.proofs.Math.Option.{Option}
use Rattle.table.specs.declared.Rejection.{Rejection}
use Rattle.table.specs.Frame.{frames}
use Rattle.table.specs.Rejection.{◌and_then◌}
use Rattle.table.specs.Check.{check1, frames_rejection, Accepted}
use Rattle.file_line.specs.Line.{line_size}
use Rattle.file_line.specs.Lines.{decoded}
use Rattle.file_read.specs.File.{file_check2, file_check3}
use Rattle.file_write.specs.Encoded.{file_of}
use Rattle.file_convert.specs.Convert.{convert_outcome}

-- the first "no" to the reader's questions without 16, as the base put them
abbrev pub base_rejection : List ℕ → Option Rejection
base_rejection f = check1 f and_then file_check2 f and_then file_check3 f and_then frames_rejection (decoded f)

-- what a call with the file f and this buffer leaves, where it gives the length n: the file of f's own table, which is
-- accepted, and past it what the buffer held
pub record Converted (f buffer : List ℕ) (n : ℕ) : Type 0 where
  pub accepted : Accepted (decoded f)
  pub size : n ≡ line_size * frames (decoded f)
  pub front : take n (convert_outcome f buffer).left ≡ file_of (decoded f)
  pub past : drop n (convert_outcome f buffer).left ≡ drop n buffer
