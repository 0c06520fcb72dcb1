-- Small files with what the reader gives for them.
use Rattle.table.specs.declared.Rejection.{Rejection}
use Rattle.std.specs.Prelude.{ℕ, List, [], ◌∷◌, Result, Ok, Err}
use Prim.Native.String.{String}
use Rattle.table.specs.Rejection.{Outcome, ◌leaving◌}
use Rattle.file_line.specs.Results.Text.{text}
use Rattle.file_read.specs.File.{read_outcome}

-- a file, the lent table, the reader's answer and the table afterwards
pub record Case : Type 0 where
  pub file : String
  pub table : List ℕ
  pub outcome : Outcome (Result ℕ Rejection) (List ℕ)

-- the case as the definitions have it
abbrev pub computed : Case → Case
computed c = record { file = c.file; table = c.table; outcome = read_outcome (text c.file) c.table }

-- a table of eight bytes
abbrev eight : List ℕ
eight = 9 ∷ 9 ∷ 9 ∷ 9 ∷ 9 ∷ 9 ∷ 9 ∷ 9 ∷ []

-- a file with a single leaf, which has these bytes 4 and 5, read into the eight bytes
abbrev leaf : String → ℕ → ℕ → Case
leaf f high low =
    record { file = f; table = eight; outcome = Ok 1 leaving (0 ∷ 0 ∷ 0 ∷ 0 ∷ high ∷ low ∷ 9 ∷ 9 ∷ []) }

-- a file that is rejected with this number and place
abbrev refused : String → List ℕ → ℕ → ℕ → Case
refused f table q p =
    record { file = f; table = table; outcome = Err (record { number = q; place = p }) leaving table }

-- the cases that proofs/Cases.antt computes
abbrev pub cases : List Case
cases =
    -- one line, with its line feed or without
    leaf "000000000005\n" 0 5
    ∷ leaf "000000000005" 0 5
    ∷ leaf "00000000FFFB\n" 255 251
    -- no byte; a lone line feed; a blank line at the end; CR LF; a digit too few or too many; a letter that is no digit
    ∷ refused "" eight 1 0
    ∷ refused "\n" eight 3 0
    ∷ refused "000000000005\n\n" eight 3 1
    ∷ refused "000000000005\r\n" eight 3 0
    ∷ refused "00000000005\n" eight 3 0
    ∷ refused "0000000000005\n" eight 3 0
    ∷ refused "000000000005\n00000000000g\n" eight 3 1
    -- a lowercase letter; every line is asked 3 before the first is asked 16; the frames are asked after 16, 10 after
    -- all
    ∷ refused "00000000fFFB\n" eight 16 0
    ∷ refused "00000000FFFb" [] 16 0
    ∷ refused "00000000000f\n00000000000g\n" eight 3 1
    ∷ refused "000000010005\n00000000000a\n" eight 16 1
    -- the frames are asked before the lent table
    ∷ refused "000000010005\n" [] 4 0
    ∷ refused "000000000005\n" (9 ∷ 9 ∷ 9 ∷ 9 ∷ 9 ∷ []) 10 0
    ∷ []
