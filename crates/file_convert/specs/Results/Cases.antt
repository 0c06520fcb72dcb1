-- Small files with what the converter gives for them.
use Rattle.table.specs.declared.Rejection.{Rejection}
use Rattle.std.specs.Prelude.{ℕ, List, [], ◌∷◌, ◌++◌, Result, Ok, Err}
use Prim.Native.String.{String}
use Rattle.file_line.specs.Results.Text.{text}
use Rattle.table.specs.Rejection.{Outcome, ◌leaving◌}
use Rattle.file_convert.specs.Convert.{convert_outcome}

-- a file, the lent buffer, and what the converter answers and leaves there
pub record Case : Type 0 where
  pub file : String
  pub buffer : String
  pub outcome : Outcome (Result ℕ Rejection) (List ℕ)

-- the case as the definitions have it
abbrev pub computed : Case → Case
computed c =
    record { file = c.file; buffer = c.buffer; outcome = convert_outcome (text c.file) (text c.buffer) }

-- a file that is converted to this one, into a buffer of two bytes more
abbrev converted : String → ℕ → String → Case
converted f length new =
    record { file = f; buffer = "..............."; outcome = Ok length leaving (text new ++ text "..") }

-- a file that is still rejected, with this number and place
abbrev refused : String → String → ℕ → ℕ → Case
refused f buffer q p =
    record { file = f; buffer = buffer; outcome = Err (record { number = q; place = p }) leaving text buffer }

-- the cases that proofs/Cases.antt computes
abbrev pub cases : List Case
cases =
    -- either letter case; a missing line feed is supplied
    converted "00000000fFfb\n" 13 "00000000FFFB\n"
    ∷ converted "00000000FFFB" 13 "00000000FFFB\n"
    -- no byte; a letter past f is not lifted; a wrong byte 3; a buffer that is a byte too short
    ∷ refused "" "..." 1 0
    ∷ refused "00000000000g\n" "..." 3 0
    ∷ refused "0000000a0005\n" "..." 4 0
    ∷ refused "00000000fffb\n" "............" 10 0
    ∷ []
