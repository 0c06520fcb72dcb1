-- Small tables with what the writer gives for them.
use Rattle.table.specs.declared.Rejection.{Rejection}
use Rattle.std.specs.Prelude.{ℕ, List, [], ◌∷◌, ◌++◌, Result, Ok, Err}
use Prim.Native.String.{String}
use Rattle.file_line.specs.Results.Text.{text}
use Rattle.table.specs.Rejection.{Outcome, ◌leaving◌}
use Rattle.file_write.specs.Write.{write_outcome}

-- a table, the lent buffer, and what the writer answers and leaves there
pub record Writing : Type 0 where
  pub table : List ℕ
  pub buffer : List ℕ
  pub outcome : Outcome (Result ℕ Rejection) (List ℕ)

-- the same as the definitions have it
abbrev pub performed : Writing → Writing
performed w =
    record { table = w.table; buffer = w.buffer; outcome = write_outcome w.table w.buffer }

-- a table of a single leaf with these bytes 4 and 5
abbrev single : ℕ → ℕ → List ℕ
single high low = 0 ∷ 0 ∷ 0 ∷ 0 ∷ high ∷ low ∷ []

-- a table that is written to this file, into a buffer that has two bytes more
abbrev saved : List ℕ → List ℕ → ℕ → String → Writing
saved table buffer length f =
    record {
      table = table;
      buffer = buffer ++ (9 ∷ 9 ∷ []);
      outcome = Ok length leaving (text f ++ (9 ∷ 9 ∷ []));
    }

-- a table that is rejected with this number and place
abbrev unsaved : List ℕ → List ℕ → ℕ → ℕ → Writing
unsaved table buffer q p =
    record { table = table; buffer = buffer; outcome = Err (record { number = q; place = p }) leaving buffer }

-- the tables that proofs/Cases.antt computes
abbrev pub writings : List Writing
writings =
    -- a leaf: figures, letters, and 13 bytes of the buffer
    saved (single 1 35) (text ".............") 13 "000000000123\n"
    ∷ saved (single 255 251) (text ".............") 13 "00000000FFFB\n"
    -- a root with one leaf: each line behind the one before, and the last line feed
    ∷ saved (0 ∷ 1 ∷ 1 ∷ 0 ∷ 0 ∷ 0 ∷ single 0 9) (text "..........................") 26 "000101000000\n000000000009\n"
    -- a byte too few; the table is asked before the buffer
    ∷ unsaved (single 0 5) (text "............") 10 0
    ∷ unsaved [] [] 1 0
    ∷ unsaved (single 0 5 ++ single 0 5) [] 8 2
    ∷ []
