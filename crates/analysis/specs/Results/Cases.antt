-- Files with what the program prints for them, as text.
use Prim.Native.String.{String}
use Rattle.std.specs.Prelude.{List, [], ◌∷◌, ℕ}
use Rattle.file_line.specs.Results.Text.{text}
use Rattle.analysis.specs.Report.{report}

pub record Case : Type 0 where
  pub file : String
  pub prints : String

-- what is printed by the definitions, and what is to be printed
abbrev pub computed : Case → List ℕ
computed c = report (text c.file)

abbrev pub expected : Case → List ℕ
expected c = text c.prints

-- the example of SPEC 12.1; a root that is a leaf of -5, and in lowercase letters; a file of one line feed; no byte
abbrev pub cases : List Case
cases =
    record {
      file = "000102000000\n000302000000\n000502000000\n000000000001\n000000000002\n000000000003\n000000000004\n";
      prints = "method value move leaves\nab 3 2 4\nmtd 3 2 3\nsss 3 2 3\n";
    }
    ∷ record { file = "00000000FFFB\n"; prints = "method value move leaves\nab -5 0 1\nmtd -5 0 1\nsss -5 0 1\n" }
    ∷ record { file = "00000000fffb\n"; prints = "refused 16 0\n" }
    ∷ record { file = "\n"; prints = "refused 3 0\n" }
    ∷ record { file = ""; prints = "refused 1 0\n" }
    ∷ []
