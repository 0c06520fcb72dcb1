-- The lines of a file, and the bytes that they stand for.
use Rattle.std.specs.Prelude.{ℕ, Bool, true, false, List, [], ◌∷◌, ◌++◌, eqb}
use Rattle.file_line.specs.Line.{line_feed, bytes_of}

-- a byte in front of these lines: a line feed makes an empty line before them, any other byte joins the first of them
abbrev pub put_before : Bool → ℕ → List (List ℕ) → List (List ℕ)
put_before true b ls = [] ∷ ls
put_before false b [] = (b ∷ []) ∷ []
put_before false b (l ∷ ls) = (b ∷ l) ∷ ls

-- the lines of a file, each closed by a line feed; the last line feed may be missing
unfoldable pub lines_of : List ℕ → List (List ℕ)
lines_of [] = []
lines_of (b ∷ f) = put_before (eqb b line_feed) b (lines_of f)

-- the bytes of lines, in order
unfoldable pub decode : List (List ℕ) → List ℕ
decode [] = []
decode (l ∷ ls) = bytes_of l ++ decode ls

-- the table that a file holds
abbrev pub decoded : List ℕ → List ℕ
decoded f = decode (lines_of f)
