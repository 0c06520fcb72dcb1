-- What the program prints for a file (SPEC 12.1).
use Rattle.std.specs.Prelude.{ℕ, List, [], ◌∷◌, ◌++◌, map, length}
use Rattle.gametree.specs.Trees.{Tree, least, greatest, minimax}
use Rattle.gametree.specs.Move.{root_move_of}
use Rattle.gametree.specs.AlphaBeta.{reached}
use Rattle.gametree.specs.Mtd as rule
use Rattle.gametree.specs.Sss.{sss as run}
use Rattle.table.specs.Tree.{tree, valuation}
use Rattle.table.specs.Rejection.{unless}
use Rattle.file_line.specs.Lines.{decoded}
use Rattle.file_read.specs.File.{file_rejection}
use Rattle.table.specs.Value.{value_of}
use Rattle.text.specs.Text.{decimal, signed_decimal, space, line_feed, refused_line}

-- "method value move leaves"
abbrev pub heading : List ℕ
heading =
    109 ∷ 101 ∷ 116 ∷ 104 ∷ 111 ∷ 100 ∷ 32 ∷ 118 ∷ 97 ∷ 108 ∷ 117 ∷ 101 ∷ 32 ∷ 109 ∷ 111 ∷ 118 ∷ 101 ∷ 32 ∷ 108 ∷ 101
    ∷ 97 ∷ 118 ∷ 101 ∷ 115 ∷ 10 ∷ []

-- a method's name, the minimax value, the root move and the number of evaluated leaves, with one blank between
abbrev pub method_line : List ℕ → (ℕ → ℕ) → Tree → (evaluated : List ℕ) → List ℕ
method_line name ν x w =
    name
    ++ (space ∷ (signed_decimal (value_of (minimax ν x))
    ++ (space ∷ (decimal (root_move_of ν x) ++ (space ∷ (decimal (length w) ++ (line_feed ∷ [])))))))

-- a heading, then the lines of "ab", "mtd" and "sss"
abbrev pub analysis_on : (ℕ → ℕ) → Tree → List ℕ
analysis_on ν x =
    heading
    ++ (method_line (97 ∷ 98 ∷ []) ν x (reached ν least greatest x)
    ++ (method_line (109 ∷ 116 ∷ 100 ∷ []) ν x (rule.mtd ν x).evaluated
    ++ method_line (115 ∷ 115 ∷ 115 ∷ []) ν x (map (λ e. e.leaf) (run ν x).evaluations)))

-- what the program prints for a file: the analysis of its tree, or the first "no" to questions 1 to 9 and 16
abbrev pub report : List ℕ → List ℕ
report f = unless (file_rejection f) refused_line (analysis_on (valuation (decoded f)) (tree (decoded f)))
