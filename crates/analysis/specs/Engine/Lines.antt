-- The analysis of an accepted table in parts, as the code lays them down.
use Rattle.std.specs.Prelude.{ℕ, List, [], ◌∷◌, ◌++◌}
use Rattle.std.specs.List.{flat_map}
use Rattle.table.specs.Frame.{max_nodes}
use Rattle.text.specs.Text.{decimal, signed_decimal, space, line_feed}
use Rattle.methods.specs.declared.Method.{Method}
use Rattle.methods.specs.declared.Method.TheVariants.{AlphaBeta, Mtd, Sss}
use Rattle.methods.specs.declared.Findings.{Findings}
use Rattle.methods.specs.declared.Answer.{Answer}
use Rattle.methods.specs.declared.Answer.TheVariants.{Found, Spent, Rejected}
use Rattle.methods.specs.Outcome.{findings_by}
use Rattle.analysis.specs.Report.{heading}

-- the line of what was found
abbrev pub findings_line : List ℕ → Findings → List ℕ
findings_line name f =
    name
    ++ (space ∷ (signed_decimal f.value
    ++ (space ∷ (decimal f.root_move ++ (space ∷ (decimal f.leaves ++ (line_feed ∷ [])))))))

-- the line of an answer, where something was found
abbrev pub answer_line : List ℕ → Answer → List ℕ
answer_line name (Found f) = findings_line name f
answer_line name (Spent s) = []
answer_line name (Rejected r) = []

-- the line of what a method finds
unfoldable pub line_by : List ℕ → Method → List ℕ → List ℕ
line_by name m t = findings_line name (findings_by m t)

-- the methods with their names: SSS* has an allowance that no tree exceeds
abbrev pub methods : List (List ℕ × Method)
methods =
    (97 ∷ 98 ∷ [], AlphaBeta) ∷ (109 ∷ 116 ∷ 100 ∷ [], Mtd) ∷ (115 ∷ 115 ∷ 115 ∷ [], Sss max_nodes) ∷ []

-- the lines of methods, one behind the other
abbrev pub lines : List ℕ → List (List ℕ × Method) → List ℕ
lines t ms = flat_map (λ (name, m). line_by name m t) ms

-- a heading, then the line of each method
abbrev pub analysis : List ℕ → List ℕ
analysis t = heading ++ lines t methods
