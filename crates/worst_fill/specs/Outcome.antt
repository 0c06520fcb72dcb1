-- The call: questions 1 to 9, its answer, and what it leaves in the lent table.
use Rattle.table.specs.declared.Rejection.{Rejection}
use Rattle.std.specs.Prelude.{ℕ, List, length, Result, Ok, Err}
use Rattle.gametree.specs.Trees.{leaves}
use Rattle.table.specs.Tree.{tree}
use Rattle.table.specs.Rejection.{unless, Outcome, ◌leaving◌}
use Rattle.table.specs.Check.{rejection}
use Rattle.worst_fill.specs.Ranks.{worst_fill}

-- the outcome of a call with the table t: the number of leaves, and the worst-case filling; on a "no" to questions 1 to
-- 9 the table as it was
abbrev pub fill_outcome : List ℕ → Outcome (Result ℕ Rejection) (List ℕ)
fill_outcome t =
    unless (rejection t) (λ r. Err r leaving t) (Ok (length (leaves (tree t))) leaving worst_fill t)
