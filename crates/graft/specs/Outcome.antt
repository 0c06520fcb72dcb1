-- A graft: its answer, and what it leaves in the lent buffer.
use Rattle.table.specs.declared.Rejection.{Rejection}
use Rattle.std.specs.Prelude.{ℕ, ◌*◌, List, ◌++◌, length, drop, Result, Ok, Err}
use Rattle.table.specs.Frame.{frame_size}
use Rattle.table.specs.Rejection.{unless, Outcome, ◌leaving◌}
use Rattle.graft_questions.specs.Questions.{graft_size, graft_rejection}
use Rattle.graft.specs.Table.{graft_table}

-- the outcome of a call with the first table, the named node, the second table and a buffer: the grafted table at the
-- buffer's front, with what it held past the table; on a "no" the buffer as it was
abbrev pub graft_outcome : (t : List ℕ) (k : ℕ) (u b : List ℕ) → Outcome (Result ℕ Rejection) (List ℕ)
graft_outcome t k u b =
    unless (graft_rejection t k u (length b)) (λ r. Err r leaving b)
    (Ok (graft_size t u) leaving (graft_table t k u ++ drop (frame_size * graft_size t u) b))
