-- `table_positions::fill_children` meets its contract: it stores a run of entries.
use Rattle.table.specs.{child_position}
use Rattle.table_positions.specs.{packed}
use Rattle.table_positions.proofs.Runs.{Run}
use Rattle.table_positions.proofs.fill_children.Given as goal

abbrev pub invariant-loop-child : goal.invariant-loop-child
invariant-loop-child l = Run (λ k. packed l.parent (child_position l.table k l.position)) l.from l.to
    l.initial.positions l.positions l.child
