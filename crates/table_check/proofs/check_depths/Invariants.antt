-- `check_depths` meets its contract: the loop goes down level by level (Levels).
use Rattle.table_check.proofs.Levels.{Descending}
use Rattle.table_check.proofs.check_depths.Given as goal

abbrev pub invariant-loop-node : goal.invariant-loop-node
invariant-loop-node l = Descending l.table l.node l.depth l.end l.next
