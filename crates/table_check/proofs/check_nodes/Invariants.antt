-- `check_nodes` meets its contract: the loop asks node after node (Asked).
use Rattle.table.proofs.Asked.{Asking}
use Rattle.table_check.proofs.check_nodes.Given as goal

abbrev pub invariant-loop-node : goal.invariant-loop-node
invariant-loop-node l = Asking l.table l.node l.next
