-- `table_positions::fill` meets its contract: each turn stores the entries of one node's children.
use Rattle.table_positions.specs.{position_entry}
use Rattle.table_positions.proofs.TopDown.{Filled}
use Rattle.table_positions.proofs.fill.Given as goal

abbrev pub invariant-loop-node : goal.invariant-loop-node
invariant-loop-node l = Filled l.table (position_entry l.table) l.initial.positions l.positions l.next l.node
