-- The number of frames from the node on falls with each call; at the head of the loop stands `RankLoop`: the turns that
-- are left make of the next rank and the table what is due.
use Rattle.prelude.proofs.{◌-◌}
use Rattle.table.specs.{frames}
use Rattle.worst_fill.proofs.Nodes.{RankLoop}
use Rattle.worst_fill.proofs.+fill_node.Given as goal

abbrev pub decreases-fill_node : goal.decreases-fill_node
decreases-fill_node l = frames l.table.now - l.node

abbrev pub invariant-loop-turn : goal.invariant-loop-turn
invariant-loop-turn l = RankLoop l.fn.table l.node l.mover l.rank l.first l.count l.table l.next l.turn
