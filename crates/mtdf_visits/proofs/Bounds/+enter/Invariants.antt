-- `Bounds::enter` tests the children of a node, and leaves everything outside its tree as it was. The measure of the
-- recursion is the number of frames after the node, that of the loop the number of children left.
use Rattle.prelude.proofs.{◌-◌}
use Rattle.table.specs.{frames}
use Rattle.mtdf_visits.specs.{memory_of, SameBuffers}
use Rattle.mtdf_visits.proofs.Turns.{Turn}
use Rattle.mtdf_visits.proofs.Bounds.+enter.Given as goal

abbrev pub decreases-enter : goal.decreases-enter
decreases-enter l = frames l.table.now - l.node

abbrev pub invariant-loop-answer : goal.invariant-loop-answer
invariant-loop-answer l =
    record {
      turn : Turn l.table l.side l.test l.first l.end (memory_of l.fn.self) (memory_of l.self) l.child;
      same_buffers : SameBuffers l.fn.self l.self;
    }

abbrev pub decreases-loop-answer : goal.decreases-loop-answer
decreases-loop-answer l = l.end - l.child
