-- `enter` does what the pass does at an open node, and leaves everything outside its tree as it was. The measure of the
-- recursion is the number of frames after the node, that of the loop the number of children left.
use Rattle.prelude.proofs.{◌-◌}
use Rattle.table.specs.{frames}
use Rattle.mtd_memory.specs.{memory_of, SameArrays}
use Rattle.mtd_memory.proofs.Turns.{PassLoop}
use Rattle.mtd_memory.proofs.Skips.{Trying}
use Rattle.mtd.proofs.+enter.Given as goal

abbrev pub decreases-enter : goal.decreases-enter
decreases-enter l = frames l.table.now - l.node

abbrev pub invariant-loop-next : goal.invariant-loop-next
invariant-loop-next l =
    let m = memory_of l.fn.memory in
    let m' = memory_of l.memory in
    PassLoop l.table l.side l.test l.first l.end m m' l.child
    × Trying l.first l.end l.tries m m' l.child × SameArrays l.fn.memory l.memory

abbrev pub decreases-loop-next : goal.decreases-loop-next
decreases-loop-next l = l.end - l.child
