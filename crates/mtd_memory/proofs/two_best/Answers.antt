-- `two_best` meets its contract: the two best of the children that were looked at.
use Rattle.mtd_memory.proofs.two_best.Goals as goal

pub loop-child-preserved : goal.loop-child-preserved
loop-child-preserved c = c.with_child-two.ensures _ c.loop-child.invariant
