-- `two_best` meets its contract: the two best of the children that were looked at.
use Rattle.mtd_memory.specs.{Best}
use Rattle.mtd_memory.proofs.two_best.Given as goal

abbrev pub invariant-loop-child : goal.invariant-loop-child
invariant-loop-child l = Best l.highs l.first l.child l.two
