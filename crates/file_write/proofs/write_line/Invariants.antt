-- Each turn lays the two digits of a byte behind the ones before.
use Rattle.file_write.proofs.Laying.{Laying}
use Rattle.file_write.proofs.write_line.Given as goal

abbrev pub invariant-loop-k : goal.invariant-loop-k
invariant-loop-k l = Laying l.frame l.fn.file l.file l.k
