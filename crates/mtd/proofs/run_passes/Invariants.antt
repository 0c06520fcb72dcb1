-- `run_passes` gives what MTD gives. The measure is the test, which falls with each pass.
use Rattle.gametree.specs.{mtd}
use Rattle.table.specs.{tree, valuation}
use Rattle.mtd_memory.specs.{memory_of, SameArrays}
use Rattle.mtd.proofs.Runs.{Passing}
use Rattle.mtd.proofs.run_passes.Given as goal

abbrev pub invariant-loop-root : goal.invariant-loop-root
invariant-loop-root l =
    Passing l.table (mtd (valuation l.table) (tree l.table))
    (memory_of l.fn.memory) (memory_of l.memory) l.test l.passes
    × SameArrays l.fn.memory l.memory

abbrev pub decreases-loop-root : goal.decreases-loop-root
decreases-loop-root l = l.test
