-- `drive` gives what the run of tests gives. The measure is the number of nodes without a mark: each test evaluates a
-- leaf.
use Rattle.prelude.proofs.{◌-◌}
use Rattle.table.specs.{frames}
use Rattle.mtdf_visits.specs.{memory_of, SameBuffers}
use Rattle.mtdf.proofs.Runs.{Driving}
use Rattle.mtdf.proofs.drive.Given as goal

abbrev pub invariant-loop-bounds : goal.invariant-loop-bounds
invariant-loop-bounds l =
    record {
      driving : Driving l.table l.guess (memory_of l.fn.bounds) (memory_of l.bounds) l.wish l.tests;
      same_buffers : SameBuffers l.fn.bounds l.bounds;
    }

abbrev pub decreases-loop-bounds : goal.decreases-loop-bounds
decreases-loop-bounds l = frames l.table - l.bounds.evaluations.now.leaves
