-- `sss_loop::drive`: what the run has reached, and the turns that are left at most.
use Rattle.table.specs.Frame.{frames}
use Rattle.certificate_bounds.specs.{progress_of, SameBuffers}
use Rattle.sss_states.specs.{SameFront}
use Rattle.sss_loop.proofs.Driving.{fuel, Along}
use Rattle.sss_loop.proofs.drive.Given as goal

abbrev pub invariant-loop-list : goal.invariant-loop-list
invariant-loop-list l =
    Along l.fn.front.table.now l.fn.front.positions.now l.fn.front.entries.now l.fn.list (progress_of l.fn.evaluations)
    l.fn.run (record {
      front = l.front.entries.now;
      list = l.list;
      progress = progress_of l.evaluations;
      run = l.run;
    })
    × SameFront l.fn.front l.front × SameBuffers l.fn.evaluations l.evaluations

abbrev pub decreases-loop-list : goal.decreases-loop-list
decreases-loop-list l = fuel (frames l.fn.front.table.now) l.run
