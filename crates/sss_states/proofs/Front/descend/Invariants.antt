-- `sss_states::Front::descend` meets its contract: each child is a larger number, so that the steps left are enough.
use Rattle.prelude.proofs.{◌-◌}
use Rattle.table.specs.{frames}
use Rattle.sss_states.proofs.Scans.{Descending}
use Rattle.sss_states.proofs.Front.descend.Given as goal

abbrev pub invariant-loop-child : goal.invariant-loop-child
invariant-loop-child l = Descending l.self.table.now l.self.positions.now l.self.entries.now l.node l.at

abbrev pub decreases-loop-child : goal.decreases-loop-child
decreases-loop-child l = frames l.self.table.now - l.at
