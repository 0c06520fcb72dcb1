-- `sss_states::Front::refresh_ancestors` meets its contract: what is still to be done stays the same.
use Rattle.sss_states.specs.{SameFront}
use Rattle.sss_states.proofs.Risings.{Falling}
use Rattle.sss_states.proofs.Front.refresh_ancestors.Given as goal

abbrev pub invariant-loop-self : goal.invariant-loop-self
invariant-loop-self l =
    Falling l.initial.self.table.now l.initial.self.positions.now l.merit l.initial.self.entries.now l.node
    l.self.entries.now l.at × SameFront l.initial.self l.self

abbrev pub decreases-loop-self : goal.decreases-loop-self
decreases-loop-self l = l.at
