-- `follow` meets its contract: each turn writes one node of the variation (Following).
use Rattle.prelude.proofs.{◌-◌}
use Rattle.table.specs.{frames}
use Rattle.variation.proofs.Following.{Following}
use Rattle.variation.proofs.follow.Given as goal

abbrev pub invariant-loop-child : goal.invariant-loop-child
invariant-loop-child l = Following l.table l.certificate l.initial.line l.node l.length l.line

abbrev pub decreases-loop-child : goal.decreases-loop-child
decreases-loop-child l = frames l.table - l.node
