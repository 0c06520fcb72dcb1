-- The measures and the invariant of `alpha_beta`. The number of frames from the node on falls with each call; at the
-- head of the loop stands `VisitLoop`: the children that are left complete what the node was to give, and their trees
-- are without a mark.
use Rattle.std.proofs.Common.{◌-◌}
use Rattle.table.specs.{frames}
use Rattle.alphabeta_visits.proofs.Visits.{VisitLoop}
use Rattle.alphabeta_visits.proofs.+alpha_beta.Given as goal

abbrev pub decreases-alpha_beta : goal.decreases-alpha_beta
decreases-alpha_beta l = frames l.table.now - l.node

abbrev pub invariant-loop-evaluations : goal.invariant-loop-evaluations
invariant-loop-evaluations l =
    VisitLoop l.table l.node l.position l.initial.window l.initial.evaluations l.last l.evaluations l.window l.child

abbrev pub decreases-loop-evaluations : goal.decreases-loop-evaluations
decreases-loop-evaluations l = l.last - l.child
