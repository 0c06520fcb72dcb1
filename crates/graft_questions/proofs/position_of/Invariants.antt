-- `graft_questions::position_of` meets its contract: each turn goes up to a parent, or passes one node that is not it.
use Rattle.graft_questions.proofs.Ascent.{Climb}
use Rattle.graft_questions.proofs.position_of.Given as goal

abbrev pub invariant-loop-candidate : goal.invariant-loop-candidate
invariant-loop-candidate l = Climb l.table l.node l.position l.ancestor l.candidate
