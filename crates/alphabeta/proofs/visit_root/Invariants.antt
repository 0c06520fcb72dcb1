-- The invariant of `visit_root`'s loop, `RootTurn`: the children that are left complete what the tree was to give, and
-- end with the root move.
use Rattle.alphabeta.proofs.Root.{RootTurn}
use Rattle.alphabeta.proofs.visit_root.Given as goal

abbrev pub invariant-loop-child : goal.invariant-loop-child
invariant-loop-child l =
    RootTurn l.table l.initial.evaluations l.count l.evaluations l.alpha l.root_move l.child
