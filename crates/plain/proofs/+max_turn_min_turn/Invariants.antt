-- The measures and the invariants of `max_turn` and `min_turn`. The remaining depth falls with each call. At the head
-- of either loop stands `TurnLoop`: the children that are left make of score and marks what the turn is to give, and
-- their trees are without a mark.
use Rattle.gametree.specs.declared.Side.TheVariants.{Max, Min}
use Rattle.plain.proofs.Turns.{TurnLoop}
use Rattle.plain.proofs.+max_turn_min_turn.Given as goal

abbrev pub decreases-max_turn : goal.decreases-max_turn
decreases-max_turn l = l.left

abbrev pub decreases-min_turn : goal.decreases-min_turn
decreases-min_turn l = l.left

abbrev pub invariant-max_turn-loop-child : goal.invariant-max_turn-loop-child
invariant-max_turn-loop-child l = TurnLoop l.table Max l.node l.initial.evaluated l.evaluated l.greatest l.child

abbrev pub invariant-min_turn-loop-child : goal.invariant-min_turn-loop-child
invariant-min_turn-loop-child l = TurnLoop l.table Min l.node l.initial.evaluated l.evaluated l.least l.child
