-- `max_turn` and `min_turn` meet their contracts: the turn of a child gives what is due for it, so that the children
-- that are left make of score and marks what the turn is to give.
use Rattle.std.proofs.Common.{◌∙◌, sym, arith}
use Rattle.gametree.specs.declared.Side.TheVariants.{Max, Min}
use Rattle.table.proofs.Next.{child-within}
use Rattle.plain.proofs.Turns.{Gives, leaf-evaluable, leaf-gives, turn-starts, turn-child, inner-left, ready-child}
use Rattle.plain.proofs.Turns.{turn-goes-on, turn-ends}
use Rattle.plain.proofs.+max_turn_min_turn.Goals as goal
use Rattle.plain.proofs.+max_turn_min_turn.Goals.{max_turn-in-Max, max_turn-in-Min}
use Rattle.plain.proofs.+max_turn_min_turn.Goals.{min_turn-in-Max, min_turn-in-Min}

pub max_turn-evaluate-requires : goal.max_turn-evaluate-requires
max_turn-evaluate-requires t c = leaf-evaluable _ _ Max _ _ c.requires _ (omega arith) (omega arith)

pub max_turn-returns-then-count-eq0 : goal.max_turn-returns-then-count-eq0
max_turn-returns-then-count-eq0 t c =
    let e = c.evaluate.ensures in
    let g : Gives c.args.table.now c.args.node c.args.evaluated.now c.evaluate.new.evaluated c.evaluate.result =
    leaf-gives _ _ Max _ _ c.requires _ _ (omega arith) e.value.0 e.evaluated_after in
    record { value = g.0; evaluated_after = g.1 }

pub max_turn-overflow_sub-below : goal.max_turn-overflow_sub-below
max_turn-overflow_sub-below t c = omega (arith, inner-left _ _ Max _ _ c.requires (omega arith))

pub max_turn-loop-child-init : goal.max_turn-loop-child-init
max_turn-loop-child-init t c =
    turn-starts _ _ Max _ _ c.requires _ _ (omega arith) c.first_child-first.ensures.0 (omega arith)

pub max_turn-child_side-requires : goal.max_turn-child_side-requires
max_turn-child_side-requires t c =
    let r = c.requires.searchable in
    child-within _ r.formed r.inside (turn-child c.loop-child.invariant (omega arith))

pub max_turn-max_turn-answer-requires : goal.max_turn-max_turn-answer-requires
max_turn-max_turn-answer-requires t c =
    let i = c.loop-child.invariant in
    let child = turn-child i (omega arith) in (
      omega (arith, inner-left _ _ Max _ _ c.requires (omega arith)),
      ready-child _ _ Max _ _ c.requires _ Max _ child (sym c.in-Max.is ∙ c.child_side.ensures) i.kept
          (i.unvisited _ (omega arith) child),
    )

pub max_turn-min_turn-answer-requires : goal.max_turn-min_turn-answer-requires
max_turn-min_turn-answer-requires t c =
    let i = c.loop-child.invariant in
    let child = turn-child i (omega arith) in (
      omega (arith, inner-left _ _ Max _ _ c.requires (omega arith)),
      ready-child _ _ Max _ _ c.requires _ Min _ child (sym c.in-Min.is ∙ c.child_side.ensures) i.kept
          (i.unvisited _ (omega arith) child),
    )

pub max_turn-loop-child-preserved : goal.max_turn-loop-child-preserved
max_turn-loop-child-preserved t c =
    -- the turn of either side gives what is due for the child
    let given : Gives c.args.table.now c.loop-child.child c.loop-child.evaluated c.match-child_side.evaluated
    c.match-child_side.answer =
    elim c.match-child_side.branch [
      | max_turn-in-Max w ↦ let e = w.max_turn-answer.ensures in
          (w.answer-is ∙ e.value, w.evaluated-is ∙ e.evaluated_after)
      | max_turn-in-Min w ↦ let e = w.min_turn-answer.ensures in
          (w.answer-is ∙ e.value, w.evaluated-is ∙ e.evaluated_after)
    ] in
    turn-goes-on _ _ Max _ _ c.requires _ _ _ c.loop-child.invariant (turn-child c.loop-child.invariant (omega arith))
    _ _ _ given c.max-greatest.ensures

pub max_turn-returns : goal.max_turn-returns
max_turn-returns t c =
    let g : Gives c.args.table.now c.args.node c.args.evaluated.now c.loop-child.evaluated c.loop-child.greatest =
    turn-ends _ _ Max _ _ c.requires _ _ _ c.loop-child.invariant (omega arith) in
    record { value = g.0; evaluated_after = g.1 }

pub min_turn-evaluate-requires : goal.min_turn-evaluate-requires
min_turn-evaluate-requires t c = leaf-evaluable _ _ Min _ _ c.requires _ (omega arith) (omega arith)

pub min_turn-returns-then-count-eq0 : goal.min_turn-returns-then-count-eq0
min_turn-returns-then-count-eq0 t c =
    let e = c.evaluate.ensures in
    let g : Gives c.args.table.now c.args.node c.args.evaluated.now c.evaluate.new.evaluated c.evaluate.result =
    leaf-gives _ _ Min _ _ c.requires _ _ (omega arith) e.value.0 e.evaluated_after in
    record { value = g.0; evaluated_after = g.1 }

pub min_turn-overflow_sub-left_below : goal.min_turn-overflow_sub-left_below
min_turn-overflow_sub-left_below t c = omega (arith, inner-left _ _ Min _ _ c.requires (omega arith))

pub min_turn-loop-child-init : goal.min_turn-loop-child-init
min_turn-loop-child-init t c =
    turn-starts _ _ Min _ _ c.requires _ _ (omega arith) c.first_child-first.ensures.0 (omega arith)

pub min_turn-child_side-requires : goal.min_turn-child_side-requires
min_turn-child_side-requires t c =
    let r = c.requires.searchable in
    child-within _ r.formed r.inside (turn-child c.loop-child.invariant (omega arith))

pub min_turn-max_turn-answer-requires : goal.min_turn-max_turn-answer-requires
min_turn-max_turn-answer-requires t c =
    let i = c.loop-child.invariant in
    let child = turn-child i (omega arith) in (
      omega (arith, inner-left _ _ Min _ _ c.requires (omega arith)),
      ready-child _ _ Min _ _ c.requires _ Max _ child (sym c.in-Max.is ∙ c.child_side.ensures) i.kept
          (i.unvisited _ (omega arith) child),
    )

pub min_turn-min_turn-answer-requires : goal.min_turn-min_turn-answer-requires
min_turn-min_turn-answer-requires t c =
    let i = c.loop-child.invariant in
    let child = turn-child i (omega arith) in (
      omega (arith, inner-left _ _ Min _ _ c.requires (omega arith)),
      ready-child _ _ Min _ _ c.requires _ Min _ child (sym c.in-Min.is ∙ c.child_side.ensures) i.kept
          (i.unvisited _ (omega arith) child),
    )

pub min_turn-loop-child-preserved : goal.min_turn-loop-child-preserved
min_turn-loop-child-preserved t c =
    -- the turn of either side gives what is due for the child
    let given : Gives c.args.table.now c.loop-child.child c.loop-child.evaluated c.match-child_side.evaluated
    c.match-child_side.answer =
    elim c.match-child_side.branch [
      | min_turn-in-Max w ↦ let e = w.max_turn-answer.ensures in
          (w.answer-is ∙ e.value, w.evaluated-is ∙ e.evaluated_after)
      | min_turn-in-Min w ↦ let e = w.min_turn-answer.ensures in
          (w.answer-is ∙ e.value, w.evaluated-is ∙ e.evaluated_after)
    ] in
    turn-goes-on _ _ Min _ _ c.requires _ _ _ c.loop-child.invariant (turn-child c.loop-child.invariant (omega arith))
    _ _ _ given c.min-least.ensures

pub min_turn-returns : goal.min_turn-returns
min_turn-returns t c =
    let g : Gives c.args.table.now c.args.node c.args.evaluated.now c.loop-child.evaluated c.loop-child.least =
    turn-ends _ _ Min _ _ c.requires _ _ _ c.loop-child.invariant (omega arith) in
    record { value = g.0; evaluated_after = g.1 }
