-- `check_depths` meets its contract: the loop goes down level by level (Levels).
use Rattle.prelude.proofs.{Err}
use Rattle.prelude.proofs.{◌<◌, ◌≡◌, arith, sym, ap, ◌∙◌, Ok}
use Rattle.table.specs.{max_depth, frames, next}
use Rattle.table_check.proofs.Levels.{descending-none, descending-more, descending-until}
use Rattle.table_check.proofs.Levels.{descending-all}
use Rattle.table_check.proofs.Levels.{some-left, Standing, enters, stays, counts-within}
use Rattle.table_check.proofs.check_depths.Goals as goal
use Rattle.table_check.proofs.check_depths.Goals.{then-node-end+else-depth-eq-MAX_DEPTH, else-node-end}

pub loop-node-init : goal.loop-node-init
loop-node-init c = descending-none _

pub overflow_add-depth : goal.overflow_add-depth
overflow_add-depth c = omega (arith, c.loop-node.invariant.shallow)

pub returns-then-depth-eq-MAX_DEPTH : goal.returns-then-depth-eq-MAX_DEPTH
returns-then-depth-eq-MAX_DEPTH c =
    -- some node is not known yet
    let open-yet : c.loop-node.next < frames c.args.table.now =
    some-left _ c.requires c.loop-node.invariant (λ e. c.if-next-n.false (e ∙ sym c.frame_count-n.ensures)) in
    ap Err c.at.ensures
    ∙ descending-until _ c.requires _ _ _ _ c.loop-node.invariant open-yet c.if-node-end.true
    c.if-depth-eq-MAX_DEPTH.true

pub overflow_add-next : goal.overflow_add-next
overflow_add-next c =
    -- some node is not known yet
    let open-yet : c.loop-node.next < frames c.args.table.now =
    some-left _ c.requires c.loop-node.invariant (λ e. c.if-next-n.false (e ∙ sym c.frame_count-n.ensures)) in
    omega (
      arith,
      counts-within c.args.table.now c.requires _ _ _ _ c.loop-node.invariant open-yet
          c.child_count-next.result c.child_count-next.ensures.0,
    )

pub loop-node-preserved : goal.loop-node-preserved
loop-node-preserved c =
    -- some node is not known yet
    let open-yet : c.loop-node.next < frames c.args.table.now =
    some-left _ c.requires c.loop-node.invariant (λ e. c.if-next-n.false (e ∙ sym c.frame_count-n.ensures)) in
    -- after the first branch the node stands on the level of the depth that is kept, which is not the last one allowed
    let standing : Standing c.args.table.now c.loop-node.node c.if-node-end.depth c.if-node-end.end
    × (c.if-node-end.depth < max_depth) = elim c.if-node-end.branch [
      | then-node-end+else-depth-eq-MAX_DEPTH w ↦
          rw (w.depth-is, w.end-is)
          (enters _ c.requires _ _ _ _ c.loop-node.invariant open-yet w.if-node-end.true, omega arith)
      | else-node-end w ↦ rw (w.depth-is, w.end-is)
          (stays _ c.requires _ _ _ _ c.loop-node.invariant open-yet w.if-node-end.false, c.loop-node.invariant.shallow)
    ] in
    let s = standing in
    descending-more _ c.requires _ _ _ _ c.loop-node.invariant open-yet _ _ s.0 _
    c.child_count-next.ensures.0 s.1

pub returns-after-loop-node : goal.returns-after-loop-node
returns-after-loop-node c =
    let t = c.args.table.now in
    let d = c.loop-node.invariant in
    let e : c.loop-node.node ≡ frames t = omega (arith, d.within) in
    ap Ok c.frame_count-n.ensures
    ∙ descending-all _ c.requires _ _ _ _ d (omega (arith, d.counted, ap (next t) e, c.requires.total))

pub returns-then-next-n : goal.returns-then-next-n
returns-then-next-n c = ap Ok c.frame_count-n.ensures
    ∙ descending-all _ c.requires _ _ _ _ c.loop-node.invariant (omega arith)
