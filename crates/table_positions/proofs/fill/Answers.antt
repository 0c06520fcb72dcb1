-- `table_positions::fill` meets its contract: each turn stores the entries of one node's children.
use Rattle.prelude.proofs.{◌≡◌, arith, ap, ◌∙◌}
use Rattle.table.specs.{frames, next}
use Rattle.table_positions.specs.{position_entry}
use Rattle.table_positions.proofs.TopDown.{visit-within, filled-root, filled-all}
use Rattle.table_positions.proofs.Positions.{root-entry, filling_step}
use Rattle.table_positions.proofs.fill.Goals as goal

pub loop-node-init : goal.loop-node-init
loop-node-init c = filled-root c.args.table.now c.requires.well_formed (position_entry c.args.table.now)
    c.args.positions.now _ (c.packed.ensures ∙ root-entry c.args.table.now)
    c.requires.table_in_bounds

pub fill_children-requires-clause-from_le_to : goal.fill_children-requires-clause-from_le_to
fill_children-requires-clause-from_le_to c =
    let v = c.loop-node.invariant.visit in
    let w = visit-within _ v (omega arith) _ c.child_count.ensures.0 c.requires.well_formed in
    (omega arith, w, omega (arith, v.room))

pub loop-node-preserved : goal.loop-node-preserved
loop-node-preserved c =
    filling_step _ c.requires.well_formed c.loop-node.invariant (omega arith) _ c.position_at-position.ensures _
    c.child_count.ensures.0 _ c.fill_children.ensures

pub returns-after-loop-node : goal.returns-after-loop-node
returns-after-loop-node c =
    let t = c.args.table.now in
    let v = c.loop-node.invariant.visit in
    let e : c.loop-node.node ≡ frames t = omega (arith, v.inside) in
    filled-all _ c.requires.well_formed _ c.args.positions.now _ c.loop-node.invariant
    (omega (arith, v.here, ap (next t) e, c.requires.well_formed.total))

pub returns-then-next-n : goal.returns-then-next-n
returns-then-next-n c =
    filled-all _ c.requires.well_formed _ c.args.positions.now _ c.loop-node.invariant (omega arith)
