-- `certificate_flags::write_flags` meets its contract: each turn stores the flags of one node's children.
use Rattle.prelude.proofs.{◌+◌, ◌≤◌, ◌<◌, ◌≡◌, arith, sym, ap, length-set}
use Rattle.table.specs.{frames, next}
use Rattle.table_positions.proofs.TopDown.{visit-root, visit-within, visit-step}
use Rattle.table_positions.proofs.TopDown.{filled-root, filled-all}
use Rattle.certificate_flags.proofs.Flags.{flags-step}
use Rattle.certificate_flags.proofs.write_flags.Goals as goal

pub bounds-certificate-0 : goal.bounds-certificate-0
bounds-certificate-0 c = omega (arith, c.requires.well_formed.non_empty)

pub loop-node-init : goal.loop-node-init
loop-node-init c = (
  visit-root c.args.table.now (omega (arith, length-set c.args.certificate.now 0 3)),
  λ f r. filled-root c.args.table.now c.requires.well_formed f c.args.certificate.now 3 (sym r.at_root)
      c.requires.table_in_bounds_2.1,
)

pub overflow_add-end : goal.overflow_add-end
overflow_add-end c =
    let inside : c.loop-node.node < frames c.args.table.now = omega arith in
    -- and its children lie within the table
    let within : c.loop-node.next + c.child_count.result ≤ frames c.args.table.now =
    visit-within _ c.loop-node.invariant.0 inside _ c.child_count.ensures.0 c.requires.well_formed in
    omega (arith, within, c.requires.well_formed.at_most)

pub chosen_if_needed-chosen-requires : goal.chosen_if_needed-chosen-requires
chosen_if_needed-chosen-requires c =
    let inside : c.loop-node.node < frames c.args.table.now = omega arith in
    -- and its children lie within the table
    let within : c.loop-node.next + c.child_count.result ≤ frames c.args.table.now =
    visit-within _ c.loop-node.invariant.0 inside _ c.child_count.ensures.0 c.requires.well_formed in
    let w = within in
    let h = inside in
    record {
      node_in_bounds = (omega arith, omega arith, omega arith);
      from_le_to =
          (omega arith, omega arith, omega arith);
    }

pub flag_children-requires : goal.flag_children-requires
flag_children-requires c =
    let inside : c.loop-node.node < frames c.args.table.now = omega arith in
    -- and its children lie within the table
    let within : c.loop-node.next + c.child_count.result ≤ frames c.args.table.now =
    visit-within _ c.loop-node.invariant.0 inside _ c.child_count.ensures.0 c.requires.well_formed in
    (omega arith, omega (arith, within, c.loop-node.invariant.0.room))

pub loop-node-preserved : goal.loop-node-preserved
loop-node-preserved c =
    -- a turn has a node to visit
    let inside : c.loop-node.node < frames c.args.table.now = omega arith in (
      visit-step _ c.loop-node.invariant.0 inside _ c.child_count.ensures.0 _ _ c.flag_children.ensures,
      λ f r. flags-step _ c.requires.well_formed _ _ _ f r (c.loop-node.invariant.1 f r) inside _
          c.child_count.ensures.0
          c.side_at.ensures _ _ c.movers_flag-others.ensures c.chosen_if_needed-chosen.ensures _
          c.flag_children.ensures,
    )

pub returns-after-loop-node : goal.returns-after-loop-node
returns-after-loop-node c = λ f r.
    let t = c.args.table.now in
    let v = c.loop-node.invariant.0 in
    let e : c.loop-node.node ≡ frames t = omega (arith, v.inside) in
    filled-all _ c.requires.well_formed f c.args.certificate.now 3 (c.loop-node.invariant.1 f r)
    (omega (arith, v.here, ap (next t) e, c.requires.well_formed.total))

pub returns-then-next-n : goal.returns-then-next-n
returns-then-next-n c = λ f r.
    filled-all _ c.requires.well_formed f c.args.certificate.now 3 (c.loop-node.invariant.1 f r) (omega arith)
