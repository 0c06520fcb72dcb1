-- `check_rules` meets its contract: before each node the rules of the nodes behind it hold (Ruling).
use Rattle.prelude.proofs.{arith, ◌≡◌, sym, ap, ◌∙◌, true, Ok}
use Rattle.table_positions.proofs.Positions.{positioned-side}
use Rattle.certificate_check.specs.{rule_holds}
use Rattle.certificate_check.proofs.Ruling.{ruling-none, ruling-until, ruling-within, ruling-more}
use Rattle.certificate_check.proofs.Ruling.{ruling-all}
use Rattle.certificate_check.proofs.check_rules.Goals as goal

pub loop-node-init : goal.loop-node-init
loop-node-init c = ruling-none _ _ _ _ c.requires.0

pub side_at-mover-requires : goal.side_at-mover-requires
side_at-mover-requires c = omega (arith, c.loop-node.invariant.inside, c.requires.2.room)

pub rule_holds-requires : goal.rule_holds-requires
rule_holds-requires c = record {
  well_formed = c.requires.0;
  node_bound =
      (c.loop-node.invariant.inside, c.requires.1);
  mover_value =
      c.side_at-mover.ensures ∙ positioned-side _ _ c.requires.2 _ c.loop-node.invariant.inside;
}

pub returns-then-not-rule_holds : goal.returns-then-not-rule_holds
returns-then-not-rule_holds c = rw c.at.ensures
    (ruling-until _ _ _ _ c.requires.0 _ _ c.loop-node.invariant
    (rw (← c.rule_holds.ensures) (c.if-not-rule_holds.true)))

pub child_count-next-requires : goal.child_count-next-requires
child_count-next-requires c = c.loop-node.invariant.inside

pub overflow_add-next : goal.overflow_add-next
overflow_add-next c =
    -- the rule of the node holds
    let holds : rule_holds c.args.side c.args.table.now c.args.flags.now c.loop-node.node ≡ true =
    sym c.rule_holds.ensures ∙ c.if-not-rule_holds.false in
    let w =
    ruling-within _ _ _ _ c.requires.0 _ _ c.loop-node.invariant holds _ c.child_count-next.ensures.0 in
    omega (arith, c.requires.0.at_most)

pub loop-node-preserved : goal.loop-node-preserved
loop-node-preserved c =
    -- the rule of the node holds
    let holds : rule_holds c.args.side c.args.table.now c.args.flags.now c.loop-node.node ≡ true =
    sym c.rule_holds.ensures ∙ c.if-not-rule_holds.false in
    ruling-more _ _ _ _ c.requires.0 _ _ c.loop-node.invariant holds _ c.child_count-next.ensures.0 (λ e.
    c.if-next-n.false (e ∙ sym c.frame_count-n.ensures))

pub returns-then-next-n : goal.returns-then-next-n
returns-then-next-n c =
    -- the rule of the node holds
    let holds : rule_holds c.args.side c.args.table.now c.args.flags.now c.loop-node.node ≡ true =
    sym c.rule_holds.ensures ∙ c.if-not-rule_holds.false in
    ap Ok c.frame_count-n.ensures
    ∙ ruling-all _ _ _ _ c.requires.0 _ _ c.loop-node.invariant holds _ c.child_count-next.ensures.0
    (c.if-next-n.true ∙ c.frame_count-n.ensures)

pub returns-after-loop-node : goal.returns-after-loop-node
returns-after-loop-node c = absurd (omega (arith, c.loop-node.invariant.inside, c.frame_count-n.ensures))
