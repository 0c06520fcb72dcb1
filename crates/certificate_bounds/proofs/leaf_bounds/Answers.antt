-- `certificate_bounds::leaf_bounds` meets its contract: only a marked leaf is read, so no mark changes.
use Rattle.prelude.proofs.{refl, ◌∙◌}
use Rattle.certificate_bounds.proofs.Bounds.{bounds-marked, bounds-unmarked, mark-again}
use Rattle.certificate_bounds.proofs.leaf_bounds.Goals as goal

pub returns-then-evaluated-node-eq1 : goal.returns-then-evaluated-node-eq1
returns-then-evaluated-node-eq1 c = record {
  value = bounds-marked c.args.table.now c.args.evaluated.now c.args.node _
      c.if-evaluated-node-eq1.true c.read_leaf-score.ensures.value.0;
  evaluated_unchanged =
      c.read_leaf-score.ensures.evaluated_after ∙ mark-again c.args.evaluated.now c.args.node
      c.if-evaluated-node-eq1.true;
}

pub returns-else-evaluated-node-eq1 : goal.returns-else-evaluated-node-eq1
returns-else-evaluated-node-eq1 c = record {
  value = bounds-unmarked c.args.table.now c.args.evaluated.now c.args.node
      c.if-evaluated-node-eq1.false;
  evaluated_unchanged = refl;
}
