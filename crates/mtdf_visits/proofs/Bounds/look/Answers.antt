-- `Bounds::look` meets its contract: a node is answered by its bounds, or is open, or is a leaf and evaluated.
use Rattle.prelude.proofs.{arith, ◌≡◌, ap, ◌∙◌, length, length-set}
use Rattle.table.specs.{child_count}
use Rattle.certificate_bounds.proofs.Marking.{mark_all-length}
use Rattle.mtdf_visits.specs.{memory_of}
use Rattle.mtdf_visits.proofs.Visits.{leaf-evaluable, visit-below, visit-not-below, visit-leaf}
use Rattle.mtdf_visits.proofs.Bounds.look.Goals as goal

pub returns-then-self-node-clause-looked : goal.returns-then-self-node-clause-looked
returns-then-self-node-clause-looked c = visit-below c.requires c.if-self-node.true

pub returns-then-test-self-clause-looked : goal.returns-then-test-self-clause-looked
returns-then-test-self-clause-looked c =
    visit-not-below c.requires c.if-self-node.false (omega (arith, c.if-test-self.true))

pub evaluate_leaf-score-requires-clause-evaluable : goal.evaluate_leaf-score-requires-clause-evaluable
evaluate_leaf-score-requires-clause-evaluable c =
    let none : child_count c.args.table.now c.args.node ≡ 0 =
    omega (arith, c.if-child_count-ne0.false, c.child_count.ensures.0) in
    leaf-evaluable c.requires none c.if-self-node.false c.if-test-self.false

pub returns-clause-looked : goal.returns-clause-looked
returns-clause-looked c =
    let none : child_count c.args.table.now c.args.node ≡ 0 =
    omega (arith, c.if-child_count-ne0.false, c.child_count.ensures.0) in
    let e = c.evaluate_leaf-score.ensures in
    visit-leaf c.requires none c.if-self-node.false c.if-test-self.false (memory_of c.evaluate_leaf-score.new.self)
    c.evaluate_leaf-score.result e.value e.progress e.lows_after e.highs_after

pub returns-clause-same_lengths : goal.returns-clause-same_lengths
returns-clause-same_lengths c =
    let e = c.evaluate_leaf-score.ensures in
    record {
      evaluated = ap (λ p. length p.marks) e.progress ∙ mark_all-length _ _;
      order = ap (λ p. length p.order) e.progress ∙ length-set _ _ _;
      lows = ap length e.lows_after ∙ length-set _ _ _;
      highs = ap length e.highs_after ∙ length-set _ _ _;
    }
