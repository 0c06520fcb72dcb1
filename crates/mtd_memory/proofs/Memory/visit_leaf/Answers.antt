-- `visit_leaf` meets its contract: a leaf that is marked already has its score for a high, and any other is evaluated.
use Rattle.prelude.proofs.{refl, sym, ap, ◌∙◌, length, eq-eqb, ne_eqb, length-set}
use Rattle.table.specs.{frames}
use Rattle.certificate_bounds.specs.{ones, Evaluable}
use Rattle.certificate_bounds.proofs.Listing.{next-counted}
use Rattle.mtd_memory.proofs.Arrays.{set_same, leaf-again, same-at-once}
use Rattle.mtd_memory.proofs.Memory.visit_leaf.Goals as goal
use Rattle.mtd_memory.proofs.Memory.visit_leaf.Goals.{then-self-node-ne1, else-self-node-ne1}

pub returns-clause-order_after : goal.returns-clause-order_after
returns-clause-order_after c =
    elim c.if-self-node-ne1.branch [
      | then-self-node-ne1 w ↦ rw (w.self-is, ne_eqb _ _ w.if-self-node-ne1.true) w.evaluate.ensures.progress
      | else-self-node-ne1 w ↦ rw w.self-is (leaf-again _ _ _ _ (eq-eqb _ _ w.if-self-node-ne1.false))
    ]

pub returns-clause-evaluated_after : goal.returns-clause-evaluated_after
unfolding Rattle.certificate_bounds.specs.Marks.mark_all
returns-clause-evaluated_after c =
    elim c.if-self-node-ne1.branch [
      | then-self-node-ne1 w ↦ rw w.self-is (ap (λ p. p.marks) w.evaluate.ensures.progress)
      | else-self-node-ne1 w ↦ rw w.self-is (sym (set_same _ _ 1 w.if-self-node-ne1.false))
    ]

pub returns-clause-leaves_value : goal.returns-clause-leaves_value
unfolding Rattle.certificate_bounds.specs.Marks.mark_all
returns-clause-leaves_value c =
    elim c.if-self-node-ne1.branch [
      | then-self-node-ne1 w ↦ (let leaf-of : Evaluable c.args.table.now c.args.self.now.evaluations.now.marks.now
          c.args.node c.args.depth = record {
            inside = c.requires.node_bound.0;
            leaf = c.requires.node_value.0;
            room = c.requires.node_bound.1;
            unmarked = ne_eqb _ _ w.if-self-node-ne1.true;
            depth = c.requires.node_value.1;
            shallow = c.requires.node_value.2;
          } in
          rw w.self-is
          (ap (λ p. p.leaves) w.evaluate.ensures.progress ∙ next-counted _ c.requires.listable leaf-of
          ∙ ap (λ p. ones p.marks (frames c.args.table.now)) (sym w.evaluate.ensures.progress)))
      | else-self-node-ne1 w ↦ rw w.self-is c.requires.listable.counted
    ]

pub returns-clause-same_arrays : goal.returns-clause-same_arrays
unfolding Rattle.certificate_bounds.specs.Marks.mark_all
returns-clause-same_arrays c =
    elim c.if-self-node-ne1.branch [
      | then-self-node-ne1 w ↦ (let p = w.evaluate.ensures.progress in
          rw w.self-is (record {
            evaluations = refl;
            buffers = w.evaluate.ensures.same_buffers;
            highs = refl;
            not_below = refl;
            long = record {
              evaluated = ap (λ x. length x.marks) p ∙ length-set _ _ _;
              order = ap (λ x. length x.order) p ∙ length-set _ _ _;
              highs = length-set _ _ _;
              not_below = refl;
            };
          }))
      | else-self-node-ne1 w ↦ rw w.self-is (same-at-once _)
    ]
