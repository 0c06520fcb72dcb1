-- `sss_turns::rules::of_leaf` meets its contract: the leaf may be evaluated.
use Rattle.prelude.proofs.{arith, ◌∙◌}
use Rattle.table_positions.proofs.Positions.{positioned-few, positioned-depth}
use Rattle.sss_turns.proofs.rules.of_leaf.Goals as goal

pub evaluate-score-requires-clause-evaluable : goal.evaluate-score-requires-clause-evaluable
evaluate-score-requires-clause-evaluable c =
    let r = c.requires in
    let d = c.depth_at.ensures ∙ positioned-depth _ _ r.positioned _ r.node_bound.0 in
    record {
      inside = r.node_bound.0;
      leaf = r.node_bound.1;
      room = r.node_in_bounds.0;
      unmarked = r.node_in_bounds.1;
      depth = d;
      shallow = omega (arith, d, positioned-few _ _ r.positioned _ r.node_bound.0);
    }
