-- `certificate_bounds::read_leaf` meets its contract: the depth is the leaf's own, so its score is that of the
-- valuation.
use Rattle.prelude.proofs.{refl, ap, ◌∙◌}
use Rattle.table.specs.{stored_score, leaf_score, valuation}
use Rattle.certificate_bounds.proofs.read_leaf.Goals as goal

pub returns : goal.returns
unfolding valuation
returns c = let e = c.leaf_score.ensures.0 ∙ ap (λ d. leaf_score d (stored_score c.args.table.now c.args.node))
    c.requires.depth_value.0 in
    record { value = (e, c.leaf_score.ensures.1); evaluated_after = refl }
