-- `certificate_bounds::Evaluations::evaluate` meets its contract: fewer leaves are counted than the table has nodes, so
-- that there is an entry for one more.
use Rattle.prelude.proofs.{ap, arith, ◌+◌, set}
use Rattle.certificate_bounds.specs.{progress}
use Rattle.certificate_bounds.proofs.Listing.{next_fits}
use Rattle.certificate_bounds.proofs.Evaluations.evaluate.Goals as goal

pub offset_bounds-self-self : goal.offset_bounds-self-self
offset_bounds-self-self c =
    let l = next_fits _ c.requires.listable c.requires.evaluable in omega (arith, l, c.requires.listable.at_most)

pub bounds-self-self : goal.bounds-self-self
bounds-self-self c =
    let l = next_fits _ c.requires.listable c.requires.evaluable in omega (arith, l, c.requires.listable.room)

pub overflow_add-self : goal.overflow_add-self
overflow_add-self c =
    let l = next_fits _ c.requires.listable c.requires.evaluable in omega (arith, l, c.requires.listable.at_most)

pub returns-clause-progress : goal.returns-clause-progress
unfolding Rattle.certificate_bounds.specs.Marks.mark_all
returns-clause-progress c =
    ap (λ m. progress (c.args.self.now.leaves + 1) m (set c.args.self.now.order.now c.args.self.now.leaves c.args.node))
    c.evaluate-score.ensures.evaluated_after
