-- `certificate_bounds::best` meets its contract: from right to left, the value is the best of the entries passed.
use Rattle.prelude.proofs.{arith, ◌≡◌, sym, ◌∙◌}
use Rattle.certificate_bounds.proofs.Ranges.{best-last, best-before}
use Rattle.certificate_bounds.proofs.best.Goals as goal

pub loop-at-init : goal.loop-at-init
loop-at-init c = (omega arith, omega arith, sym (best-last _ _ _ _ (omega arith)))

pub loop-at-preserved : goal.loop-at-preserved
loop-at-preserved c = (
  omega arith,
  omega arith,
  c.better-value.ensures
      ∙ best-before _ _ _ _ _ c.loop-at.invariant.2 (omega arith) (omega arith),
)

pub returns : goal.returns
returns c = let e : c.loop-at.at ≡ c.args.from = omega arith in
    rw e at c.loop-at.invariant.2
