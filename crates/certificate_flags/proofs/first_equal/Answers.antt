-- `certificate_flags::first_equal` meets its contract: what is left to be searched gives what all of it was to give.
use Rattle.prelude.proofs.{arith, refl, sym, ◌∙◌}
use Rattle.certificate_flags.proofs.Chosen.{first-here, first-later, first-none}
use Rattle.certificate_flags.proofs.first_equal.Goals as goal

pub loop-node-init : goal.loop-node-init
loop-node-init c = (omega arith, refl)

pub returns-then-bounds-node : goal.returns-then-bounds-node
returns-then-bounds-node c = sym (first-here _ _ _ _ (omega arith) c.if-bounds-node.true) ∙ c.loop-node.invariant.1

pub loop-node-preserved : goal.loop-node-preserved
loop-node-preserved c = (
  omega arith,
  first-later _ _ _ _ (omega arith) c.if-bounds-node.false
      ∙ c.loop-node.invariant.1,
)

pub returns : goal.returns
returns c = sym (first-none _ _ _ _ (omega arith)) ∙ c.loop-node.invariant.1
