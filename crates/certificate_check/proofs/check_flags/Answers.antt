-- `check_flags` meets its contract: before each node the flags behind it are in range.
use Rattle.prelude.proofs.{arith, ap, ◌∙◌, le-leb, lt-leb, Ok, Err}
use Rattle.certificate_check.proofs.Asking.{asking-none, asking-more, asking-until, asking-all}
use Rattle.certificate_check.proofs.check_flags.Goals as goal

pub loop-node-init : goal.loop-node-init
loop-node-init c = asking-none _ _ _

pub returns-then-flags-node-gt-IN_BOTH : goal.returns-then-flags-node-gt-IN_BOTH
returns-then-flags-node-gt-IN_BOTH c = ap Err c.at.ensures
    ∙ asking-until _ _ _ _ c.loop-node.invariant (omega arith) (lt-leb _ _ c.if-flags-node-gt-IN_BOTH.true)

pub loop-node-preserved : goal.loop-node-preserved
loop-node-preserved c = asking-more _ _ _ _ c.loop-node.invariant (omega arith)
    (le-leb _ _ c.if-flags-node-gt-IN_BOTH.false)

pub returns : goal.returns
returns c = ap Ok c.frame_count-n.ensures ∙ asking-all _ _ _ _ c.loop-node.invariant (omega arith)
