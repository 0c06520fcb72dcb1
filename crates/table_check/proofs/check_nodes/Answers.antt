-- `check_nodes` meets its contract: the loop asks node after node (Asked).
use Rattle.prelude.proofs.{arith, ◌∙◌}
use Rattle.table.proofs.Asked.{passed-on, asking-none, asking-more, asking-until, asking-all}
use Rattle.table_check.proofs.check_nodes.Goals as goal

pub loop-node-init : goal.loop-node-init
loop-node-init c = asking-none _

pub returns-in_err-next : goal.returns-in_err-next
returns-in_err-next c = passed-on _ _ c.from_residual.ensures.1
    ∙ asking-until _ _ _ (omega arith) c.loop-node.invariant _ c.in_err-next.ensures

pub loop-node-preserved : goal.loop-node-preserved
loop-node-preserved c = asking-more _ _ _ (omega arith) c.loop-node.invariant _ c.in_ok-next.ensures

pub returns : goal.returns
returns c = asking-all _ _ _ (omega arith) c.loop-node.invariant
