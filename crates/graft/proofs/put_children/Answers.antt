-- `graft::put_children` meets its contract: each turn queues one source more.
use Rattle.prelude.proofs.{arith}
use Rattle.graft.proofs.Queue.{queued-more}
use Rattle.graft.proofs.put_children.Goals as goal

pub loop-c-preserved : goal.loop-c-preserved
loop-c-preserved c = (
  omega arith,
  queued-more _ _ c.loop-c.invariant.1 _ c.replaced.ensures.0 _ c.put_first_child.ensures
      (omega (arith, c.loop-c.invariant.1.long)),
)
