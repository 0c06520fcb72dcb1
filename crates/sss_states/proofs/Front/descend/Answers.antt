-- `sss_states::Front::descend` meets its contract: each child is a larger number, so that the steps left are enough.
use Rattle.sss_states.proofs.Scans.{descend-on, descend-end}
use Rattle.sss_states.proofs.Front.descend.Goals as goal

pub loop-child-preserved : goal.loop-child-preserved
loop-child-preserved c = descend-on c.loop-child.invariant c.in-Some.ensures

pub returns : goal.returns
returns c = descend-end c.loop-child.invariant c.in_default.ensures
