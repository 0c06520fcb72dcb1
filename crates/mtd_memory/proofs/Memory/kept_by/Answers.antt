-- `kept_by` meets its contract, by the side.
use Rattle.mtd_memory.proofs.Memory.kept_by.Goals as goal

pub returns-in-Max : goal.returns-in-Max
returns-in-Max c = rw c.in-Max.is (c.kept_by_max.ensures c.args.child)
