-- What holds of the whole table is carried to the entry.
use Rattle.prelude.proofs.{arith}
use Rattle.least_count.proofs.Carried.{carried}
use Rattle.least_count.proofs.entry.Goals as goal

pub returns : goal.returns
returns c =
    carried _ c.whole_table-counts.ensures c.args.width c.args.depth (omega arith) (omega arith) (omega arith)
