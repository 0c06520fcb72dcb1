-- `sss_states::Front::leftmost_best` meets its contract.
use Rattle.prelude.proofs.{arith}
use Rattle.sss_states.proofs.Scans.{first-best}
use Rattle.sss_states.proofs.Front.leftmost_best.Goals as goal

pub returns : goal.returns
returns c = rw (c.unwrap_or.ensures, c.first_from.ensures, c.greatest_entry-greatest.ensures)
    (first-best c.args.self.now.entries.now c.args.first c.args.count (omega arith) (omega arith))
