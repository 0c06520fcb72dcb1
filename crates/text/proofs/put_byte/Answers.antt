-- A byte stored is a byte laid.
use Rattle.prelude.proofs.{refl, arith}
use Rattle.text.proofs.Laying.{laid_one}
use Rattle.text.proofs.put_byte.Goals as goal

pub returns : goal.returns
returns c = record { behind = refl; text = laid_one c.args.at c.args.byte c.args.text.now (omega arith) }
