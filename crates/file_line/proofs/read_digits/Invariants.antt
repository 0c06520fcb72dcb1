-- Each turn reads one digit more.
use Rattle.file_line.specs.Engine.Numbered.{Numbered}
use Rattle.file_line.proofs.read_digits.Given as goal

abbrev pub invariant-loop-k : goal.invariant-loop-k
invariant-loop-k l = Numbered l.digits l.numbers l.others l.k
