-- `check_rules` meets its contract: before each node the rules of the nodes behind it hold (Ruling).
use Rattle.table.specs.{number_of}
use Rattle.certificate_check.proofs.Ruling.{Ruling}
use Rattle.certificate_check.proofs.check_rules.Given as goal

abbrev pub invariant-loop-node : goal.invariant-loop-node
invariant-loop-node l = Ruling l.side (number_of l.question) l.table l.flags l.node l.next
