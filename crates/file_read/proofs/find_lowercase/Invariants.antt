-- Each turn looks at the line that stands at the next position.
use Rattle.file_read.proofs.Letters.{Lettering}
use Rattle.file_read.proofs.find_lowercase.Given as goal

abbrev pub invariant-loop-line : goal.invariant-loop-line
invariant-loop-line l = Lettering l.file l.line
