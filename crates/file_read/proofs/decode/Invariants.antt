-- Each turn decodes one line and stores its bytes behind the ones before.
use Rattle.prelude.proofs.{◌*◌}
use Rattle.file_line.specs.{line_size}
use Rattle.file_read.proofs.Decoding.{Decoding}
use Rattle.file_read.proofs.decode.Given as goal

abbrev pub invariant-loop-line : goal.invariant-loop-line
invariant-loop-line l = Decoding l.file l.table (line_size * l.line) l.line
