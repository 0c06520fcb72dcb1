-- Each turn lays a line at the front of what is left of the file.
use Rattle.file_write.proofs.Writing.{Writing}
use Rattle.file_write.proofs.write_lines.Given as goal

abbrev pub invariant-loop-node : goal.invariant-loop-node
invariant-loop-node l = Writing l.table l.fn.file l.nodes l.file l.node
