-- The line's digits stand in front of four zeros when they are read, and each turn stores the byte of two of them
-- behind the ones before.
use Rattle.prelude.proofs.{◌≡◌, take, sets}
use Rattle.file_line.specs.{bytes_of}
use Rattle.file_line.proofs.decode_digits.Given as goal

abbrev pub invariant-loop-k : goal.invariant-loop-k
invariant-loop-k l = l.table ≡ sets l.fn.table l.to (take l.k (bytes_of l.line))
