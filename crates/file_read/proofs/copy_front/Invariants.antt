-- What is copied so far stands in front of what was there.
use Rattle.prelude.proofs.{◌≡◌, length, take, drop}
use Rattle.file_read.proofs.copy_front.Given as goal

abbrev pub invariant-loop-k : goal.invariant-loop-k
invariant-loop-k l =
    (length l.to ≡ length l.initial.to) × (take l.k l.to ≡ take l.k l.from)
    × (drop l.k l.to ≡ drop l.k l.initial.to)
