-- The bytes read so far fit. The measure is the room that is left.
use Rattle.prelude.proofs.{◌≤◌, ◌-◌, ◌≡◌, length}
use Rattle.input.proofs.read_all.Given as goal

abbrev pub invariant-loop-size : goal.invariant-loop-size
invariant-loop-size g l = (l.size ≤ length l.file) × (length l.file ≡ length l.initial.file)

abbrev pub decreases-loop-size : goal.decreases-loop-size
decreases-loop-size g l = length l.initial.file - l.size
