-- `graft::write_frames` meets its contract: each turn lays one frame and queues its children's sources.
use Rattle.graft.proofs.Writing.{Writing}
use Rattle.graft.proofs.write_frames.Given as goal

abbrev pub invariant-loop-i : goal.invariant-loop-i
invariant-loop-i l = Writing l.first l.node l.second l.initial.res l.res l.next l.i
