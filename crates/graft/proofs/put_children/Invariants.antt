-- `graft::put_children` meets its contract: each turn queues one source more.
use Rattle.prelude.proofs.{◌≤◌, ◌+◌}
use Rattle.graft.specs.{root_for, Queued}
use Rattle.graft.proofs.put_children.Given as goal

abbrev pub invariant-loop-c : goal.invariant-loop-c
invariant-loop-c l = (l.c ≤ l.count) × Queued (λ m. root_for l.parts.first.now l.parts.node (l.from + m))
    l.next l.c l.initial.res l.res
