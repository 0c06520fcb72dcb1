-- `sss_loop::list::replace`: the loop has replaced the entries before `node`.
use Rattle.prelude.proofs.{◌+◌}
use Rattle.table_positions.proofs.Runs.{Run}
use Rattle.sss_turns.specs.{entry_in}
use Rattle.sss_loop.proofs.list.replace.Given as goal

abbrev pub invariant-loop-node : goal.invariant-loop-node
invariant-loop-node l =
    let u = l.fn.update in Run (entry_in u.content) u.first (u.first + u.count) l.fn.list l.list l.node
