-- `sss_loop::list::replace` meets its contract: each turn replaces one entry more.
use Rattle.prelude.proofs.{◌+◌, ◌-◌, ◌≡◌, arith, refl, ap, ◌∙◌}
use Rattle.table_positions.proofs.Runs.{run_step, run_ends}
use Rattle.sss_turns.specs.{entry_in}
use Rattle.sss_states.specs.{stored}
use Rattle.sss_loop.proofs.list.replace.Goals as goal

pub loop-node-preserved : goal.loop-node-preserved
loop-node-preserved c =
    run_step _ _ _ _ _ _ _ _ c.loop-node-test.true c.entry_in.ensures refl c.loop-node.invariant

pub returns : goal.returns
returns c =
    let u = c.args.update in
    let n : u.first + u.count - u.first ≡ u.count = omega arith in
    run_ends _ _ _ _ _ _ c.loop-node-test.false c.loop-node.invariant
    ∙ ap (λ k. stored (entry_in u.content) u.first k c.args.list.now) n
