-- `graft::graft` meets its contract: the questions are answered, and then the result is written or nothing is done.
use Rattle.prelude.proofs.{arith}
use Rattle.table.proofs.Asked.{passed-on}
use Rattle.graft.proofs.Outcomes.{nodes-graftable, graft-written, graft-rejected}
use Rattle.graft.proofs.graft.Goals as goal

pub returns-in_err-size : goal.returns-in_err-size
returns-in_err-size c =
    rw (passed-on _ _ c.from_residual.ensures.1)
    (graft-rejected c.args.first.now c.args.node c.args.second.now c.args.res.now _ c.in_err-size.ensures)

pub write_frames-requires : goal.write_frames-requires
write_frames-requires c =
    let p = nodes-graftable c.args.first.now c.args.node c.args.second.now c.args.res.now _ c.in_ok-size.ensures in
    record { graftable = p.1; size_value = (p.0, omega (arith, p)) }

pub returns : goal.returns
returns c = graft-written c.args.first.now c.args.node c.args.second.now c.args.res.now _ _
    c.in_ok-size.ensures c.write_frames.ensures
