-- `principal` meets its contract: the questions are answered, and then the line is followed or nothing is done.
use Rattle.table.proofs.Asked.{passed-on}
use Rattle.variation.proofs.Asking.{nodes-certified, line-given, line_refused}
use Rattle.variation.proofs.principal.Goals as goal

pub follow-requires : goal.follow-requires
follow-requires c = nodes-certified _ _ _ _ c.in_ok-ask.ensures

pub returns : goal.returns
returns c = line-given c.args.table.now c.args.certificate.now c.args.line.now _
    c.in_ok-ask.ensures _ c.follow.ensures.value _
    c.follow.ensures.line_after

pub returns-in_err-ask : goal.returns-in_err-ask
returns-in_err-ask c =
    rw (passed-on _ _ c.from_residual.ensures.1)
    (line_refused c.args.table.now c.args.certificate.now c.args.line.now _ c.in_err-ask.ensures)
