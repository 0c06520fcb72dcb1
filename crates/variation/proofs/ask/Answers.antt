-- `ask` meets its contract: one lemma for each of its four returns (Asking).
use Rattle.prelude.proofs.{ap, ◌∙◌, Err}
use Rattle.table.proofs.Asked.{passed-on}
use Rattle.table.proofs.Acceptance.{accepted-formed, nodes-accepted}
use Rattle.variation.proofs.Asking.{table-refused, too_short, flags-refused, flags-passed}
use Rattle.variation.proofs.ask.Goals as goal

pub returns-in_err-nodes : goal.returns-in_err-nodes
returns-in_err-nodes c = passed-on _ _ c.from_residual.ensures.1 ∙ table-refused _ _ _ _ c.in_err-nodes.ensures

pub returns-then-entries-nodes : goal.returns-then-entries-nodes
returns-then-entries-nodes c = ap Err c.at.ensures ∙ too_short _ _ _ _ c.in_ok-nodes.ensures c.if-entries-nodes.true

pub check_certificate-requires : goal.check_certificate-requires
check_certificate-requires c = accepted-formed _ (nodes-accepted _ _ c.in_ok-nodes.ensures).0

pub returns-in_err-check_certificate : goal.returns-in_err-check_certificate
returns-in_err-check_certificate c = passed-on _ _ c.from_residual-in_err-check_certificate.ensures.1
    ∙ flags-refused _ _ _ _ c.in_ok-nodes.ensures c.if-entries-nodes.false _ c.in_err-check_certificate.ensures

pub returns : goal.returns
returns c = flags-passed _ _ _ _ c.in_ok-nodes.ensures c.if-entries-nodes.false _ c.in_ok-check_certificate.ensures
