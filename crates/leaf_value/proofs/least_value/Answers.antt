-- `leaf_value::least_value` meets its contract: a rejected table settles the answer, an accepted one leaves it to 19 to
-- 21.
use Rattle.prelude.proofs.{sym, ◌∙◌, w32, to_z-of_z}
use Rattle.table.proofs.Asked.{passed-on}
use Rattle.table.proofs.Acceptance.{nodes-accepted, rejected-first}
use Rattle.leaf_value.proofs.Questions.{table-refused, table-accepted}
use Rattle.leaf_value.proofs.least_value.Goals as goal

pub returns-in_err-check : goal.returns-in_err-check
returns-in_err-check c = passed-on _ _ c.from_residual.ensures.1
    ∙ sym (table-refused c.args.table.now c.args.node c.args.wanted _
    (rejected-first c.args.table.now _ c.in_err-check.ensures))

pub returns : goal.returns
returns c =
    rw (c.ask.ensures, to_z-of_z w32 c.args.wanted c.ranges.wanted)
    (sym (table-accepted c.args.table.now c.args.node c.args.wanted
    (nodes-accepted c.args.table.now _ c.in_ok-check.ensures).0))
