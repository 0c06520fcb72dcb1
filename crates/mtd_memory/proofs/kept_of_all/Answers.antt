-- `kept_of_all` meets its contract: by the answer, and by the two best children.
use Rattle.prelude.proofs.{ap, ◌∙◌, false, eqb}
use Rattle.mtd_memory.proofs.Entries.{keeps-max, best-leads, best-flag, best-high, leads-entry}
use Rattle.mtd_memory.proofs.kept_of_all.Goals as goal

pub returns : goal.returns
returns c = λ child.
    rw c.if-answer.false
    (keeps-max {answer = false} (best-high c.two_best-two.ensures) (ap (λ x. eqb x 1) c.lead_entry.ensures ∙ best-flag
    c.two_best-two.ensures)
    (leads-entry c.lead_entry.ensures (best-leads c.two_best-two.ensures c.requires.siblings.2)))
