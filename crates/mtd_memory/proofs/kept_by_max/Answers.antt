-- `kept_by_max` meets its contract: the leading child was tried alone, or any.
use Rattle.prelude.proofs.{arith, ◌≡◌, refl, ◌∙◌, ◌+◌, ◌/◌, true, false}
use Rattle.mtd_memory.proofs.Arrays.{no-leads}
use Rattle.mtd_memory.proofs.Entries.{keeps-max, alone-best, named-flag}
use Rattle.mtd_memory.proofs.kept_by_max.Goals as goal

pub returns-then-answer : goal.returns-then-answer
returns-then-answer c =
    -- the leading child was tried alone
    let alone : c.args.tries.start + 1 ≡ c.args.children.start + c.args.entry / 256 =
    c.if-tries.false ∙ c.requires.alone.alone c.if-entry-lt-LEADS.false c.if-tries.false in
    λ child.
    rw c.if-answer.true
    (keeps-max {answer = true} (c.better-high.ensures ∙ alone-best c.if-entry-lt-LEADS.false
    (c.requires.alone.leads c.if-entry-lt-LEADS.false c.if-tries.false) _ alone) refl
    (no-leads (omega arith)))

pub returns : goal.returns
returns c =
    -- the leading child was tried alone
    let alone : c.args.tries.start + 1 ≡ c.args.children.start + c.args.entry / 256 =
    c.if-tries.false ∙ c.requires.alone.alone c.if-entry-lt-LEADS.false c.if-tries.false in
    λ child.
    rw c.if-answer.false
    (keeps-max {answer = false} (c.better-high.ensures ∙ alone-best c.if-entry-lt-LEADS.false
    (c.requires.alone.leads c.if-entry-lt-LEADS.false c.if-tries.false) _ alone)
    (named-flag _ c.if-entry-lt-LEADS.false) (c.requires.alone.leads c.if-entry-lt-LEADS.false c.if-tries.false))
