-- `choose` meets its contract: a rejected table settles the answer, an accepted one leaves it to the certificates.
use Rattle.prelude.proofs.{Result}
use Rattle.prelude.proofs.{ℕ, ◌≡◌, ◌∙◌, List, ltb, Ok, Err}
use Rattle.table.specs.declared.Rejection.{Rejection}
use Rattle.table.specs.{frames, rejection, checked}
use Rattle.table.proofs.Asked.{passed-on, answer-nodes, answer-rejected}
use Rattle.table.proofs.Acceptance.{accepted-formed, nodes-accepted}
use Rattle.certificate_check.specs.{flags_rejection}
use Rattle.certificate_choice.specs.declared.Chosen.{Chosen}
use Rattle.certificate_choice.specs.{flagged_leaves, choice_by, choice}
use Rattle.certificate_choice.proofs.choose.Goals as goal

module _ (t f s : List ℕ) where
  table-rejected : (r : Rejection) → Err r ≡ checked t → Err r ≡ choice t f s
  unfolding choice
  table-rejected r e = rw (answer-rejected (frames t) r (rejection t) e)

  table-accepted : (n : ℕ) → Ok n ≡ checked t → (c : Result Chosen Rejection)
      → c ≡ choice_by (flags_rejection t f) (flags_rejection t s) (ltb (flagged_leaves t s) (flagged_leaves t f))
      → c ≡ choice t f s
  unfolding choice
  table-accepted n e c h = rw (answer-nodes (frames t) n (rejection t) e).0 h

pub choose_certificate-requires : goal.choose_certificate-requires
choose_certificate-requires c = accepted-formed c.args.table.now
    (nodes-accepted c.args.table.now _ c.in_ok-check.ensures).0

pub returns-in_err-check : goal.returns-in_err-check
returns-in_err-check c = passed-on _ _ c.from_residual.ensures.1
    ∙ table-rejected c.args.table.now c.args.first.now c.args.second.now _ c.in_err-check.ensures

pub returns : goal.returns
returns c = table-accepted c.args.table.now c.args.first.now c.args.second.now _
    c.in_ok-check.ensures _ c.choose_certificate.ensures
