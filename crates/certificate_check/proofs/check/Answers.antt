-- `check` meets its contract: a rejected table settles the verdict, an accepted one leaves it to the flags.
use Rattle.prelude.proofs.{ℕ, ◌≡◌, ◌∙◌, List, Ok, Err}
use Rattle.table.specs.declared.Rejection.{Rejection}
use Rattle.table.specs.{frames, rejection, checked}
use Rattle.table.proofs.Asked.{passed-on}
use Rattle.table.proofs.Acceptance.{accepted-formed, nodes-accepted}
use Rattle.certificate_check.specs.{flags_rejection, certificate_rejection, judged, verdict}
use Rattle.certificate_check.proofs.Judging.{judged-until, judged-onward}
use Rattle.certificate_check.proofs.check.Goals as goal

module _ (t flags : List ℕ) where
  table-rejected : (r : Rejection) → Err r ≡ checked t → Err r ≡ verdict t flags
  unfolding verdict certificate_rejection
  table-rejected r e = judged-until t flags (frames t) (rejection t) (flags_rejection t flags) r e

  table-accepted : (n : ℕ) → Ok n ≡ checked t
      → judged t flags (flags_rejection t flags) ≡ verdict t flags
  unfolding verdict certificate_rejection
  table-accepted n e = judged-onward t flags (frames t) (rejection t) (flags_rejection t flags) n e

pub check_certificate-requires : goal.check_certificate-requires
check_certificate-requires c =
    accepted-formed c.args.table.now (nodes-accepted c.args.table.now _ c.in_ok-check.ensures).0

pub returns-in_err-check : goal.returns-in_err-check
returns-in_err-check c = passed-on _ _ c.from_residual.ensures.1
    ∙ table-rejected c.args.table.now c.args.flags.now _ c.in_err-check.ensures

pub returns : goal.returns
returns c = c.check_certificate.ensures
    ∙ table-accepted c.args.table.now c.args.flags.now _ c.in_ok-check.ensures
