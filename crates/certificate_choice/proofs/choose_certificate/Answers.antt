-- `choose_certificate` meets its contract: one case for each pair of verdicts.
use Rattle.prelude.proofs.{sym, ◌∙◌}
use Rattle.certificate_check.proofs.Judging.{value-passed}
use Rattle.certificate_choice.proofs.Choosing.{passed-enough}
use Rattle.certificate_choice.proofs.choose_certificate.Goals as goal

pub fewer-requires : goal.fewer-requires
fewer-requires c = (
  passed-enough _ _ (value-passed _ _ _ (sym c.in-Ok-Ok.is-0 ∙ c.check_certificate-of_first.ensures)),
  passed-enough _ _ (value-passed _ _ _ (sym c.in-Ok-Ok.is-1 ∙ c.check_certificate-of_second.ensures)),
)
