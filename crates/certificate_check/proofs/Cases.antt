-- The small certificates, computed from the definitions.
use Rattle.prelude.proofs.{◌≡◌, refl, map}
use Rattle.table.specs.{next, parent_before, position_within, position_of, valuation, each_node, frames_rejection}
use Rattle.table.specs.{rejection}
use Rattle.lists.specs.{count_from}
use Rattle.certificate_check.specs.{rule_holds, best_before, trees_rejection, flags_rejection, certificate_rejection}
use Rattle.certificate_check.specs.{verdict, cases}

-- each certificate gets its verdict
pub small-verdicts : map (λ c. verdict c.table c.flags) cases ≡ map (λ c. c.verdict) cases
unfolding next parent_before position_within position_of valuation each_node frames_rejection rejection count_from
    rule_holds
    best_before trees_rejection flags_rejection certificate_rejection verdict
small-verdicts = refl
