-- The small trees, computed from the definitions.
use Rattle.prelude.proofs.{◌≡◌, refl, map}
use Rattle.table.specs.{parent_before, position_within, position_of, up_from, children_from, grow, tree_at, valuation}
use Rattle.table_positions.specs.{written}
use Rattle.certificate_write.specs.Results.Cases.{results}
use Rattle.certificate_write.specs.{result_of, cases}

-- the bounds, the moves and the flags are as the table of results says
pub small-certificates : map result_of cases ≡ results
unfolding parent_before position_within position_of children_from grow tree_at valuation up_from written
small-certificates = refl
