-- The cases of 01 marked P (SPEC 12.2), computed from the definitions over byte tables.
use Rattle.prelude.proofs.{refl}
use Rattle.table.specs.{next, parent_before, position_within, position_of, up_from, children_from, grow, tree_at}
use Rattle.table.specs.{valuation}
use Rattle.table.specs.{each_node, frames_rejection, rejection}
use Rattle.table_positions.specs.{written}
use Rattle.lists.specs.{All, count_from}
use Rattle.demands.specs.{LineHolds, case_lines}

-- every line of the table is what the definitions give
pub marked-cases : All LineHolds case_lines
unfolding next parent_before position_within position_of children_from grow tree_at valuation each_node
    frames_rejection rejection up_from written count_from
marked-cases = (
  (refl, refl, refl),
  (
    (refl, refl, refl),
    (
      (refl, refl, refl),
      (
        (refl, refl, refl),
        ((refl, refl, refl), ((refl, refl, refl), ((refl, refl, refl), ((refl, refl, refl), tt)))),
      ),
    ),
  ),
)
