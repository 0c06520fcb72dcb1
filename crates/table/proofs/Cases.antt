-- The small tables, computed from the definitions.
use Rattle.prelude.proofs.{◌≡◌, refl, ◌++◌, map}
use Rattle.table.specs.{next, parent_before, position_within, position_of, each_node, frames_rejection, rejection}
use Rattle.table.specs.{checked, children_of, leaves, chain, accepted, rejected, families}

-- the check answers as the table of cases says
pub small-tables : map (λ c. checked c.table) (accepted ++ rejected) ≡ map (λ c. c.answer) (accepted ++ rejected)
unfolding next parent_before position_within position_of each_node frames_rejection rejection leaves chain
small-tables = refl

-- and the children are the part that is named
pub small-families : map (λ c. children_of c.table c.node) families ≡ map (λ c. c.children) families
unfolding children_of leaves
small-families = refl
