-- The small cases, computed from the definitions.
use Rattle.prelude.proofs.{◌≡◌, refl, map, ◌++◌, length}
use Rattle.gametree.specs.{least, greatest, leaves, reached}
use Rattle.table.specs.{next, parent_before, position_within, position_of, children_from, grow, tree_at, tree}
use Rattle.table.specs.{valuation}
use Rattle.table.specs.{each_node, frames_rejection, rejection, leaf_frame, lone}
use Rattle.worst_fill.specs.{with_rank, worst_fill, fill_outcome, given, refused}

-- answers and tables
pub small-fillings : map (λ c. fill_outcome c.table) (given ++ refused) ≡ map (λ c. c.outcome) (given ++ refused)
unfolding next parent_before position_within position_of children_from grow tree_at each_node frames_rejection rejection
    with_rank worst_fill
small-fillings = refl

-- alpha-beta reaches as many leaves as the tables have
pub all-reached-there :
    map (λ c. length (reached (valuation (worst_fill c.table)) least greatest (tree c.table))) given
    ≡ map (λ c. length (leaves (tree c.table))) given
unfolding parent_before position_within position_of children_from grow tree_at valuation with_rank worst_fill
all-reached-there = refl

-- the high byte first: 300 is 1 and 44
pub high-byte-first : with_rank 0 300 lone ≡ leaf_frame 1 44
unfolding with_rank
high-byte-first = refl
