-- Cases of SPEC 12.2 beyond those that 01 marks P, computed from the definitions over byte tables.
use Rattle.prelude.proofs.{◌≡◌, refl, [], ◌∷◌, map, replicate}
use Rattle.gametree.specs.{mtd}
use Rattle.table.specs.{next, parent_before, position_within, position_of, up_from, children_from, grow, tree_at}
use Rattle.table.specs.{valuation}
use Rattle.table.specs.{each_node, frames_rejection, rejection}
use Rattle.table_positions.specs.{written}
use Rattle.lists.specs.{count_from}
use Rattle.methods.specs.declared.Answer.TheVariants.{Rejected}
use Rattle.demands.specs.{row_of, tables, rows, path, win_tables, win_rows, leaf_frames, capture_tables, capture_rows}
use Rattle.demands.specs.{deeper_tables, deeper_rows, stopped_at, stopped_rows, with_entries}

-- the cases marked P, with what all searches give and leave
pub marked-rows : map row_of tables ≡ rows
unfolding mtd next parent_before position_within position_of children_from grow tree_at valuation each_node
    frames_rejection rejection up_from written count_from
marked-rows = refl

pub win-cases : map row_of win_tables ≡ win_rows
unfolding mtd next parent_before position_within position_of children_from grow tree_at valuation each_node
    frames_rejection rejection up_from written count_from path
win-cases = refl

pub capture-cases : map row_of capture_tables ≡ capture_rows
unfolding mtd next parent_before position_within position_of children_from grow tree_at valuation each_node
    frames_rejection rejection up_from written count_from leaf_frames
capture-cases = refl

pub deeper-cases : map row_of deeper_tables ≡ deeper_rows
unfolding mtd next parent_before position_within position_of children_from grow tree_at valuation each_node
    frames_rejection rejection up_from written count_from leaf_frames
deeper-cases = refl

-- a run of SSS* under allowances of 0 to 4 leaves
pub stopped-cases : map stopped_at (0 ∷ 1 ∷ 2 ∷ 3 ∷ 4 ∷ []) ≡ stopped_rows
unfolding mtd next parent_before position_within position_of children_from grow tree_at valuation each_node
    frames_rejection rejection up_from written count_from
stopped-cases = refl

-- 7 nodes and 4 entries get 10, as do 6 entries
pub short-cases : map with_entries (4 ∷ 6 ∷ [])
    ≡ replicate 2 (replicate 5 (Rejected (record { number = 10; place = 0 })))
unfolding mtd next parent_before position_within position_of children_from grow tree_at valuation each_node
    frames_rejection rejection up_from written count_from
short-cases = refl
