-- `mtdf::find` meets its contract: the steps of a search, in order.
use Rattle.prelude.proofs.{◌≡◌, ap, ◌∙◌, w32, to_z-of_z}
use Rattle.table.specs.{frames}
use Rattle.table_positions.specs.{written}
use Rattle.certificate_bounds.proofs.Marking.{cleared-unmarked}
use Rattle.methods.specs.{start_score}
use Rattle.mtdf.proofs.Whole.{find-gives}
use Rattle.mtdf.proofs.find.Goals as goal
use Rattle.mtdf.proofs.find.Goals.{After-clear}

-- as many marks as the table has nodes are cleared
cleared : (c : After-clear) → c.clear.new.evaluated ≡ written (λ _. 0) (frames c.args.table.now) c.args.evaluated.now
cleared c = c.clear.ensures ∙ ap (λ m. written (λ _. 0) m c.args.evaluated.now) c.frame_count.ensures

pub settle-requires-clause-by_index : goal.settle-requires-clause-by_index
settle-requires-clause-by_index c =
    cleared-unmarked _ _ (cleared (goal.at.settle-requires-clause-by_index c).After-clear)

pub returns : goal.returns
returns c =
    let a = c.requires in
    -- the first guess is that of the starting value
    let guess : c.start_score.result ≡ start_score c.args.start =
    rw (to_z-of_z w32 c.args.start c.ranges.start) at c.start_score.ensures in
    let g = find-gives _ a.well_formed c.args.start _ _ _ _ _ _ (cleared (goal.at.returns c).After-clear)
    (rw guess at c.settle.ensures) a.table_in_bounds.1 in
    record { value = g.0; evaluated_after = g.1.0; order_after = g.1.1 }
