-- `mtd::find` meets its contract: the steps of a search, in order.
use Rattle.prelude.proofs.{arith, rules, ◌≡◌, ap, ◌∙◌, w16, to_z-of_z}
use Rattle.table.specs.{max_nodes, frames}
use Rattle.table_positions.specs.{written}
use Rattle.certificate_bounds.proofs.Marking.{cleared-unmarked}
use Rattle.mtd.proofs.Whole.{start-fresh, run_small, find-gives}
use Rattle.mtd.proofs.find.Goals as goal

pub run_passes-settled-requires : goal.run_passes-settled-requires
run_passes-settled-requires c =
    let a = c.requires in
    let cleared : c.clear.new.evaluated ≡ written (λ _. 0) (frames c.args.table.now) c.args.evaluated.now =
    c.clear.ensures ∙ ap (λ m. written (λ _. 0) m c.args.evaluated.now) c.frame_count.ensures in
    start-fresh _ a.well_formed max_nodes a.well_formed.at_most _ _
    (omega (arith, c.clear.auto.evaluated, a.table_in_bounds.0)) a.table_in_bounds.1 (cleared-unmarked _ _ cleared)

pub value-requires : goal.value-requires
value-requires c = run_small _ c.requires.well_formed _ c.run_passes-settled.ensures.score_value.0

pub returns : goal.returns
returns c =
    let a = c.requires in
    let e = c.run_passes-settled.ensures in
    let cleared : c.clear.new.evaluated ≡ written (λ _. 0) (frames c.args.table.now) c.args.evaluated.now =
    c.clear.ensures ∙ ap (λ m. written (λ _. 0) m c.args.evaluated.now) c.frame_count.ensures in
    let g = find-gives _ a.well_formed _ _ _ _ _ _ _ _ cleared e.score_value e.root_move_value e.order_after
    e.leaves_value a.table_in_bounds.1 (to_z-of_z w16 c.value.result (record { sfits = c.value.type_inv })
    ∙ c.value.ensures) in
    -- what was lent ends as the passes leave it
    let marks = g.1.0 in
    let order = g.1.1 in
    let found = g.0 in
    record { value = search rules; evaluated_after = search rules; order_after = search rules }
