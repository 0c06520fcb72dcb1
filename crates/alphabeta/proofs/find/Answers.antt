-- `find` meets its contract: the steps of a search, in order.
use Rattle.prelude.proofs.{arith, rules, ap, ◌∙◌, w16, to_z-of_z}
use Rattle.table_positions.specs.{written}
use Rattle.certificate_bounds.proofs.Listing.{listable-first}
use Rattle.certificate_write.proofs.Searchable.{searchable-root}
use Rattle.alphabeta.proofs.Whole.{run_small, find-gives}
use Rattle.alphabeta.proofs.find.Goals as goal

pub visit_root-visit-requires-clause-searchable : goal.visit_root-visit-requires-clause-searchable
visit_root-visit-requires-clause-searchable c =
    searchable-root _ c.requires.well_formed _ _ _ c.clear.ensures c.frame_count.ensures
    (omega (arith, c.clear.auto.evaluated, c.requires.table_in_bounds.0))

pub visit_root-visit-requires-clause-listable : goal.visit_root-visit-requires-clause-listable
visit_root-visit-requires-clause-listable c =
    listable-first _ _ _ _ _ c.clear.ensures c.frame_count.ensures c.requires.well_formed.at_most
    c.requires.table_in_bounds.1

pub value-requires : goal.value-requires
value-requires c = run_small _ c.requires.well_formed _ c.visit_root-visit.ensures.alpha_value.0

pub returns : goal.returns
returns c =
    let e = c.visit_root-visit.ensures in
    let n = c.frame_count.ensures in
    let cleared = c.clear.ensures ∙ ap (λ m. written (λ _. 0) m c.args.evaluated.now) n in
    let g = find-gives _ c.requires.well_formed _ _ _ _ _ _ _ _ _ cleared e.alpha_value e.order_after e.leaves_value
    c.requires.table_in_bounds.1
    (to_z-of_z w16 c.value.result (record { sfits = c.value.type_inv }) ∙ c.value.ensures) in
    -- what was lent ends as the evaluations leave it
    let marks = g.1.0 in
    let order = g.1.1 in
    record { value = g.0; evaluated_after = search rules; order_after = search rules }
