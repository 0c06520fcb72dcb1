-- `settle` meets its contract: the run of tests, from the least lows and the greatest highs, then the last phase.
use Rattle.prelude.proofs.{rules, refl, ◌∙◌, w16, to_z-of_z}
use Rattle.table.specs.{max_nodes}
use Rattle.mtdf_visits.specs.{memory_of}
use Rattle.mtdf.proofs.Whole.{start-fresh, met-ready, run_small, settled-both}
use Rattle.mtdf.proofs.settle.Goals as goal

pub drive-met-requires : goal.drive-met-requires
drive-met-requires c =
    let a = c.requires in
    start-fresh _ a.well_formed.0 max_nodes a.well_formed.0.at_most _ _ a.well_formed.1 a.well_formed.2 a.by_index

pub find_move-requires : goal.find_move-requires
find_move-requires c =
    let a = c.requires in
    let f = start-fresh _ a.well_formed.0 max_nodes a.well_formed.0.at_most _ _ a.well_formed.1 a.well_formed.2
    a.by_index in
    met-ready _ f.formed _ _ _ _ f.room c.drive-met.ensures.same_lengths c.drive-met.ensures.met

pub value-requires : goal.value-requires
value-requires c = run_small _ c.requires.well_formed.0 _ c.drive-met.ensures.met.score

pub returns : goal.returns
returns c =
    settled-both _ c.requires.well_formed.0 _ _ _ _ _ _ (memory_of c.find_move.new.bounds) _ _ c.drive-met.ensures.met
    c.find_move.ensures.moved
    (to_z-of_z w16 c.value.result (record { sfits = c.value.type_inv }) ∙ c.value.ensures)
    c.root_move.ensures refl (search rules) (search rules)
