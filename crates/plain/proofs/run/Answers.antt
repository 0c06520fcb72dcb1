-- `run` meets its contract: the steps of a search, in order.
use Rattle.prelude.proofs.{arith, refl, ap, ◌∙◌, w16, to_z-of_z}
use Rattle.table.proofs.Acceptance.{accepted-formed}
use Rattle.table_positions.specs.{written}
use Rattle.plain.proofs.Whole.{root-ready, score-small, run-gives}
use Rattle.plain.proofs.run.Goals as goal

pub max_turn-score-requires : goal.max_turn-score-requires
max_turn-score-requires c =
    root-ready _ c.requires.accepted _ _ _ _ c.clear.ensures c.frame_count.ensures
    (omega (arith, c.clear.auto.evaluated, c.requires.table_in_bounds)) refl

pub write_certificate-root_move-requires-clause-well_formed :
    goal.write_certificate-root_move-requires-clause-well_formed
write_certificate-root_move-requires-clause-well_formed c = accepted-formed _ c.requires.accepted

pub value-value-requires : goal.value-value-requires
value-value-requires c = score-small _ c.requires.accepted _ c.max_turn-score.ensures.value

pub returns : goal.returns
returns c =
    let n = c.frame_count.ensures in
    let cleared = c.clear.ensures ∙ ap (λ m. written (λ _. 0) m c.args.evaluated.now) n in
    let value =
    to_z-of_z w16 c.value-value.result (record { sfits = c.value-value.type_inv }) ∙ c.value-value.ensures in
    let e = c.max_turn-score.ensures in
    let w = c.write_certificate-root_move.ensures in
    let g = run-gives _ c.requires.accepted _ _ _ _ _ _ _ _ _ cleared e.value e.evaluated_after w.value
    w.certificate_after w.evaluated_unchanged value in
    record { value = g.0; evaluated_after = g.1.0; certificate_after = g.1.1 }
