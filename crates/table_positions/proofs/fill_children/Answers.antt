-- `table_positions::fill_children` meets its contract: it stores a run of entries.
use Rattle.prelude.proofs.{arith, refl, ap, ◌∙◌}
use Rattle.table_positions.specs.{packed}
use Rattle.table_positions.proofs.Runs.{run_step, run_ends}
use Rattle.table_positions.proofs.fill_children.Goals as goal

pub loop-child-preserved : goal.loop-child-preserved
loop-child-preserved c = run_step _ _ _ _ _ _ _ _ (omega arith)
    (c.packed.ensures ∙ ap (packed _) c.child_position.ensures) refl c.loop-child.invariant

pub returns : goal.returns
returns c = run_ends _ _ _ _ _ _ (omega arith) c.loop-child.invariant
