-- `certificate_flags::flag_children` meets its contract: it stores a run of flags.
use Rattle.prelude.proofs.{arith, eq-eqb, ne_eqb}
use Rattle.table_positions.proofs.Runs.{run-begins, run_step, run_ends}
use Rattle.certificate_flags.proofs.flag_children.Goals as goal
use Rattle.certificate_flags.proofs.flag_children.Goals.{then-child-chosen, else-child-chosen}

pub loop-child-init : goal.loop-child-init
loop-child-init c = run-begins _ _ _ _ (omega arith)

pub loop-child-preserved : goal.loop-child-preserved
loop-child-preserved c =
    elim c.if-child-chosen.branch [
      | then-child-chosen w ↦ run_step _ _ _ _ _ _ _ _ (omega arith) (rw (eq-eqb _ _ w.if-child-chosen.true))
          w.certificate-is c.loop-child.invariant
      | else-child-chosen w ↦ run_step _ _ _ _ _ _ _ _ (omega arith) (rw (ne_eqb _ _ w.if-child-chosen.false))
          w.certificate-is c.loop-child.invariant
    ]

pub returns : goal.returns
returns c = run_ends _ _ _ _ _ _ (omega arith) c.loop-child.invariant
