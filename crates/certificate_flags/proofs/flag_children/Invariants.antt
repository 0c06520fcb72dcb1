-- `certificate_flags::flag_children` meets its contract: it stores a run of flags.
use Rattle.prelude.proofs.{cond, eqb}
use Rattle.table_positions.proofs.Runs.{Run}
use Rattle.certificate_flags.proofs.flag_children.Given as goal

abbrev pub invariant-loop-child : goal.invariant-loop-child
invariant-loop-child l = Run (λ k. cond (eqb k l.chosen) l.flag l.others) l.from l.to l.initial.certificate
    l.certificate l.child
