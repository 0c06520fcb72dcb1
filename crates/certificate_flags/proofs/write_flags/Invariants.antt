-- `certificate_flags::write_flags` meets its contract: each turn stores the flags of one node's children.
use Rattle.prelude.proofs.{ℕ}
use Rattle.table_positions.proofs.TopDown.{Visit}
use Rattle.table_positions.proofs.TopDown.{Filled}
use Rattle.certificate_flags.specs.{FlagsFrom}
use Rattle.certificate_flags.proofs.write_flags.Given as goal

abbrev pub invariant-loop-node : goal.invariant-loop-node
invariant-loop-node l = Visit l.table l.initial.certificate l.certificate l.next l.node
    × ((f : ℕ → ℕ) → FlagsFrom l.table l.positions l.lows l.highs f
    → Filled l.table f l.initial.certificate l.certificate l.next l.node)
