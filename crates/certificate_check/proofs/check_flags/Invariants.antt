-- `check_flags` meets its contract: before each node the flags behind it are in range.
use Rattle.prelude.proofs.{ℕ, Bool, List, leb, get_or}
use Rattle.table.specs.{frames}
use Rattle.certificate_check.proofs.Asking.{Asking}
use Rattle.certificate_check.proofs.check_flags.Given as goal

-- the test of question 11
abbrev in_range : List ℕ → ℕ → Bool
in_range flags i = leb (get_or flags i 0) 3

abbrev pub invariant-loop-node : goal.invariant-loop-node
invariant-loop-node l = Asking (in_range l.flags) 11 (frames l.table) l.node
