-- `certificate_bounds::fill_bounds` meets its contract: from the last node to the first, each bound follows from later
-- ones.
use Rattle.prelude.proofs.{◌≡◌}
use Rattle.gametree.specs.{least, greatest}
use Rattle.table.specs.{frames}
use Rattle.certificate_bounds.specs.{marked, bound_of}
use Rattle.certificate_bounds.proofs.BottomUp.{Rising}
use Rattle.certificate_bounds.proofs.fill_bounds.Given as goal

abbrev pub invariant-loop-node : goal.invariant-loop-node
invariant-loop-node l = (l.evaluated ≡ l.initial.evaluated) × Rising
    (bound_of l.table (marked l.initial.evaluated) least) (frames l.table) l.initial.lows l.lows l.node
    × Rising (bound_of l.table (marked l.initial.evaluated) greatest) (frames l.table) l.initial.highs l.highs l.node
