-- `tree_values` meets its contract: before each node the two bests are those of the nodes behind it.
use Rattle.prelude.proofs.{◌≤◌, ◌≡◌}
use Rattle.gametree.specs.declared.Side.TheVariants.{Max, Min}
use Rattle.certificate_check.specs.{best_before}
use Rattle.certificate_check.proofs.tree_values.Given as goal

abbrev pub invariant-loop-node : goal.invariant-loop-node
invariant-loop-node l = (l.greatest ≡ best_before Max l.table l.flags l.node)
    × ((l.least ≡ best_before Min l.table l.flags l.node) × (l.node ≤ l.n))
