-- `certificate_bounds::best` meets its contract: from right to left, the value is the best of the entries passed.
use Rattle.prelude.proofs.{◌+◌, ◌-◌, ◌≤◌, ◌<◌, ◌≡◌, get_or}
use Rattle.certificate_bounds.specs.{best_in}
use Rattle.certificate_bounds.proofs.best.Given as goal

abbrev pub invariant-loop-at : goal.invariant-loop-at
invariant-loop-at l = (l.from ≤ l.at) × (l.at < l.to) × (l.value
    ≡ best_in l.side (λ k. get_or l.bounds k 0) l.at (l.to - (l.at + 1)))
