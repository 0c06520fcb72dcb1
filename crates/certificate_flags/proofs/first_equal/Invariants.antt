-- `certificate_flags::first_equal` meets its contract: what is left to be searched gives what all of it was to give.
use Rattle.prelude.proofs.{◌-◌, ◌≤◌, ◌≡◌, get_or}
use Rattle.certificate_flags.specs.{first_equal}
use Rattle.certificate_flags.proofs.first_equal.Given as goal

abbrev pub invariant-loop-node : goal.invariant-loop-node
invariant-loop-node l = (l.node ≤ l.to)
    × (first_equal (λ k. get_or l.bounds k 0) l.v l.node (l.to - l.node)
    ≡ first_equal (λ k. get_or l.bounds k 0) l.v l.from (l.to - l.from))
