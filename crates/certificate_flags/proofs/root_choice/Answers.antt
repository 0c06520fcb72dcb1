-- `certificate_flags::root_choice` meets its contract: the root's children are the nodes from 1 on.
use Rattle.prelude.proofs.{ℕ, ◌+◌, ◌-◌, ◌≤◌, arith, ◌≡◌, List}
use Rattle.table.specs.{frames, child_count, next, WellFormed}
use Rattle.table.proofs.Next.{next-within}
use Rattle.certificate_flags.proofs.root_choice.Goals as goal

-- the root's children are nodes of the table
root-within : (t : List ℕ) → WellFormed t → 1 + child_count t 0 ≤ frames t
unfolding next
root-within t wf = omega (arith, next-within t wf 1 wf.non_empty)

-- so they are as many as the numbers from 1 up to their end
from_one : {n m : ℕ} → n ≡ m → 1 + n - 1 ≡ m
from_one e = omega arith

pub chosen_child-requires : goal.chosen_child-requires
chosen_child-requires c = let end = root-within _ c.requires.well_formed in
    let n = c.child_count-end.ensures.0 in
    record {
      node_in_bounds = (omega (arith, end), omega (arith, end), omega (arith, end));
      from_le_to = (omega arith, omega (arith, end, n), omega (arith, end, n));
    }

pub returns : goal.returns
returns c = rw (from_one c.child_count-end.ensures.0) at c.chosen_child.ensures
