-- When a "no" is the first, if a check is put to one node after the other.
use Rattle.std.specs.Prelude.{ℕ, ◌+◌, ◌≤◌, ◌<◌, ◌≡◌, Bool, true, false, List, leb}
use Rattle.std.proofs.Math.Option.{Option, none, some}
use Rattle.table.specs.declared.Rejection.{Rejection}
use Rattle.table.specs.Frame.{max_depth, frames}
use Rattle.table.specs.Position.{depth_of}
use Rattle.table.specs.Rejection.{◌and_then◌}
use Rattle.table.specs.Check.{check1, check2, check3, nodes_rejection, check8}

-- the rejection r is that of the check q at one of the n nodes from i on, and no node before it gets one
pub record FirstAt (q : ℕ → Option Rejection) (i n : ℕ) (r : Rejection) : Type 0 where
  pub node : ℕ
  pub from : i ≤ node
  pub within : node < i + n
  pub no : q node ≡ some r
  pub before : (k : ℕ) → i ≤ k → k < node → q k ≡ none

-- question q, which asks f of each of n nodes, got its "no" at the lowest node of which f does not hold
pub record LowestNo (f : ℕ → Bool) (q n : ℕ) (r : Rejection) : Type 0 where
  pub number : r.number ≡ q
  pub within : r.place < n
  pub no : f r.place ≡ false
  pub before : (k : ℕ) → k < r.place → f k ≡ true

-- question 9 got its "no" at the lowest node that is deeper than the greatest depth
abbrev pub LowestDeep : List ℕ → Rejection → Type 0
LowestDeep t r = LowestNo (λ k. leb (depth_of t k) max_depth) 9 (frames t) r

-- the first "no" to the questions that come before it, 1 to 8
abbrev pub rejection_before9 : List ℕ → Option Rejection
rejection_before9 t = check1 t and_then check2 t and_then check3 t and_then nodes_rejection t and_then check8 t
