-- What the walk down a certificate requires, and what each step gives.
use Rattle.std.specs.Prelude.{ℕ, ◌≤◌, ◌<◌, ◌≡◌, true, List, length, get_or}
use Rattle.gametree.specs.declared.Side.{Side}
use Rattle.gametree.specs.Certificate.{in_both}
use Rattle.table.specs.Frame.{frames, first_child}
use Rattle.table.specs.Formed.{WellFormed, ChildOf}
use Rattle.certificate_check.specs.Flags.{rule_holds}

-- a well-formed table with a flag for each node, where the rules of both trees hold
pub record Certified (t flags : List ℕ) : Type 0 where
  pub formed : WellFormed t
  pub enough : frames t ≤ length flags
  pub rules : (p : Side) (i : ℕ) → i < frames t → rule_holds p t flags i ≡ true

-- k is the first child of node i that is in both trees
pub record FirstShared (t flags : List ℕ) (i k : ℕ) : Type 0 where
  pub child : ChildOf t i k
  pub both : get_or flags k 0 ≡ in_both
  pub before : (j : ℕ) → first_child t i ≤ j → j < k → get_or flags j 0 ≡ in_both → ⊥
