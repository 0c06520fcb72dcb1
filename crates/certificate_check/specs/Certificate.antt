-- When lent flags are a certificate, in terms of the table's tree.
use Rattle.std.specs.Prelude.{ℕ, ◌≤◌, ◌<◌, List, length, get_or}
use Rattle.gametree.specs.declared.Side.TheVariants.{Max, Min}
use Rattle.gametree.specs.Certificate.{Certifies, in_both}
use Rattle.table.specs.Frame.{frames}
use Rattle.table.specs.Tree.{tree, valuation}
use Rattle.table.specs.Check.{Accepted}
use Rattle.certificate_check.specs.Flags.{member}

-- the table is accepted, each node has a flag from 0 to 3, and the nodes flagged 1 or 3 are a max solution tree, those
-- flagged 2 or 3 a min solution tree, both of value v
pub record Certificate (t flags : List ℕ) (v : ℕ) : Type 0 where
  pub accepted : Accepted t
  pub enough : frames t ≤ length flags
  pub in_range : (i : ℕ) → i < frames t → get_or flags i 0 ≤ in_both
  pub certifies : Certifies (valuation t) (tree t) (member Max flags) (member Min flags) v
