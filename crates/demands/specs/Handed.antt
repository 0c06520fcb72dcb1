-- What is said of the bytes that a search hands back in its buffers.
use Rattle.std.specs.Prelude.{ℕ, ◌≤◌, ◌<◌, ◌≡◌, true, List, length, get_or, take}
use Rattle.lists.specs.Lists.{All}
use Rattle.gametree.specs.declared.Side.TheVariants.{Max, Min}
use Rattle.gametree.specs.Trees.{minimax, leaves}
use Rattle.gametree.specs.Certificate.{Certifies}
use Rattle.table.specs.Frame.{frames}
use Rattle.table.specs.Tree.{tree, valuation}
use Rattle.table.specs.Shape.{AgreeOn}
use Rattle.certificate_bounds.specs.Marks.{marked}
use Rattle.methods.specs.Outcome.{Lent}
use Rattle.certificate_check.specs.Flags.{member}

-- each buffer has an entry per node of the table
pub record Room (t : List ℕ) (l : Lent) : Type 0 where
  pub marks : frames t ≤ length l.marks
  pub flags : frames t ≤ length l.flags
  pub order : frames t ≤ length l.order

-- node k of the table is marked 1: it is a leaf that was evaluated
pub record Marked (t : List ℕ) (l : Lent) (k : ℕ) : Type 0 where
  pub node : k < frames t
  pub mark : get_or l.marks k 0 ≡ 1

-- the flags certify the minimax value of the table's tree by a max and a min solution tree, and every flagged leaf is
-- marked 1
pub record CertifiedBy (t : List ℕ) (l : Lent) : Type 0 where
  pub certifies : Certifies (valuation t) (tree t) (member Max l.flags) (member Min l.flags)
      (minimax (valuation t) (tree t))
  pub max_leaves : All (λ k. member Max l.flags k ≡ true → marked l.marks k ≡ true) (leaves (tree t))
  pub min_leaves : All (λ k. member Min l.flags k ≡ true → marked l.marks k ≡ true) (leaves (tree t))

-- two tables agree on the leaves that are marked 1
abbrev pub AgreeOnMarked : (t u : List ℕ) → Lent → Type 0
AgreeOnMarked t u l = (k : ℕ) → Marked t l k → AgreeOn t u k

-- the marks and the flags of n nodes are alike
pub record Alike (n : ℕ) (l m : Lent) : Type 0 where
  pub marks : take n l.marks ≡ take n m.marks
  pub flags : take n l.flags ≡ take n m.flags
