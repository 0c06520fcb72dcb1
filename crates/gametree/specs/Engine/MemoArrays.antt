-- For code: MTD's memory kept in two arrays over the node numbers, the marks of the leaves and the answers of the inner
-- nodes, and what a visit of a node does to them.
use Rattle.std.specs.Prelude.{ℕ, ◌≡◌, Bool}
use Rattle.gametree.specs.Trees.{Side, Tree, leaf, inner, Children, last, ◌then◌, In, InChildren}
use Rattle.gametree.specs.Engine.Memo.{Memo, MemoChildren, pass, pass_children}

-- an array of Booleans
abbrev pub Bits : Type 0
Bits = ℕ → Bool

-- the memory of a tree, read from both
abbrev mutual
  pub read_memo : (marks flags : Bits) (t : Tree) → Memo t
  read_memo marks flags (leaf n) = record { evaluated = marks n }
  read_memo marks flags (inner n s ks) = record { not_below = flags n; kids = read_memo_children marks flags ks }

  pub read_memo_children : (marks flags : Bits) (ks : Children) → MemoChildren ks
  read_memo_children marks flags (last t) = read_memo marks flags t
  read_memo_children marks flags (t then ts) =
      record { first = read_memo marks flags t; rest = read_memo_children marks flags ts }

-- the arrays after a visit of a node hold the pass's memo there, and are as they were elsewhere
pub record Remembered (ν : ℕ → ℕ) (γ : ℕ) (t : Tree) (M F M' F' : Bits) : Type 0 where
  pub got : read_memo M' F' t ≡ (pass ν γ t (read_memo M F t)).next
  pub elsewhere : (p : ℕ) → (In p t → ⊥) → (M' p ≡ M p) × (F' p ≡ F p)

-- the same of the children of a node
pub record KidsRemembered (ν : ℕ → ℕ) (γ : ℕ) (s : Side) (ks : Children) (M F M' F' : Bits) : Type 0 where
  pub got : read_memo_children M' F' ks ≡ (pass_children ν γ s ks (read_memo_children M F ks)).next
  pub elsewhere : (p : ℕ) → (InChildren p ks → ⊥) → (M' p ≡ M p) × (F' p ≡ F p)
