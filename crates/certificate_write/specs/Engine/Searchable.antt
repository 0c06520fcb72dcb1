-- What an engine requires to search a node's tree from the node down.
use Rattle.std.specs.Prelude.{ℕ, ◌≤◌, ◌<◌, ◌≡◌, false, List, length}
use Rattle.gametree.specs.declared.Position.{Position}
use Rattle.gametree.specs.Trees.{Tree, In}
use Rattle.table.specs.Frame.{frames}
use Rattle.table.specs.Position.{position_of}
use Rattle.table.specs.Tree.{tree_at}
use Rattle.table.specs.Formed.{WellFormed}
use Rattle.certificate_bounds.specs.Marks.{marked}

-- no node of the tree is marked
abbrev pub Unmarked : List ℕ → Tree → Type 0
Unmarked e T = (k : ℕ) → In k T → marked e k ≡ false

-- a well-formed table, a node of it with its position, an entry for the mark of each node, and no mark in the node's
-- tree
pub record Searchable (t e : List ℕ) (i : ℕ) (p : Position) : Type 0 where
  pub formed : WellFormed t
  pub inside : i < frames t
  pub positioned : p ≡ position_of t i
  pub marks : frames t ≤ length e
  pub unmarked : Unmarked e (tree_at t i)
