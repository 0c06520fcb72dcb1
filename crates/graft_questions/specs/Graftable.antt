-- Two tables and a leaf that pass a graft's questions, all but the last, which is about the lent buffer.
use Rattle.std.specs.Prelude.{ℕ, ◌+◌, ◌≤◌, ◌<◌, ◌≡◌, List}
use Rattle.gametree.specs.declared.Side.TheVariants.{Max}
use Rattle.table.specs.Frame.{max_nodes, max_depth, frames, child_count}
use Rattle.table.specs.Position.{depth_of, side_of}
use Rattle.table.specs.Check.{Accepted}
use Rattle.graft_questions.specs.Questions.{graft_size}

-- node k of the table is a leaf with Max to move
pub record MaxLeaf (t : List ℕ) (k : ℕ) : Type 0 where
  pub inside : k < frames t
  pub childless : child_count t k ≡ 0
  pub mover : side_of t k ≡ Max

-- the tree of u can take the place of node k of t
pub record Graftable (t : List ℕ) (k : ℕ) (u : List ℕ) : Type 0 where
  pub first : Accepted t
  pub second : Accepted u
  pub leaf : MaxLeaf t k
  pub at_most : graft_size t u ≤ max_nodes
  pub shallow : (v : ℕ) → v < frames u → depth_of t k + depth_of u v ≤ max_depth
