-- The root's value as a function of the value of one leaf.
use Rattle.std.specs.Prelude.{ℕ, ◌<◌, ◌≡◌, List, ℤ}
use Rattle.table.specs.Frame.{frames, stored_score}
use Rattle.table.specs.Value.{value_of, score_of}
use Rattle.table.specs.Shape.{SameShape, AgreeOn}
use Rattle.leaf_value.specs.LeastValue.{root_score}

-- the root's value where the leaf k holds the value v, and each other leaf what it holds
abbrev pub root_value : (t : List ℕ) (k : ℕ) (v : ℤ) → ℤ
root_value t k v = value_of (root_score t k (score_of v))

-- the table u is t with other bytes 4 and 5 at node k, or the same
pub record SameBut (t u : List ℕ) (k : ℕ) : Type 0 where
  pub shape : SameShape t u
  pub others : (i : ℕ) → i < frames t → (i ≡ k → ⊥) → AgreeOn t u i

-- the value that node k holds
abbrev pub held_value : (t : List ℕ) (k : ℕ) → ℤ
held_value t k = value_of (stored_score t k)
