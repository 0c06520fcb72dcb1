-- Lines of play in a table.
use Rattle.std.specs.Prelude.{ℕ, ◌≡◌, List, [], ◌∷◌}
use Rattle.table.specs.Frame.{child_count}
use Rattle.table.specs.Formed.{ChildOf}

-- from node i the nodes of the list are played: each is a child of the one before, and the last one is a leaf
abbrev pub Play : (t : List ℕ) → ℕ → List ℕ → Type 0
Play t i [] = child_count t i ≡ 0
Play t i (k ∷ ks) = ChildOf t i k × Play t k ks
