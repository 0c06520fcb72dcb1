-- What a replacement asks of the front and of the change.
use Rattle.std.specs.Prelude.{ℕ, ◌+◌, ◌≤◌, ◌<◌, ◌≡◌, ◌⊎◌, List}
use Rattle.gametree.specs.Trees.{greatest}
use Rattle.table.specs.Frame.{frames}
use Rattle.table.specs.Formed.{ChildOf}
use Rattle.sss_states.specs.declared.Change.{Change}
use Rattle.sss_states.specs.Engine.Kept.{Fits}

-- the change is at and below its node
pub record Local (t : List ℕ) (c : Change) : Type 0 where
  pub node : c.node < frames t
  pub non_empty : 0 < c.count
  pub run : (k : ℕ) → c.first ≤ k → k < c.first + c.count → (k ≡ c.node) ⊎ ChildOf t c.node k

-- what a replacement asks
pub record Putting (t F w : List ℕ) (γ : ℕ) (c : Change) : Type 0 where
  pub fits : Fits t F w
  pub here : Local t c
  pub merit : γ ≤ greatest
  pub score : c.score ≤ greatest
