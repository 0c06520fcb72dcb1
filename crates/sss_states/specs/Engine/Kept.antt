-- The front in one array of numbers: of each node the greatest merit at and below it, and its link.
use Rattle.std.specs.Prelude.{ℕ, zero, suc, ◌+◌, ◌*◌, ◌/◌, ◌%◌, ◌≤◌, ◌<◌, ◌≡◌, ◌⊎◌, Bool, false, cond, List, ltb, leb}
use Rattle.std.specs.Prelude.{eqb, length, get_or, set}
use Rattle.gametree.specs.declared.Side.{Side}
use Rattle.gametree.specs.declared.Side.TheVariants.{Max, Min}
use Rattle.gametree.specs.Trees.{greatest}
use Rattle.table.specs.Frame.{max_nodes, frames, first_child, child_count}
use Rattle.table.specs.Position.{parent_of, side_of}
use Rattle.table.specs.Formed.{WellFormed, ChildOf}
use Rattle.sss_states.specs.declared.State.{State}
use Rattle.sss_states.specs.declared.Change.{Change}
use Rattle.sss_states.specs.Entry.{entry, status_of, blank}
unfoldable pub use Rattle.table_positions.specs.Buffer.{stored}
use Rattle.table_positions.specs.Engine.Positions.{Positioned}
use Rattle.sss_states.specs.Engine.Shown.{Arrays}

-- an entry packs the greatest merit and the link; a link is the number of a node, so it is below max_nodes
abbrev pub best_at : List ℕ → ℕ → ℕ
best_at front k = get_or front k 0 / max_nodes

abbrev pub link_at : List ℕ → ℕ → ℕ
link_at front k = get_or front k 0 % max_nodes

abbrev pub packed_entry : ℕ → ℕ → ℕ
packed_entry b l = b * max_nodes + l

-- the list and the front as the theory takes them
abbrev pub arrays_of : List State → List ℕ → Arrays
arrays_of ls front =
    record {
      says = λ k s m. get_or ls k blank ≡ entry k (status_of s) m;
      link = λ k. link_at front k;
      best = λ k. best_at front k;
    }

-- a front with an entry per node and not too many: each link is 0 or a child, and each merit is one
pub record Sound (t front : List ℕ) : Type 0 where
  pub room : frames t ≤ length front
  pub at_most : length front ≤ max_nodes
  pub merits : (k : ℕ) → k < length front → best_at front k ≤ greatest
  pub links : (k : ℕ) → k < frames t → (link_at front k ≡ 0) ⊎ ChildOf t k (link_at front k)

-- what the functions over a front ask
pub record Fits (t F front : List ℕ) : Type 0 where
  pub formed : WellFormed t
  pub positions : Positioned t F
  pub sound : Sound t front

-- the leftmost of greatest merit among i, i + 1, .., i + n
unfoldable pub leftmost_best : List ℕ → ℕ → ℕ → ℕ
leftmost_best front i zero = i
leftmost_best front i (suc n) =
    cond (leb (best_at front (leftmost_best front (i + 1) n)) (best_at front i)) i (leftmost_best front (i + 1) n)

-- the child that node p goes down to
abbrev pub chosen_by_side : List ℕ → List ℕ → ℕ → Side → ℕ → ℕ
chosen_by_side t front p s zero = 0
chosen_by_side t front p Max (suc n) = leftmost_best front (first_child t p) n
chosen_by_side t front p Min (suc n) = link_at front p

abbrev pub chosen_of : List ℕ → List ℕ → ℕ → ℕ
chosen_of t front p = chosen_by_side t front p (side_of t p) (child_count t p)

-- the front with node p's entry made anew from its children's
abbrev pub renewed : List ℕ → List ℕ → ℕ → List ℕ
renewed t front p = set front p (packed_entry (best_at front (chosen_of t front p)) (chosen_of t front p))

-- node k is not the root, and its greatest merit is below γ
abbrev pub needs_refresh : List ℕ → ℕ → ℕ → Bool
needs_refresh front γ zero = false
needs_refresh front γ (suc k) = ltb (best_at front (suc k)) γ

-- a front, and the node up to which it was made anew
pub record Refreshed : Type 0 where
  pub front : List ℕ
  pub top : ℕ

-- from node k upwards; the first number bounds the steps
unfoldable pub refreshed : ℕ → List ℕ → ℕ → List ℕ → ℕ → Refreshed
refreshed zero t γ front k = record { front = front; top = k }
refreshed (suc f) t γ front k =
    cond (needs_refresh front γ k) (refreshed f t γ (renewed t front (parent_of t k)) (parent_of t k))
    (record { front = front; top = k })

-- from node k down by the links; the first number bounds the steps
unfoldable pub descended : ℕ → List ℕ → ℕ → ℕ
descended zero front k = k
descended (suc f) front k = cond (eqb (link_at front k) 0) k (descended f front (link_at front k))

-- the front and the list after a change: the node goes down to the first of the new states
abbrev pub changed : ℕ → Change → List ℕ → List ℕ
changed γ c front = stored (λ k. packed_entry c.score 0) c.first c.count
    (set front c.node (packed_entry γ c.first))

abbrev pub changed_list : Change → List State → List State
changed_list c ls = stored (λ k. entry k c.status c.score) c.first c.count ls

-- a change that fits into a front
pub record Puttable (γ : ℕ) (c : Change) (front : List ℕ) : Type 0 where
  pub node : c.node < length front
  pub run : c.first + c.count ≤ length front
  pub at_most : length front ≤ max_nodes
  pub non_empty : c.first < length front
  pub merit : γ ≤ greatest
  pub score : c.score ≤ greatest
