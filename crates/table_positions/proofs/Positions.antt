-- The array of positions: what is read from it is the node's parent, depth and side, and how it is filled from the root
-- down.
use Rattle.prelude.proofs.{ℕ, zero, suc, ◌+◌, ◌-◌, ◌%◌, ◌≤◌, ◌<◌, arith, ◌≡◌, refl, sym, ap, ap₂, ◌∙◌, List, length}
use Rattle.prelude.proofs.{get_or}
use Rattle.gametree.specs.declared.Position.{Position}
use Rattle.gametree.specs.declared.Side.{Side}
use Rattle.gametree.specs.declared.Side.TheVariants.{Max, Min}
use Rattle.table.specs.{max_nodes, frames, child_count, parent_before, parent_of, root_position, child_position}
use Rattle.table.specs.{position_of}
use Rattle.table.specs.{depth_of, side_of, WellFormed}
use Rattle.table.proofs.Parents.{parent_is}
use Rattle.table.proofs.Positions.{position-root, position-child, depth-at-most}
use Rattle.table_positions.specs.{written, stored, side_count, side_number, number_side, packed, position_entry}
use Rattle.table_positions.specs.{parent_in, depth_in, side_in, position_in, Positioned}
use Rattle.table_positions.proofs.Buffers.{written-length, written_at}
use Rattle.table_positions.proofs.TopDown.{Filled, filled_at, filled-step}

-- a number that is not 0 stands for Min
pub number-min : (n : ℕ) → (n ≡ 0 → ⊥) → Min ≡ number_side n
number-min zero h = absurd (h refl)
number-min (suc n) h = refl

-- a side's number stands for the side
pub side-again : (s : Side) → number_side (side_number s) ≡ s
side-again Max = refl
side-again Min = refl

-- a side's number is one of two
pub side-small : (s : Side) → side_number s < side_count
side-small Max = omega arith
side-small Min = omega arith

-- the root's entry
pub root-entry : (t : List ℕ) → packed 0 root_position ≡ position_entry t 0
unfolding parent_before
root-entry t = ap (packed 0) (sym (position-root t))

-- what an entry holds is read from it again
module _ (P : List ℕ) (k parent : ℕ) (p : Position) (h : p.depth < max_nodes) (e : get_or P k 0 ≡ packed parent p) where
  read-parent : parent_in P k ≡ parent
  read-parent = omega (arith, side-small p.side)

  read-depth : depth_in P k ≡ p.depth
  read-depth = omega (arith, side-small p.side)

  read-side : side_in P k ≡ p.side
  read-side =
      let r : get_or P k 0 % side_count ≡ side_number p.side = omega (arith, side-small p.side) in
      ap number_side r ∙ side-again p.side

  read-position : position_in P k ≡ p
  read-position = ap₂ (λ d s. record { depth = d; side = s }) read-depth read-side

-- an array that holds the positions
module _ (t P : List ℕ) (f : Positioned t P) (k : ℕ) (h : k < frames t) where
  -- it has an entry for the node
  pub positioned-room : k < length P
  positioned-room = omega (arith, f.room)

  -- no depth is greater than the most nodes
  pub positioned-few : depth_of t k < max_nodes
  positioned-few = omega (arith, depth-at-most t k, f.at_most)

  -- the parent, the depth and the side that are read are the node's
  pub positioned-parent : parent_in P k ≡ parent_of t k
  positioned-parent = read-parent P k (parent_of t k) (position_of t k) positioned-few (f.entry k h)

  pub positioned-depth : depth_in P k ≡ depth_of t k
  positioned-depth = read-depth P k (parent_of t k) (position_of t k) positioned-few (f.entry k h)

  pub positioned-side : side_in P k ≡ side_of t k
  positioned-side = read-side P k (parent_of t k) (position_of t k) positioned-few (f.entry k h)

module _ (t : List ℕ) (wf : WellFormed t) where
  -- an array that was filled holds the positions
  pub positioned : (P : List ℕ) {P' : List ℕ} → frames t ≤ length P → P' ≡ written (position_entry t) (frames t) P
      → Positioned t P'
  positioned P h e =
      record {
        room = omega (arith, ap length e, written-length (position_entry t) (frames t) P h);
        at_most = wf.at_most;
        entry = λ k l. ap (λ x. get_or x k 0) e ∙ written_at (position_entry t) (frames t) k P l;
      }

  -- the array before node i is visited
  module _ {P₀ P : List ℕ} {at i : ℕ} (r : Filled t (position_entry t) P₀ P at i) (h : i < frames t) (p : Position)
      (e : p ≡ position_in P i) where
    -- the place that is read from the node's entry is the node's
    position-read : p ≡ position_of t i
    position-read =
        e ∙ read-position P i (parent_of t i) (position_of t i) (omega (arith, depth-at-most t i, wf.at_most))
        (filled_at t wf (position_entry t) r h)

    pub filling-few : p.depth < max_nodes
    filling-few = omega (arith, ap (λ q. q.depth) position-read, depth-at-most t i, wf.at_most)

    -- the entries of its children are stored
    pub filling_step : (n : ℕ) → n ≡ child_count t i → (P' : List ℕ)
        → P' ≡ stored (λ k. packed i (child_position t k p)) at (at + n - at) P
        → Filled t (position_entry t) P₀ P' (at + n) (i + 1)
    filling_step n q P' x =
        filled-step t wf (position_entry t) r h n q _
        (λ k c.
        ap₂ packed (sym (parent_is t wf h c)) (ap (λ b. child_position t k b) position-read
        ∙ sym (position-child t wf h c)))
        P' x
