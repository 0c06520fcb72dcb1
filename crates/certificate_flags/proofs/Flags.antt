-- The flags of a certificate, from the root down, node by node.
use Rattle.prelude.proofs.{ℕ, ◌+◌, ◌-◌, ◌<◌, arith, ◌≡◌, refl, sym, ap₂, ◌∙◌, Bool, true, false, cond, List, eqb}
use Rattle.prelude.proofs.{get_or}
use Rattle.gametree.specs.declared.Side.{Side}
use Rattle.table.specs.{frames, child_count, next, WellFormed}
use Rattle.table_positions.specs.{stored, side_in}
use Rattle.table_positions.proofs.TopDown.{Filled, filled_at, filled-step}
use Rattle.certificate_flags.specs.{bounds_by_side, chosen_child, movers_flag, FlagsFrom}

-- the flags of a node's children are stored as the rule says
pub flags-step : (t : List ℕ) → WellFormed t → (positions lows highs : List ℕ) (f : ℕ → ℕ)
    → FlagsFrom t positions lows highs f → {b₀ b : List ℕ} {at i : ℕ} → Filled t f b₀ b at i → i < frames t
    → (n : ℕ) → n ≡ child_count t i → {s : Side} → s ≡ side_in positions i → (others chosen : ℕ)
    → others ≡ movers_flag s (get_or b i 0)
    → ((k : ℕ) → cond (eqb k chosen) (get_or b i 0) others
    ≡ cond (eqb k (chosen_child (bounds_by_side (side_in positions i) lows highs) i at (at + n - at))) (get_or b i 0)
    others)
    → (b' : List ℕ) → b' ≡ stored (λ k. cond (eqb k chosen) (get_or b i 0) others) at (at + n - at) b
    → Filled t f b₀ b' (at + n) (i + 1)
flags-step t wf positions lows highs f r {b₀} {b} {at} {i} q h n e {s} p others chosen o c b' w =
    let own = filled_at t wf f q h in
    let d : at + n - at ≡ child_count t i = omega arith in
    let x : chosen_child (bounds_by_side (side_in positions i) lows highs) i at (at + n - at)
    ≡ chosen_child (bounds_by_side (side_in positions i) lows highs) i (next t i) (child_count t i) =
    ap₂ (λ j m. chosen_child (bounds_by_side (side_in positions i) lows highs) i j m) q.visit.here d in
    let y : others ≡ movers_flag (side_in positions i) (f i) = o ∙ ap₂ movers_flag p own in
    filled-step t wf f q h n e (λ k. cond (eqb k chosen) (get_or b i 0) others)
    (λ k z. c k ∙ rw (x, y, own) (sym (r.at_child i k h z))) b' w

-- where a node's flag is that of all its children, none of them has to be chosen
pub none-chosen : (a b f g : ℕ) → f ≡ g → (k : ℕ) → cond (eqb k a) f g ≡ cond (eqb k b) f g
none-chosen a b f g e k = rw e (same-either (eqb k a) g ∙ sym (same-either (eqb k b) g))
  where
    same-either : (c : Bool) (v : ℕ) → cond c v v ≡ v
    same-either true v = refl
    same-either false v = refl
