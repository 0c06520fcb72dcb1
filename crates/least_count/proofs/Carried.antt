-- A table that is the ruled one as a whole has the rule's count at each entry.
use Rattle.prelude.proofs.{ℕ, zero, suc, ◌+◌, ◌-◌, ◌≤◌, ◌<◌, arith, ◌≡◌, ap, ap₂, ◌∙◌, List, [], get_or}
use Rattle.table.specs.{max_children, max_depth}
use Rattle.least_count.specs.{least_count, count_row, count_row_of, count_rows, ruled}

row_at : (w d n k : ℕ) → k < n → get_or (count_row w d n) k 0 ≡ least_count w (d + k)
row_at w d zero k h = absurd (omega arith)
row_at w d (suc n) zero h = ap (least_count w) (omega arith)
row_at w d (suc n) (suc k) h = row_at w (suc d) n k (omega arith) ∙ ap (least_count w) (omega arith)

rows_at : (w n k : ℕ) → k < n → get_or (count_rows w n) k [] ≡ count_row_of (w + k)
rows_at w zero k h = absurd (omega arith)
rows_at w (suc n) zero h = ap count_row_of (omega arith)
rows_at w (suc n) (suc k) h = rows_at (suc w) n k (omega arith) ∙ ap count_row_of (omega arith)

pub carried : (table : List (List ℕ)) → table ≡ ruled → (w d : ℕ) → 0 < w → w ≤ max_children → d ≤ max_depth
    → get_or (get_or table (w - 1) []) d 0 ≡ least_count w d
unfolding ruled
carried table e w d a b c =
    ap (λ (x : List (List ℕ)). get_or (get_or x (w - 1) []) d 0) e
    ∙ ap (λ (x : List ℕ). get_or x d 0) (rows_at 1 max_children (w - 1) (omega arith))
    ∙ row_at (1 + (w - 1)) 0 (suc max_depth) d (omega arith)
    ∙ ap₂ least_count (omega arith) (omega arith)
