-- The table that the rule makes (SPEC 18.3).
use Rattle.std.specs.Prelude.{ℕ, zero, suc, List, [], ◌∷◌}
use Rattle.table.specs.Frame.{max_children, max_depth}
use Rattle.least_count.specs.Rule.{least_count}

-- the counts of one width, n of them, for the depths from d on
abbrev pub count_row : (w d n : ℕ) → List ℕ
count_row w d zero = []
count_row w d (suc n) = least_count w d ∷ count_row w (suc d) n

-- the row of a width
abbrev pub count_row_of : ℕ → List ℕ
count_row_of w = count_row w 0 (suc max_depth)

-- the rows of n widths, from w on
abbrev pub count_rows : (w n : ℕ) → List (List ℕ)
count_rows w zero = []
count_rows w (suc n) = count_row_of w ∷ count_rows (suc w) n

-- the whole: widths 1 to 40, depths 0 to 18
unfoldable pub ruled : List (List ℕ)
ruled = count_rows 1 max_children
