-- Small certificates, with the verdict on each.
use Rattle.table.specs.declared.Rejection.{Rejection}
use Rattle.std.specs.Prelude.{ℕ, List, [], ◌∷◌, ◌++◌, pos, negsuc, Result, Ok, Err, ℤ}
use Rattle.table.specs.Results.Cases.{leaf_frame, inner_frame, small, capture, lone}

-- a rejection with its number and place
abbrev pub rejected_at : ℕ → ℕ → Result ℤ Rejection
rejected_at number place = Err (record { number = number; place = place })

-- a root with a leaf of 31,000 and a Min node above one leaf, of the value of these two bytes
abbrev pub two_wins : ℕ → ℕ → List ℕ
two_wins high low = inner_frame 1 2 ++ leaf_frame 121 24 ++ inner_frame 3 1 ++ leaf_frame high low

-- flags lent for a table, and the verdict on them
pub record Case : Type 0 where
  pub table : List ℕ
  pub flags : List ℕ
  pub verdict : Result ℤ Rejection

abbrev pub case : List ℕ → List ℕ → Result ℤ Rejection → Case
case t flags v = record { table = t; flags = flags; verdict = v }

abbrev pub cases : List Case
cases =
    case (small 1 2 3 4) (3 ∷ 1 ∷ 3 ∷ 1 ∷ 0 ∷ 3 ∷ 2 ∷ []) (Ok (pos 3))
    -- a byte past the nodes is not asked
    ∷ case (small 1 2 3 4) (3 ∷ 1 ∷ 3 ∷ 1 ∷ 0 ∷ 3 ∷ 2 ∷ 200 ∷ []) (Ok (pos 3))
    -- a flag is missing
    ∷ case (small 1 2 3 4) (3 ∷ 1 ∷ 3 ∷ 1 ∷ 0 ∷ 3 ∷ []) (rejected_at 10 0)
    -- a flag past 3
    ∷ case (small 1 2 3 4) (3 ∷ 1 ∷ 3 ∷ 1 ∷ 4 ∷ 3 ∷ 200 ∷ []) (rejected_at 11 4)
    -- the root is in neither tree
    ∷ case (small 1 2 3 4) (0 ∷ 0 ∷ 0 ∷ 0 ∷ 0 ∷ 0 ∷ 0 ∷ []) (rejected_at 12 0)
    -- a Max node lacks a child in the max tree
    ∷ case (small 1 2 3 4) (3 ∷ 0 ∷ 3 ∷ 0 ∷ 0 ∷ 3 ∷ 2 ∷ []) (rejected_at 12 0)
    -- a Min node has both children in the max tree
    ∷ case (small 1 2 3 4) (3 ∷ 1 ∷ 3 ∷ 1 ∷ 1 ∷ 3 ∷ 2 ∷ []) (rejected_at 12 1)
    -- a node outside the min tree has a child in it, before one that lacks a child there
    ∷ case (small 1 2 3 4) (3 ∷ 1 ∷ 3 ∷ 1 ∷ 2 ∷ 3 ∷ 0 ∷ []) (rejected_at 13 1)
    -- both are solution trees, of values 4 and 3
    ∷ case (small 1 2 3 4) (3 ∷ 1 ∷ 3 ∷ 1 ∷ 0 ∷ 2 ∷ 3 ∷ []) (rejected_at 14 0)
    -- solution trees of the values 31,000 and 31,000, but of the worths 30,999 and 30,998; and of 31,000 and 31,001, of
    -- one worth
    ∷ case (two_wins 121 24) (3 ∷ 1 ∷ 3 ∷ 3 ∷ []) (rejected_at 14 0)
    ∷ case (two_wins 121 25) (3 ∷ 1 ∷ 3 ∷ 3 ∷ []) (Ok (pos 30999))
    -- where Max moves twice the max tree has all children at both nodes, the min tree one
    ∷ case capture (3 ∷ 3 ∷ 1 ∷ 3 ∷ []) (Ok (pos 2))
    ∷ case capture (3 ∷ 3 ∷ 3 ∷ 2 ∷ []) (rejected_at 12 1)
    ∷ case lone (3 ∷ []) (Ok (negsuc 4))
    ∷ case lone (2 ∷ []) (rejected_at 12 0)
    ∷ case lone (1 ∷ []) (rejected_at 13 0)
    ∷ case lone (0 ∷ []) (rejected_at 12 0)
    -- the table itself is refused
    ∷ case [] (3 ∷ []) (rejected_at 1 0)
    ∷ []
