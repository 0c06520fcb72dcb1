-- Small tables, with what the call answers, what the table holds then, and how many leaves alpha-beta reaches in it.
use Rattle.table.specs.declared.Rejection.{Rejection}
use Rattle.std.specs.Prelude.{ℕ, List, [], ◌∷◌, ◌++◌, Result, Ok, Err}
use Rattle.table.specs.Results.Cases.{leaf_frame, inner_frame, again_frame, small, capture, lone, single}
use Rattle.table.specs.Rejection.{Outcome, ◌leaving◌}

-- Max(Min(Min(a, b))), where Min moves twice
abbrev pub min_twice : ℕ → ℕ → List ℕ
min_twice a b = inner_frame 1 1 ++ inner_frame 2 1 ++ again_frame 3 2 ++ leaf_frame 0 a ++ leaf_frame 0 b

-- Max(a, Min(b, c), d)
abbrev pub uneven : ℕ → ℕ → ℕ → ℕ → List ℕ
uneven a b c d =
    inner_frame 1 3 ++ leaf_frame 0 a ++ inner_frame 4 2 ++ leaf_frame 0 d ++ leaf_frame 0 b ++ leaf_frame 0 c

-- Max(Min(Max(a, b), c))
abbrev pub larger_block : ℕ → ℕ → ℕ → List ℕ
larger_block a b c =
    inner_frame 1 1 ++ inner_frame 2 2 ++ inner_frame 4 2 ++ leaf_frame 0 c ++ leaf_frame 0 a ++ leaf_frame 0 b

-- a table, and what the call makes of it
pub record Case : Type 0 where
  pub table : List ℕ
  pub outcome : Outcome (Result ℕ Rejection) (List ℕ)

abbrev pub fills : (table : List ℕ) (leaves : ℕ) (filled : List ℕ) → Case
fills t n u = record { table = t; outcome = Ok n leaving u }

abbrev pub given : List Case
given =
    -- the first row of 01's small trees
    fills (small 1 2 3 4) 4 (small 1 0 3 2)
    -- a root that is a leaf, and a root over a single leaf
    ∷ fills lone 1 (leaf_frame 0 0)
    ∷ fills single 1 (inner_frame 1 1 ++ leaf_frame 0 0)
    -- Max moves twice, Min moves twice
    ∷ fills capture 2 (inner_frame 1 1 ++ again_frame 2 2 ++ leaf_frame 0 0 ++ leaf_frame 0 1)
    ∷ fills (min_twice 5 6) 2 (min_twice 1 0)
    -- blocks of different sizes
    ∷ fills (uneven 7 7 7 7) 4 (uneven 0 2 1 3)
    ∷ fills (larger_block 9 8 7) 3 (larger_block 1 2 0)
    ∷ []

-- a rejection: number and place, with the table as it was
abbrev pub refuses : (table : List ℕ) (number place : ℕ) → Case
refuses t q p =
    record { table = t; outcome = Err (record { number = q; place = p }) leaving t }

abbrev pub refused : List Case
refused =
    refuses [] 1 0
    ∷ refuses (leaf_frame 0 5 ++ 0 ∷ []) 3 1
    -- the values of leaves are asked about, though they play no part: 32,001
    ∷ refuses (leaf_frame 125 1) 7 0
    ∷ refuses (leaf_frame 0 0 ++ leaf_frame 0 0) 8 2
    ∷ []
