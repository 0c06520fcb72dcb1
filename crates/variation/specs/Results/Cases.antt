-- Small certificates, with the outcome of the call on each.
use Rattle.table.specs.declared.Rejection.{Rejection}
use Rattle.std.specs.Prelude.{ℕ, List, [], ◌∷◌, Result, Ok, Err}
use Rattle.table.specs.Rejection.{Outcome, ◌leaving◌}
use Rattle.table.specs.Results.Cases.{small, capture, lone}

-- a rejection with its number and place
abbrev rejected_at : ℕ → ℕ → Result ℕ Rejection
rejected_at number place = Err (record { number = number; place = place })

-- a table, flags and a list that are lent, and the outcome
pub record Case : Type 0 where
  pub table : List ℕ
  pub flags : List ℕ
  pub line : List ℕ
  pub outcome : Outcome (Result ℕ Rejection) (List ℕ)

abbrev case : List ℕ → List ℕ → List ℕ → Outcome (Result ℕ Rejection) (List ℕ) → Case
case t flags line o = record { table = t; flags = flags; line = line; outcome = o }

abbrev nines : List ℕ
nines = 9 ∷ 9 ∷ 9 ∷ 9 ∷ 9 ∷ 9 ∷ 9 ∷ 9 ∷ []

abbrev pub cases : List Case
cases =
    case (small 1 2 3 4) (3 ∷ 1 ∷ 3 ∷ 1 ∷ 0 ∷ 3 ∷ 2 ∷ []) nines
    (Ok 3 leaving 0 ∷ 2 ∷ 5 ∷ 9 ∷ 9 ∷ 9 ∷ 9 ∷ 9 ∷ [])
    -- where Max moves twice
    ∷ case capture (3 ∷ 3 ∷ 1 ∷ 3 ∷ []) nines (Ok 3 leaving 0 ∷ 1 ∷ 3 ∷ 9 ∷ 9 ∷ 9 ∷ 9 ∷ 9 ∷ [])
    -- the root is a leaf
    ∷ case lone (3 ∷ []) (9 ∷ []) (Ok 1 leaving 0 ∷ [])
    -- a short list; a short certificate; solution trees of values 4 and 3; a refused table
    ∷ case lone (2 ∷ []) [] (rejected_at 10 0 leaving [])
    ∷ case (small 1 2 3 4) (3 ∷ 1 ∷ 3 ∷ 1 ∷ 0 ∷ 3 ∷ []) nines (rejected_at 10 0 leaving nines)
    ∷ case (small 1 2 3 4) (3 ∷ 1 ∷ 3 ∷ 1 ∷ 0 ∷ 2 ∷ 3 ∷ []) nines (rejected_at 14 0 leaving nines)
    ∷ case [] (3 ∷ []) nines (rejected_at 1 0 leaving nines)
    ∷ []
