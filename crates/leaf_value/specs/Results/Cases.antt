-- Small cases: a table, the named node, the wanted value, and the answer that 02 gives.
use Rattle.table.specs.declared.Rejection.{Rejection}
use Rattle.std.specs.Prelude.{ℕ, zero, suc, ◌+◌, List, [], ◌∷◌, ◌++◌, ℤ, pos, neg_ℤ, Result, Ok, Err}

pub record Case : Type 0 where
  pub table : List ℕ
  pub node : ℕ
  pub wanted : ℤ
  pub answer : Result ℤ Rejection

-- a frame: the first child, the count of children, byte 3, and the two bytes of the value
abbrev frame : (first count same high low : ℕ) → List ℕ
frame first count same high low = 0 ∷ first ∷ count ∷ same ∷ high ∷ low ∷ []

-- a path of n inner nodes from the number i on, and a leaf of value 0 below it
abbrev path : (i n : ℕ) → List ℕ
path i zero = frame 0 0 0 0 0
path i (suc n) = frame (i + 1) 1 0 0 0 ++ path (i + 1) n

-- Max's choice of 5 and another leaf, 2; a choice of 5 and Min's choice of 3 and another leaf, 4
abbrev choice : List ℕ
choice = frame 1 2 0 0 0 ++ frame 0 0 0 0 5 ++ frame 0 0 0 0 0

abbrev settled : List ℕ
settled = frame 1 2 0 0 0 ++ frame 0 0 0 0 5 ++ frame 3 2 0 0 0 ++ frame 0 0 0 0 3 ++ frame 0 0 0 0 0

-- a leaf at depth 18, node 19, below Min's choice of -30,985; and below Max's choice of -31,986 at depth 1
abbrev capped : List ℕ
capped = frame 1 1 0 0 0 ++ frame 2 2 0 0 0 ++ frame 4 1 0 0 0 ++ frame 0 0 0 134 247 ++ path 4 15

abbrev floored : List ℕ
floored = frame 1 2 0 0 0 ++ frame 3 1 0 0 0 ++ frame 0 0 0 131 14 ++ path 3 16

abbrev asks : (t : List ℕ) (k : ℕ) (w : ℤ) → Result ℤ Rejection → Case
asks t k w r = record { table = t; node = k; wanted = w; answer = r }

abbrev no : (q p : ℕ) → Result ℤ Rejection
no q p = Err (record { number = q; place = p })

abbrev minus : ℕ → ℤ
minus n = neg_ℤ (pos n)

abbrev pub cases : List Case
cases =
    -- a lone leaf counts with its value
    asks (path 0 0) 0 (pos 7) (Ok (pos 7))
    ∷ asks (path 0 0) 0 (minus 32000) (Ok (minus 32000))
    ∷ asks (path 0 0) 0 (pos 32000) (Ok (pos 32000))
    -- at depth 1 a loss counts one more, so -30,999 is reached by -31,000 first
    ∷ asks (path 0 1) 1 (minus 30999) (Ok (minus 31000))
    ∷ asks (path 0 1) 1 (minus 30998) (Ok (minus 30998))
    ∷ asks (path 0 1) 1 (pos 30999) (Ok (pos 30999))
    ∷ asks (path 0 1) 1 (pos 31000) (Ok (pos 31001))
    ∷ asks (path 0 1) 1 (minus 32000) (no 21 1)
    -- at depth 18
    ∷ asks (path 0 18) 18 (minus 30990) (Ok (minus 31008))
    ∷ asks (path 0 18) 18 (minus 30982) (Ok (minus 31000))
    ∷ asks (path 0 18) 18 (minus 30981) (Ok (minus 30981))
    ∷ asks (path 0 18) 18 (pos 31982) (Ok (pos 32000))
    ∷ asks (path 0 18) 18 (pos 31983) (no 21 18)
    ∷ asks (path 0 18) 18 (pos 31990) (no 21 18)
    -- bounds of the root: -30,985 above, -31,985 below, what -32,000 counts at depth 18 above that
    ∷ asks capped 19 (minus 30985) (Ok (minus 31003))
    ∷ asks capped 19 (minus 30984) (no 21 19)
    ∷ asks floored 19 (minus 31985) (no 21 19)
    ∷ asks floored 19 (minus 31982) (Ok (minus 32000))
    -- a value below, at and above another choice; and a root that the leaf has no influence on
    ∷ asks choice 2 (pos 4) (no 21 2)
    ∷ asks choice 2 (pos 5) (Ok (minus 32000))
    ∷ asks choice 2 (pos 6) (Ok (pos 6))
    ∷ asks settled 4 (pos 5) (Ok (minus 32000))
    ∷ asks settled 4 (pos 3) (no 21 4)
    -- the order of the questions: no table, no leaf, out of range, none
    ∷ asks [] 9 (pos 40000) (no 1 0)
    ∷ asks choice 0 (pos 40000) (no 19 0)
    ∷ asks choice 3 (pos 5) (no 19 3)
    ∷ asks choice 2 (pos 32001) (no 20 0)
    ∷ asks choice 2 (minus 32001) (no 20 0)
    ∷ asks choice 2 (minus 32000) (no 21 2)
    ∷ []
