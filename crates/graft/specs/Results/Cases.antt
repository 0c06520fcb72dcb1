-- Small grafts, with what they answer, what the buffer holds then, and the value of the result.
use Rattle.table.specs.declared.Rejection.{Rejection}
use Rattle.std.specs.Prelude.{ℕ, zero, suc, ◌+◌, List, [], ◌∷◌, ◌++◌, replicate, Result, Ok, Err}
use Rattle.table.specs.Rejection.{Outcome, ◌leaving◌}
use Rattle.table.specs.Results.Cases.{leaf_frame, inner_frame, leaves, chain, small, lone, single}

-- a root with two leaves of these values
abbrev pub pair : ℕ → ℕ → List ℕ
pair a b = inner_frame 1 2 ++ leaf_frame 0 a ++ leaf_frame 0 b

-- an inner node with n children from number f on, where the same side moves as at its parent
abbrev pub again_frame : ℕ → ℕ → List ℕ
again_frame f n = 0 ∷ f ∷ n ∷ 1 ∷ 0 ∷ 0 ∷ []

-- Max moves twice, and then come the leaves 5 and 6
abbrev pub twice : List ℕ
twice = inner_frame 1 1 ++ again_frame 2 2 ++ leaf_frame 0 5 ++ leaf_frame 0 6

-- Max moves, then Min twice, and then comes the leaf 9: Max would move there, at depth 3
abbrev pub min_twice : List ℕ
min_twice = inner_frame 1 1 ++ inner_frame 2 1 ++ again_frame 3 1 ++ leaf_frame 0 9

-- Max(30990, 31000): a value that is no win, and a win
abbrev pub near_win : List ℕ
near_win = inner_frame 1 2 ++ leaf_frame 121 14 ++ leaf_frame 121 24

-- n nodes from number i on with one child each, and the table u
unfoldable pub chain_to : ℕ → ℕ → List ℕ → List ℕ
chain_to i zero u = u
chain_to i (suc n) u = inner_frame (i + 1) 1 ++ chain_to (i + 1) n u

-- a buffer of n bytes
abbrev pub buffer : ℕ → List ℕ
buffer n = replicate n 170

-- a graft, the buffer's length, and the outcome
pub record Case : Type 0 where
  pub first : List ℕ
  pub node : ℕ
  pub second : List ℕ
  pub room : ℕ
  pub outcome : Outcome (Result ℕ Rejection) (List ℕ)

-- a result: the number of nodes and the table, with so many bytes of the buffer behind it
abbrev pub gives : List ℕ → ℕ → List ℕ → ℕ → ℕ → List ℕ → ℕ → Case
gives t k u room n table rest =
    record { first = t; node = k; second = u; room = room; outcome = Ok n leaving (table ++ buffer rest) }

-- a rejection: number and place, with the buffer as it was
abbrev pub refuses : List ℕ → ℕ → List ℕ → ℕ → ℕ → ℕ → Case
refuses t k u room q p =
    record {
      first = t;
      node = k;
      second = u;
      room = room;
      outcome = Err (record { number = q; place = p }) leaving buffer room;
    }

abbrev pub given : List Case
given =
    -- at a leaf among others, with six bytes behind the result
    gives (small 1 2 3 4) 4 (pair 5 6) 60 9
    (inner_frame 1 2 ++ inner_frame 3 2 ++ inner_frame 5 2 ++ leaf_frame 0 1 ++ inner_frame 7 2 ++ leaf_frame 0 3
    ++ leaf_frame 0 4 ++ leaf_frame 0 5 ++ leaf_frame 0 6) 6
    -- before an inner node of the same level: its children move on
    ∷ gives (inner_frame 1 1 ++ inner_frame 2 2 ++ leaf_frame 0 1 ++ inner_frame 4 1 ++ leaf_frame 0 3) 2 (pair 5 6)
    42 7
    (inner_frame 1 1 ++ inner_frame 2 2 ++ inner_frame 4 2 ++ inner_frame 6 1 ++ leaf_frame 0 5 ++ leaf_frame 0 6
    ++ leaf_frame 0 3) 0
    -- two levels, each behind what stands before it on its level
    ∷ gives (small 1 2 3 4) 4 (small 5 6 7 8) 78 13
    (inner_frame 1 2 ++ inner_frame 3 2 ++ inner_frame 5 2 ++ leaf_frame 0 1 ++ inner_frame 7 2 ++ leaf_frame 0 3
    ++ leaf_frame 0 4 ++ inner_frame 9 2 ++ inner_frame 11 2 ++ leaf_frame 0 5 ++ leaf_frame 0 6 ++ leaf_frame 0 7
    ++ leaf_frame 0 8) 0
    -- a lone leaf grafted; a graft at a lone leaf; both
    ∷ gives (small 1 2 3 4) 4 lone 42 7
    (inner_frame 1 2 ++ inner_frame 3 2 ++ inner_frame 5 2 ++ leaf_frame 0 1 ++ lone ++ leaf_frame 0 3
    ++ leaf_frame 0 4) 0
    ∷ gives (leaf_frame 0 1) 0 (pair 5 6) 19 3 (pair 5 6) 1
    ∷ gives (leaf_frame 0 1) 0 lone 6 1 lone 0
    -- the same side moves twice below the graft, above it, and both
    ∷ gives (chain 0 2) 2 twice 36 6
    (inner_frame 1 1 ++ inner_frame 2 1 ++ inner_frame 3 1 ++ again_frame 4 2 ++ leaf_frame 0 5 ++ leaf_frame 0 6) 0
    ∷ gives min_twice 3 (pair 5 6) 36 6
    (inner_frame 1 1 ++ inner_frame 2 1 ++ again_frame 3 1 ++ inner_frame 4 2 ++ leaf_frame 0 5 ++ leaf_frame 0 6) 0
    ∷ gives min_twice 3 twice 42 7
    (inner_frame 1 1 ++ inner_frame 2 1 ++ again_frame 3 1 ++ inner_frame 4 1 ++ again_frame 5 2 ++ leaf_frame 0 5
    ++ leaf_frame 0 6) 0
    -- depth 18
    ∷ gives (chain 0 18) 18 lone 114 19 (chain_to 0 18 lone) 0
    ∷ []

abbrev pub refused : List Case
refused =
    -- the first table before the second, and that before the node
    refuses [] 9 (leaves 2) 0 1 0
    ∷ refuses (small 1 2 3 4) 7 (leaves 2) 0 8 2
    -- 17: no node, an inner node, a leaf with Min to move; before 18 and 10
    ∷ refuses (small 1 2 3 4) 7 (pair 5 6) 0 17 7
    ∷ refuses (small 1 2 3 4) 2 (pair 5 6) 54 17 2
    ∷ refuses single 1 (chain 0 18) 0 17 1
    -- where Max moves twice, Min would move at the leaf: at depth 2
    ∷ refuses twice 2 (pair 5 6) 60 17 2
    -- 18 before 10: depth 19
    ∷ refuses (chain 0 18) 18 single 0 18 0
    -- 10: a byte too few
    ∷ refuses (small 1 2 3 4) 4 (pair 5 6) 53 10 0
    ∷ []

-- a node as it may be named, however large
abbrev pub far : ℕ
far = 9999999

-- a graft and the score of the result's value: the value and 32,001
pub record Valued : Type 0 where
  pub first : List ℕ
  pub node : ℕ
  pub second : List ℕ
  pub score : ℕ

abbrev pub values : List Valued
values =
    -- 3: the leaf gives way to a better one for Max, but Min has 1 beside it
    record { first = small 1 2 3 4; node = 4; second = pair 5 6; score = 32004 }
    -- 5: Min has the better of 4 and 5 beside 7
    ∷ record { first = small 7 2 3 4; node = 4; second = pair 4 5; score = 32006 }
    -- 6: where Max moves twice he has the better leaf, below the graft and under Min's two moves
    ∷ record { first = chain 0 2; node = 2; second = twice; score = 32007 }
    ∷ record { first = min_twice; node = 3; second = twice; score = 32007 }
    -- depths are counted in the result: Max(30990, 31000) alone is 30,999, below a leaf at depth 10 it is 30,990
    ∷ record { first = lone; node = 0; second = near_win; score = 63000 }
    ∷ record { first = chain 0 10; node = 10; second = near_win; score = 62991 }
    ∷ []
