-- Cases of SPEC 12.2 beyond those that 01 marks P: wins and losses, second captures, leaves at two depths, runs that
-- are stopped, and short lists. They are tests; no statement cites them.
use Rattle.std.specs.Prelude.{ℕ, zero, suc, ◌+◌, List, [], ◌∷◌, ◌++◌, pos, neg_ℤ, replicate}
use Rattle.table.specs.Results.Cases.{leaf_frame, inner_frame, again_frame, small, capture}
use Rattle.methods.specs.declared.Method.TheVariants.{AlphaBeta, Mtd, MtdFrom, Sss}
use Rattle.methods.specs.declared.Answer.{Answer}
use Rattle.methods.specs.Outcome.{lent, search_outcome}
use Rattle.sss_states.specs.Entry.{blank}
use Rattle.sss.specs.Outcome.{sss_outcome}
use Rattle.demands.specs.Results.Rows.{found, spent, Row, row, row_with}

-- leaves of 31,000 and -31,000
abbrev win_leaf : List ℕ
win_leaf = leaf_frame 121 24

abbrev loss_leaf : List ℕ
loss_leaf = leaf_frame 134 232

-- a root with the leaves a and b; Max(Min(a, Max(a)))
abbrev pair : (a b : List ℕ) → List ℕ
pair a b = inner_frame 1 2 ++ a ++ b

abbrev nested : List ℕ → List ℕ
nested a = inner_frame 1 1 ++ inner_frame 2 2 ++ a ++ inner_frame 4 1 ++ a

-- n nodes from number i on with one child each, and the leaf a
unfoldable pub path : List ℕ → ℕ → ℕ → List ℕ
path a i zero = a
path a i (suc n) = inner_frame (i + 1) 1 ++ path a (i + 1) n

-- a root with the leaf a, and with the leaf b at depth 18
abbrev late : (a b : List ℕ) → List ℕ
late a b = inner_frame 1 2 ++ a ++ path b 2 17

-- Max(30999, 31000), Max(Min(31000, Max(31000))), Max of 30,990 and a win at depth 18; and the same with losses
abbrev pub win_tables : List (List ℕ)
win_tables =
    pair (leaf_frame 121 23) win_leaf
    ∷ nested win_leaf
    ∷ late (leaf_frame 121 14) win_leaf
    ∷ pair loss_leaf (leaf_frame 134 233)
    ∷ nested loss_leaf
    ∷ late (leaf_frame 134 242) loss_leaf
    ∷ []

-- a win at depth 1 is worth 30,999, which is no more than an ordinary 30,999; one value has two worths at two
-- depths, and MTD makes three passes; a win at depth 18 is worth less than 30,990; and the same of losses
abbrev pub win_rows : List Row
win_rows =
    row (pos 30999) 1 2 2 2 2 2 4 (1 ∷ 2 ∷ []) (1 ∷ 2 ∷ []) (3 ∷ 3 ∷ 1 ∷ [])
    ∷ row (pos 30997) 1 2 2 2 3 2 9 (2 ∷ 4 ∷ []) (2 ∷ 4 ∷ []) (3 ∷ 3 ∷ 2 ∷ 3 ∷ 3 ∷ [])
    ∷ row (pos 30990) 1 2 2 2 2 2 21 (1 ∷ 19 ∷ []) (1 ∷ 19 ∷ []) (3 ∷ 3 ∷ replicate 18 1)
    ∷ row (neg_ℤ (pos 30999)) 1 2 2 2 2 2 4 (1 ∷ 2 ∷ []) (1 ∷ 2 ∷ []) (3 ∷ 3 ∷ 1 ∷ [])
    ∷ row (neg_ℤ (pos 30998)) 1 2 2 2 2 2 9 (2 ∷ 4 ∷ []) (2 ∷ 4 ∷ []) (3 ∷ 3 ∷ 3 ∷ 2 ∷ 2 ∷ [])
    ∷ row (neg_ℤ (pos 30982)) 2 2 2 2 2 2 38 (1 ∷ 19 ∷ []) (1 ∷ 19 ∷ []) (3 ∷ 1 ∷ replicate 18 3)
    ∷ []

-- leaves of these values, from 0 to 255
unfoldable pub leaf_frames : List ℕ → List ℕ
leaf_frames [] = []
leaf_frames (v ∷ vs) = leaf_frame 0 v ++ leaf_frames vs

-- Max(Max(1, 2)); Max(Min(Min(2, 1))); Max five times in a row above 1 and 2; Max(Max(Min(1, 2), Min(3, 4))); and
-- Max(Min(Min(1, 2), Min(3, 4)), Max(Min(2, 5), Min(2, 1)))
abbrev pub capture_tables : List (List ℕ)
capture_tables =
    capture
    ∷ (inner_frame 1 1 ++ inner_frame 2 1 ++ again_frame 3 2 ++ leaf_frames (2 ∷ 1 ∷ []))
    ∷ (inner_frame 1 1 ++ again_frame 2 1 ++ again_frame 3 1 ++ again_frame 4 1 ++ again_frame 5 2
    ++ leaf_frames (1 ∷ 2 ∷ []))
    ∷ (inner_frame 1 1 ++ again_frame 2 2 ++ inner_frame 4 2 ++ inner_frame 6 2 ++ leaf_frames (1 ∷ 2 ∷ 3 ∷ 4 ∷ []))
    ∷ (inner_frame 1 2 ++ inner_frame 3 2 ++ again_frame 5 2
    ++ again_frame 7 2 ++ again_frame 9 2 ++ inner_frame 11 2 ++ inner_frame 13 2
    ++ leaf_frames (1 ∷ 2 ∷ 3 ∷ 4 ∷ 2 ∷ 5 ∷ 2 ∷ 1 ∷ []))
    ∷ []

-- by the depth the first would be 1
abbrev pub capture_rows : List Row
capture_rows =
    row (pos 2) 1 2 2 2 2 2 6 (2 ∷ 3 ∷ []) (2 ∷ 3 ∷ []) (3 ∷ 3 ∷ 1 ∷ 3 ∷ [])
    ∷ row (pos 1) 1 2 2 2 3 2 9 (3 ∷ 4 ∷ []) (3 ∷ 4 ∷ []) (3 ∷ 3 ∷ 3 ∷ 2 ∷ 3 ∷ [])
    ∷ row (pos 2) 1 2 2 2 2 2 12 (5 ∷ 6 ∷ []) (5 ∷ 6 ∷ []) (3 ∷ 3 ∷ 3 ∷ 3 ∷ 3 ∷ 1 ∷ 3 ∷ [])
    ∷ row (pos 3) 1 4 4 3 2 3 11 (4 ∷ 5 ∷ 6 ∷ 7 ∷ []) (4 ∷ 6 ∷ 7 ∷ []) (3 ∷ 3 ∷ 1 ∷ 3 ∷ 1 ∷ 0 ∷ 3 ∷ 2 ∷ [])
    ∷ row_with (pos 2) 2 8 7 4 2 4 14 (7 ∷ 8 ∷ 9 ∷ 10 ∷ 11 ∷ 12 ∷ 13 ∷ []) (7 ∷ 11 ∷ 13 ∷ 12 ∷ [])
    (3 ∷ 1 ∷ 3 ∷ 1 ∷ 0 ∷ 3 ∷ 1 ∷ 1 ∷ 0 ∷ 0 ∷ 0 ∷ 3 ∷ 2 ∷ 1 ∷ 0 ∷ [])
    (3 ∷ 1 ∷ 3 ∷ 1 ∷ 0 ∷ 3 ∷ 1 ∷ 1 ∷ 0 ∷ 0 ∷ 0 ∷ 3 ∷ 2 ∷ 0 ∷ 1 ∷ [])
    ∷ []

-- Max(Min(2, 3), 1), whose leaves lie at two depths: from left to right they are the nodes 3, 4 and 2
abbrev pub deeper_tables : List (List ℕ)
deeper_tables = (inner_frame 1 2 ++ inner_frame 3 2 ++ leaf_frames (1 ∷ 2 ∷ 3 ∷ [])) ∷ []

abbrev pub deeper_rows : List Row
deeper_rows = row (pos 2) 1 3 3 3 2 3 8 (3 ∷ 4 ∷ 2 ∷ []) (3 ∷ 2 ∷ 4 ∷ []) (3 ∷ 3 ∷ 1 ∷ 3 ∷ 2 ∷ []) ∷ []

-- Max(Min(2, 3), Min(4, 1)) by SSS* within an allowance of n leaves: what it gives, and its list, lent with a 9 in each
-- of the 7 entries
pub record StoppedRow : Type 0 where
  pub gives : Answer
  pub order : List ℕ

abbrev pub stopped_at : ℕ → StoppedRow
stopped_at n =
    let s = search_outcome (Sss n) (small 2 3 4 1) (lent (replicate 7 0) (replicate 7 0) (replicate 7 9)) in
    record { gives = s.answer; order = s.left.order }

abbrev stopped_row : Answer → List ℕ → StoppedRow
stopped_row g o = record { gives = g; order = o }

-- from no leaf to the 4 that it needs
abbrev pub stopped_rows : List StoppedRow
stopped_rows =
    stopped_row (spent (pos 32001) 0 2) (replicate 7 9)
    ∷ stopped_row (spent (pos 32001) 1 4) (3 ∷ replicate 6 9)
    ∷ stopped_row (spent (pos 4) 2 6) (3 ∷ 5 ∷ replicate 5 9)
    ∷ stopped_row (spent (pos 2) 3 8) (3 ∷ 5 ∷ 6 ∷ replicate 4 9)
    ∷ stopped_row (found (pos 2) 1 4 11) (3 ∷ 5 ∷ 6 ∷ 4 ∷ replicate 3 9)
    ∷ []

-- the same tree by each method, and by SSS* over a lent list of states, with a list of n entries for the leaves
abbrev pub with_entries : ℕ → List Answer
with_entries n =
    let t = small 2 3 4 1 in
    let l = lent (replicate 7 0) (replicate 7 0) (replicate n 0) in
    (search_outcome AlphaBeta t l).answer
    ∷ (search_outcome Mtd t l).answer
    ∷ (search_outcome (MtdFrom (pos 0)) t l).answer
    ∷ (search_outcome (Sss 7) t l).answer
    ∷ (sss_outcome 7 t (replicate 7 blank) l).answer.answer
    ∷ []
