-- The check of a table: questions 1 to 9 in order (SPEC 4.2, 4.3).
use Rattle.std.specs.Prelude.{ℕ, zero, suc, ◌%◌, ◌≡◌, Bool, true, ◌&&◌, ◌||◌, List, [], ◌∷◌, ltb, leb, eqb, length}
use Rattle.std.specs.Prelude.{Result}
use Rattle.std.proofs.Math.Option.{Option, none}
use Rattle.table.specs.declared.Rejection.{Rejection}
use Rattle.table.specs.Frame.{frame_size, max_children, max_depth, frames, first_child, child_count, byte3, same_mover}
use Rattle.table.specs.Frame.{max_table, value_bytes, stored_score, next}
use Rattle.table.specs.Position.{depth_of}
use Rattle.gametree.specs.Trees.{least, greatest}
use Rattle.table.specs.Rejection.{ask, ◌and_then◌, each_node, answer}

-- 1: is there at least one byte?
abbrev pub check1 : List ℕ → Option Rejection
check1 t = ask (ltb 0 (length t)) 1 0

-- 2: is the table at most 24,576 bytes?
abbrev pub check2 : List ℕ → Option Rejection
check2 t = ask (leb (length t) max_table) 2 0

-- 3: are no bytes left over?
abbrev pub check3 : List ℕ → Option Rejection
check3 t = ask (eqb (length t % frame_size) 0) 3 (frames t)

-- byte 3 is zero, or 1 on an inner node other than the root
abbrev pub byte3_right : List ℕ → ℕ → Bool
byte3_right t i = eqb (byte3 t i) 0 || (ltb 0 i && (ltb 0 (child_count t i) && eqb (byte3 t i) same_mover))

-- 4: is byte 3 valid?
abbrev pub check4 : List ℕ → ℕ → Option Rejection
check4 t i = ask (byte3_right t i) 4 i

-- 5: at most 40 children?
abbrev pub check5 : List ℕ → ℕ → Option Rejection
check5 t i = ask (leb (child_count t i) max_children) 5 i

-- the first child of a leaf is 0, that of an inner node 1 plus the counts before it, and greater than its own number
abbrev pub first_child_right : List ℕ → ℕ → ℕ → Bool
first_child_right t i zero = eqb (first_child t i) 0
first_child_right t i (suc n) = eqb (first_child t i) (next t i) && ltb i (first_child t i)

-- 6: is the number of the first child valid?
abbrev pub check6 : List ℕ → ℕ → Option Rejection
check6 t i = ask (first_child_right t i (child_count t i)) 6 i

-- the value of a leaf is from -32,000 to 32,000 (a score from 1 to 64,001), that of an inner node is zero
abbrev pub value_right : List ℕ → ℕ → ℕ → Bool
value_right t i zero = ltb least (stored_score t i) && ltb (stored_score t i) greatest
value_right t i (suc n) = eqb (value_bytes t i) 0

-- 7: is the value valid?
abbrev pub check7 : List ℕ → ℕ → Option Rejection
check7 t i = ask (value_right t i (child_count t i)) 7 i

-- 4 to 7 are put to one node after the other
abbrev pub check_node : List ℕ → ℕ → Option Rejection
check_node t i = check4 t i and_then check5 t i and_then check6 t i and_then check7 t i

-- 8: is 1 plus all child counts the number of frames?
abbrev pub check8 : List ℕ → Option Rejection
check8 t = ask (eqb (next t (frames t)) (frames t)) 8 (frames t)

-- 9: is no node deeper than 18?
abbrev pub check9 : List ℕ → ℕ → Option Rejection
check9 t i = ask (leb (depth_of t i) max_depth) 9 i

-- the first "no" to questions 4 to 7 of each node in turn
abbrev pub nodes_rejection : List ℕ → Option Rejection
nodes_rejection t = each_node (check_node t) 0 (frames t)

-- the first "no" to question 9 of each node in turn
abbrev pub depths_rejection : List ℕ → Option Rejection
depths_rejection t = each_node (check9 t) 0 (frames t)

-- the first "no" to questions 4 to 9, which concern the frames
unfoldable pub frames_rejection : List ℕ → Option Rejection
frames_rejection t = nodes_rejection t and_then check8 t and_then depths_rejection t

-- the first "no" to questions 1 to 9
unfoldable pub rejection : List ℕ → Option Rejection
rejection t = check1 t and_then check2 t and_then check3 t and_then frames_rejection t

-- has each of the buffers, given by their lengths, at least n entries
abbrev pub long_enough : ℕ → List ℕ → Bool
long_enough n [] = true
long_enough n (l ∷ ls) = leb n l && long_enough n ls

-- 10: has each lent buffer an entry per node?
abbrev pub check10 : ℕ → List ℕ → Option Rejection
check10 n lengths = ask (long_enough n lengths) 10 0

-- an accepted table (01: an accepted tree): questions 1 to 9 get no "no"
abbrev pub Accepted : List ℕ → Type 0
Accepted t = rejection t ≡ none

-- the answer of the check of a table
abbrev pub checked : List ℕ → Result ℕ Rejection
checked t = answer (frames t) (rejection t)
