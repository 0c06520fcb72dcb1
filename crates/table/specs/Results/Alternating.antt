-- Tables in which the sides take turns, as in every file from before a second capture (02: N8), and what they meant.
use Rattle.std.specs.Prelude.{ℕ, zero, suc, ◌+◌, ◌%◌, ◌<◌, ◌≡◌, cond, List, eqb}
use Rattle.std.proofs.Math.Option.{Option}
use Rattle.gametree.specs.declared.Side.{Side}
use Rattle.gametree.specs.declared.Side.TheVariants.{Max, Min}
use Rattle.gametree.specs.Trees.{Tree, leaf}
use Rattle.table.specs.declared.Rejection.{Rejection}
use Rattle.table.specs.Frame.{frames, first_child, child_count, byte3, same_mover}
use Rattle.table.specs.Tree.{node}
use Rattle.table.specs.Rejection.{ask, ◌and_then◌, each_node}
use Rattle.table.specs.Check.{check1, check2, check3, check5, check6, check7, check8, depths_rejection}

-- no byte 3 is 1; all are zero if the table is accepted
abbrev pub Alternating : List ℕ → Type 0
Alternating t = (i : ℕ) → i < frames t → byte3 t i ≡ same_mover → ⊥

-- question 4 as it was: is byte 3 zero?
abbrev pub zero_check4 : List ℕ → ℕ → Option Rejection
zero_check4 t i = ask (eqb (byte3 t i) 0) 4 i

-- and with it the first "no" to questions 4 to 9, and to questions 1 to 9
abbrev pub zero_frames : List ℕ → Option Rejection
zero_frames t =
    each_node (λ i. zero_check4 t i and_then check5 t i and_then check6 t i and_then check7 t i) 0 (frames t)
    and_then check8 t and_then depths_rejection t

abbrev pub zero_rejection : List ℕ → Option Rejection
zero_rejection t = check1 t and_then check2 t and_then check3 t and_then zero_frames t

-- Max at even depth, Min at odd depth
abbrev pub side_by_depth : ℕ → Side
side_by_depth d = cond (eqb (d % 2) 0) Max Min

-- the tree below node i, which stands at depth d, as it was: who moves is read from the depth; f bounds its levels
unfoldable pub grow_by_depth : (f : ℕ) → List ℕ → (d i : ℕ) → Tree
grow_by_depth zero t d i = leaf i
grow_by_depth (suc f) t d i = node i (side_by_depth d) (grow_by_depth f t (d + 1)) (first_child t i) (child_count t i)

abbrev pub tree_by_depth : List ℕ → Tree
tree_by_depth t = grow_by_depth (frames t) t 0 0
