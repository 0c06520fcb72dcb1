-- No question of a search has the number 0, so that an answer of numbers whose `refused` is 0 is no refusal.
use Rattle.prelude.proofs.{ℕ, zero, suc, ◌+◌, ◌%◌, arith, ◌≡◌, ap, Bool, true, false, Option, none, some, List, eqb}
use Rattle.prelude.proofs.{leb, ltb, length}
use Rattle.lists.proofs.Choice.{clash}
use Rattle.table.specs.declared.Rejection.{Rejection}
use Rattle.table.specs.{frame_size, max_table, max_children, max_depth, frames, child_count, next, depth_of, ask}
use Rattle.table.specs.{◌and_then◌}
use Rattle.table.specs.{each_node, check1, check2, check3, check4, check5, check6, check7, check8, check9, check10}
use Rattle.table.specs.{byte3_right, first_child_right, value_right, long_enough, check_node, nodes_rejection}
use Rattle.table.specs.{depths_rejection}
use Rattle.table.specs.{frames_rejection, rejection}
use Rattle.certificate_write.specs.{search_rejection}

-- a "no" has a number other than 0
abbrev Numbered : Option Rejection → Type 0
Numbered q = (r : Rejection) → q ≡ some r → r.number ≡ 0 → ⊥

asked : (b : Bool) (q p : ℕ) → Numbered (ask b (suc q) p)
asked true q p r e z = clash (cc)
asked false q p r e z =
    let i : record { number = suc q; place = p } ≡ r = cc in omega (arith, ap (λ x. x.number) i)

then : (x y : Option Rejection) → Numbered x → Numbered y → Numbered (x and_then y)
then none y f g = g
then (some s) y f g = f

each : (q : ℕ → Option Rejection) → ((i : ℕ) → Numbered (q i)) → (i n : ℕ) → Numbered (each_node q i n)
unfolding each_node
each q f i zero = λ r e z. clash (cc)
each q f i (suc n) = then (q i) (each_node q (i + 1) n) (f i) (each q f (i + 1) n)

module _ (t : List ℕ) where
  node : (i : ℕ) → Numbered (check_node t i)
  node i =
      then (check4 t i) (check5 t i and_then check6 t i and_then check7 t i) (asked (byte3_right t i) 3 i)
      (then (check5 t i) (check6 t i and_then check7 t i) (asked (leb (child_count t i) max_children) 4 i)
      (then (check6 t i) (check7 t i) (asked (first_child_right t i (child_count t i)) 5 i)
      (asked (value_right t i (child_count t i)) 6 i)))

  in-frames : Numbered (frames_rejection t)
  unfolding frames_rejection
  in-frames =
      then (nodes_rejection t) (check8 t and_then depths_rejection t) (each (check_node t) node 0 (frames t))
      (then (check8 t) (depths_rejection t) (asked (eqb (next t (frames t)) (frames t)) 7 (frames t))
      (each (check9 t) (λ i. asked (leb (depth_of t i) max_depth) 8 i) 0 (frames t)))

  in_table : Numbered (rejection t)
  unfolding rejection
  in_table =
      then (check1 t) (check2 t and_then check3 t and_then frames_rejection t) (asked (ltb 0 (length t)) 0 0)
      (then (check2 t) (check3 t and_then frames_rejection t) (asked (leb (length t) max_table) 1 0)
      (then (check3 t) (frames_rejection t) (asked (eqb (length t % frame_size) 0) 2 (frames t)) in-frames))

  pub never-zero : (lengths : List ℕ) (r : Rejection) → search_rejection t lengths ≡ some r → r.number ≡ 0 → ⊥
  never-zero lengths =
      then (rejection t) (check10 (frames t) lengths) in_table (asked (long_enough (frames t) lengths) 9 0)
