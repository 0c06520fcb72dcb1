-- The recursion at a node: what a turn needs, what it hands back, and that the turns together fill the node's leaves.
use Rattle.prelude.proofs.{ℕ, suc, ◌+◌, ◌-◌, ◌≤◌, ◌<◌, arith, ◌≡◌, refl, sym, ap, ◌∙◌, List, length}
use Rattle.gametree.specs.declared.Side.{Side}
use Rattle.gametree.specs.declared.Side.TheVariants.{Max, Min}
use Rattle.gametree.specs.{leaves}
use Rattle.table.specs.{max_nodes, frames, first_child, child_count, child_side, tree_at, ChildOf}
use Rattle.table.proofs.Next.{child-later, child-within}
use Rattle.table.proofs.Positions.{position-child}
use Rattle.table.proofs.Proper.{every-leaf}
use Rattle.table.proofs.Shapes.{same_first, same_count, same-position, same-trees}
use Rattle.table.proofs.Trees.{tree-leaf, tree-inner}
use Rattle.worst_fill.specs.{with_rank, ranked, Fillable, nth_child}
use Rattle.worst_fill.proofs.Kept.{Kept, kept_self, kept_then, ranked-kept}
use Rattle.worst_fill.proofs.Turns.{Filling, turns_from, next_grows, all-turns}

-- what node i is to be given, from the rank r on
abbrev due : (t : List ℕ) (i r : ℕ) → Filling
due t i r = record { next = r + length (leaves (tree_at t i)); table = ranked r (tree_at t i) t }

-- at the head of the loop over the n children of node i, from number `first` on: the turns that are left make of the
-- next rank and the table u what is due
pub record RankLoop (t : List ℕ) (i : ℕ) (s : Side) (r first n : ℕ) (u : List ℕ) (next turn : ℕ) : Type 0 where
  pub to : turn ≤ n
  pub kept : Kept t u
  pub left : turns_from (tree_at t) (nth_child s first n) next u turn (n - turn) ≡ due t i r

module _ (t : List ℕ) (i : ℕ) (s : Side) (r : ℕ) (f : Fillable t i s r) where
  -- a leaf has one rank
  pub leaf-few : child_count t i ≡ 0 → r + 1 ≤ max_nodes
  leaf-few z = rw (tree-leaf t f.formed i f.inside z) at f.at_most

  pub leaf-due : child_count t i ≡ 0 → (u : List ℕ) → u ≡ with_rank i r t
      → (r + 1 ≡ r + length (leaves (tree_at t i))) × (u ≡ ranked r (tree_at t i) t)
  leaf-due z u e = rw (tree-leaf t f.formed i f.inside z) (refl, e)

  -- before the first turn all is due
  pub turns-begin : (first n : ℕ) → 0 < n → first ≡ first_child t i → n ≡ child_count t i
      → RankLoop t i s r first n t r 0
  turns-begin first n h a b =
      let m : n ≡ suc (n - 1) = omega arith in
      let z : n - 0 ≡ n = omega arith in
      record {
        to = omega arith;
        kept = kept_self t f.formed;
        left =
            rw (z, m)
            (all-turns (tree_at t) s first r t (n - 1)
            ∙ rw (tree-inner t f.formed i (n - 1) f.inside (sym b ∙ m), ← f.mover, a));
      }

  module _ (first n : ℕ) (u : List ℕ) (next turn : ℕ) (h : RankLoop t i s r first n u next turn)
      (a : first ≡ first_child t i) (b : n ≡ child_count t i) (l : turn < n) where
    -- the child of this turn, in the table as it was and as it is
    turn-within : (q : Side) → (first ≤ nth_child q first n turn) × (nth_child q first n turn < first + n)
    turn-within Max = (omega arith, omega arith)
    turn-within Min = (omega arith, omega arith)

    child : ChildOf t i (nth_child s first n turn)
    child = let w = turn-within s in record { from = omega (arith, w.0); to = omega (arith, w.1) }

    inside-now : i < frames u
    inside-now = omega (arith, f.inside, h.kept.shape.same_frames)

    child-now : ChildOf u i (nth_child s first n turn)
    child-now =
        let w = turn-within s in
        let p = same_first t u h.kept.shape i f.inside in
        let q = same_count t u h.kept.shape i f.inside in
        record { from = omega (arith, w.0); to = omega (arith, w.1) }

    same-leaves : tree_at t (nth_child s first n turn) ≡ tree_at u (nth_child s first n turn)
    same-leaves =
        same-trees t u h.kept.shape f.formed h.kept.formed (nth_child s first n turn)
        (child-within t f.formed f.inside child)

    module _ (k : ℕ) (e : k ≡ nth_child s first n turn) where
      -- it lies within the table
      pub turn_inside : k < frames u
      turn_inside = rw e (child-within u h.kept.formed inside-now child-now)

      -- and behind the node
      pub turn-later : frames u - k < frames t - i
      turn-later =
          omega (
            arith,
            rw (← e) at (child-later t f.formed f.inside child),
            h.kept.shape.same_frames,
            f.inside,
          )

      -- one more turn is what was left, less the first of its turns
      turn-left : turns_from (tree_at t) (nth_child s first n) (next + length (leaves (tree_at u k)))
          (ranked next (tree_at u k) u) (turn + 1) (n - (turn + 1)) ≡ due t i r
      unfolding turns_from
      turn-left =
          let m : n - turn ≡ suc (n - (turn + 1)) = omega arith in
          rw (e, ← same-leaves) (rw m at h.left)

      turn-few : next + length (leaves (tree_at u k)) ≤ max_nodes
      turn-few =
          omega (
            arith,
            next_grows (tree_at t) (nth_child s first n) (next + length (leaves (tree_at u k)))
                (ranked next (tree_at u k) u)
                (turn + 1) (n - (turn + 1)),
            ap (λ x. x.next) turn-left,
            f.at_most,
          )

      -- so its leaves can be filled, by the side that moves there
      pub turn-fillable : (q : Side) → q ≡ child_side u k s → Fillable u k q next
      turn-fillable q d =
          record {
            formed = h.kept.formed;
            inside = turn_inside;
            mover =
                d ∙ ap (child_side u k) (f.mover ∙ ap (λ p. p.side) (same-position t u h.kept.shape i f.inside))
                ∙ sym (ap (λ p. p.side) (position-child u h.kept.formed inside-now (rw (← e) at child-now)));
            at_most = turn-few;
          }

      -- and then the turns behind it are left
      pub turn-goes-on : (x : ℕ) (w : List ℕ) → x ≡ next + length (leaves (tree_at u k))
          → w ≡ ranked next (tree_at u k) u
          → RankLoop t i s r first n w x (turn + 1)
      turn-goes-on x w c d =
          record {
            to = omega arith;
            kept =
                rw d
                (kept_then t u _ h.kept
                (ranked-kept next (tree_at u k) u h.kept.formed
                (every-leaf u h.kept.formed (λ j. j < frames u) (λ j z _. z) k turn_inside) turn-few));
            left = rw (c, d) turn-left;
          }

  -- after the last turn all is given
  pub turns-end : (first n : ℕ) (u : List ℕ) (next turn : ℕ) → RankLoop t i s r first n u next turn → n ≤ turn
      → (next ≡ r + length (leaves (tree_at t i))) × (u ≡ ranked r (tree_at t i) t)
  unfolding turns_from
  turns-end first n u next turn h l =
      let z : n - turn ≡ 0 = omega arith in
      let e = rw z at h.left in
      (ap (λ x. x.next) e, ap (λ x. x.table) e)
