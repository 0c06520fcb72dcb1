-- The chosen child of a node: the first one whose bound equals the node's, by the lows where Max moves and by the highs
-- where Min moves. The arrays give the one that the definitions name, and under the root it is the move.
use Rattle.prelude.proofs.{ℕ, zero, suc, ◌+◌, ◌<◌, arith, ◌≡◌, sym, ap, ap₂, ◌∙◌, Bool, cond, List, eqb, get_or}
use Rattle.gametree.specs.declared.Side.{Side}
use Rattle.gametree.specs.declared.Side.TheVariants.{Max, Min}
use Rattle.gametree.specs.{Tree, inner, least, greatest, minimax, number, low, high, worst, first_with, bound_move}
use Rattle.gametree.specs.{known}
use Rattle.table.specs.{frames, child_count, next, side_of, children_from, tree_at, tree, valuation, WellFormed}
use Rattle.table.proofs.Next.{next_more, next-within}
use Rattle.table.proofs.Trees.{zero-or-suc, tree-leaf, tree-inner, tree-number}
use Rattle.table_positions.specs.{written, side_in, Positioned}
use Rattle.table_positions.proofs.Buffers.{written_at}
use Rattle.table_positions.proofs.Positions.{positioned-side}
use Rattle.certificate_flags.specs.{first_equal, bounds_by_side, chosen_child}
use Rattle.certificate_flags.proofs.Chosen.{first-same}
use Rattle.certificate_bounds.specs.{bound_of}

-- the arrays hold the side and both bounds of each node
pub record Bounded (t : List ℕ) (E : ℕ → Bool) (positions lows highs : List ℕ) : Type 0 where
  pub sides_are : (k : ℕ) → k < frames t → side_in positions k ≡ side_of t k
  pub lows_are : (k : ℕ) → k < frames t → get_or lows k 0 ≡ bound_of t E least k
  pub highs_are : (k : ℕ) → k < frames t → get_or highs k 0 ≡ bound_of t E greatest k

-- arrays that were written so hold them
pub bounded : (t : List ℕ) (E : ℕ → Bool) (l h : List ℕ) {positions lows highs : List ℕ} → Positioned t positions
    → lows ≡ written (bound_of t E least) (frames t) l → highs ≡ written (bound_of t E greatest) (frames t) h
    → Bounded t E positions lows highs
bounded t E l h {positions} p q r =
    record {
      sides_are = positioned-side t positions p;
      lows_are = λ k m. ap (λ x. get_or x k 0) q ∙ written_at (bound_of t E least) (frames t) k l m;
      highs_are = λ k m. ap (λ x. get_or x k 0) r ∙ written_at (bound_of t E greatest) (frames t) k h m;
    }

-- the chosen child of node i by the definitions
unfoldable pub chosen_of : List ℕ → (ℕ → Bool) → Side → ℕ → ℕ
chosen_of t E s i =
    first_equal (bound_of t E (worst s)) (bound_of t E (worst s) i) (next t i)
    (child_count t i)

module _ (t : List ℕ) (wf : WellFormed t) (E : ℕ → Bool) where
  -- an array of one bound gives the one that the definitions name by it
  pub by-bounds : (bounds : List ℕ) (x i : ℕ) → i < frames t
      → ((k : ℕ) → k < frames t → get_or bounds k 0 ≡ bound_of t E x k)
      → chosen_child bounds i (next t i) (child_count t i)
      ≡ first_equal (bound_of t E x) (bound_of t E x i) (next t i) (child_count t i)
  by-bounds bounds x i h e =
      first-same _ (bound_of t E x) _ (next t i) (child_count t i)
      (λ k l m. e k (omega (arith, next_more t i, next-within t wf (i + 1) (omega arith))))
      ∙ ap (λ v. first_equal (bound_of t E x) v (next t i) (child_count t i)) (e i h)

  by_side : {positions lows highs : List ℕ} → Bounded t E positions lows highs → (s : Side) (i : ℕ) → i < frames t
      → chosen_child (bounds_by_side s lows highs) i (next t i) (child_count t i) ≡ chosen_of t E s i
  unfolding chosen_of
  by_side {lows = lows} b Max i h = by-bounds lows least i h b.lows_are
  by_side {highs = highs} b Min i h = by-bounds highs greatest i h b.highs_are

  -- the arrays give it
  pub chosen-arrays : {positions lows highs : List ℕ} → Bounded t E positions lows highs → (i : ℕ) → i < frames t
      → chosen_child (bounds_by_side (side_in positions i) lows highs) i (next t i) (child_count t i)
      ≡ chosen_of t E (side_of t i) i
  chosen-arrays {positions} {lows} {highs} b i h =
      ap (λ s. chosen_child (bounds_by_side s lows highs) i (next t i) (child_count t i))
      (b.sides_are i h)
      ∙ by_side b (side_of t i) i h

-- the first child with a value, by number
pub first-with : (f : Tree → ℕ) (h : ℕ → Tree) → ((k : ℕ) → number (h k) ≡ k) → (v i n : ℕ)
    → first_equal (λ k. f (h k)) v i (suc n) ≡ first_with f v (children_from h i n)
unfolding first_equal children_from
first-with f h e v i zero = ap (λ x. cond (eqb (f (h i)) v) x 0) (sym (e i))
first-with f h e v i (suc n) = ap₂ (cond (eqb (f (h i)) v)) (sym (e i)) (first-with f h e v (i + 1) n)

module _ (t : List ℕ) (wf : WellFormed t) (E : ℕ → Bool) where
  move-inner : (s : Side) (i n : ℕ)
      → first_equal (bound_of t E (worst s))
      (minimax (λ k. cond (E k) (valuation t k) (worst s)) (inner 0 s (children_from (tree_at t) i n))) i
      (suc n)
      ≡ bound_move (valuation t) E (inner 0 s (children_from (tree_at t) i n))
  move-inner Max i n = first-with (low (valuation t) E) (tree_at t) (tree-number t) _ i n
  move-inner Min i n = first-with (high (valuation t) E) (tree_at t) (tree-number t) _ i n

  -- the root's chosen child is the move
  pub chosen-root : chosen_of t E (side_of t 0) 0 ≡ bound_move (valuation t) E (tree t)
  unfolding chosen_of first_equal next
  chosen-root =
      zero-or-suc (child_count t 0) (λ e. rw (e, tree-leaf t wf 0 wf.non_empty e)) (λ n e.
      let p = wf.first 0 wf.non_empty (omega arith) in
      let q = tree-inner t wf 0 n wf.non_empty e ∙ ap (λ k. inner 0 (side_of t 0) (children_from (tree_at t) k n)) p in
      let x = worst (side_of t 0) in
      ap (λ m. first_equal (bound_of t E x) (bound_of t E x 0) (next t 0) m) e
      ∙ ap (λ T. first_equal (bound_of t E x) (minimax (known (valuation t) E x) T) (next t 0) (suc n)) q
      ∙ move-inner (side_of t 0) 1 n
      ∙ ap (bound_move (valuation t) E) (sym q))

  -- so the arrays give the move
  pub chosen-move : {positions lows highs : List ℕ} → Bounded t E positions lows highs
      → chosen_child (bounds_by_side (side_in positions 0) lows highs) 0 1 (child_count t 0)
      ≡ bound_move (valuation t) E (tree t)
  unfolding next
  chosen-move b = chosen-arrays t wf E b 0 wf.non_empty ∙ chosen-root
