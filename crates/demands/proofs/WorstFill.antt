-- The worst-case filling (02: N11, the dearest filling), sentence by sentence, over the definition that the contract of
-- the call cites. The lent table is t, and after the call it is `handed t`; a leaf's rank there is what its bytes 4 and
-- 5 hold.
use Rattle.prelude.proofs.{ℕ, ◌+◌, ◌≤◌, ◌<◌, ◌≡◌, sym, ap, ap₂, ◌∙◌, subst, ◌⊎◌, inl, inr, List, pos, length, Ok}
use Rattle.gametree.specs.declared.Side.TheVariants.{Max, Min}
use Rattle.gametree.specs.{leaves}
use Rattle.gametree_theory.proofs.Minimax.Nodes.{nodes-in}
use Rattle.gametree_theory.proofs.Alphabeta.WorstCase.{blocks_at}
use Rattle.table.specs.{frame_size, frames, byte_of, child_count, value_bytes, side_of, tree_at, tree, valuation}
use Rattle.table.specs.{value_of}
use Rattle.table.specs.{ChildOf, SameShape, ◌leaving◌, Accepted, Leaf}
use Rattle.table.proofs.Acceptance.{accepted-formed}
use Rattle.table.proofs.Leaves.{leaf-listed}
use Rattle.table.proofs.Next.{child-within}
use Rattle.table.proofs.Shapes.{same-tree}
use Rattle.table.proofs.Values.{value-plus}
use Rattle.worst_fill.specs.{worst_fill, fill_outcome, handed, LeafBelow}
use Rattle.worst_fill.proofs.Whole.{fill-given, fill-accepted}
use Rattle.worst_fill.proofs.Order.{Before, node_block, node-order}
use Rattle.worst_fill.proofs.WorstFill.{worst-kept, worst-front, worst-inner, worst-blocks, worst-accepted, rank_below}
use Rattle.worst_fill.proofs.WorstFill.{rank-once, rank-every, rank-score, same-worst}

module _ (t : List ℕ) where
  -- "For an accepted shape the call writes the ranks": there is no other question
  pub leaves-given : Accepted t → (fill_outcome t).answer ≡ Ok (length (leaves (tree t)))
  leaves-given a = ap (λ o. o.answer) (fill-accepted t a)

  module _ (n : ℕ) (e : (fill_outcome t).answer ≡ Ok n) where
    -- and only an accepted table is filled
    pub only-accepted : Accepted t
    only-accepted = (fill-given t n e).0

    is-worst : worst_fill t ≡ handed t
    is-worst = sym (fill-given t n e).2

    -- "The call gives the number of leaves"
    pub leaf-count : n ≡ length (leaves (tree t))
    leaf-count = (fill-given t n e).1

    -- "to the leaves of the lent table itself": an accepted table of the same length and shape
    pub filled-accepted : Accepted (handed t)
    filled-accepted = subst Accepted is-worst (worst-accepted t only-accepted)

    pub filled-shape : SameShape t (handed t) × (length (handed t) ≡ length t)
    filled-shape =
        let k = worst-kept t only-accepted in
        subst (λ u. SameShape t u × (length u ≡ length t)) is-worst (k.shape, k.long)

    -- "The other fields keep their bytes": bytes 0 to 3 of every frame, and all of an inner node's
    pub fields-kept : (i k : ℕ) → k < frame_size → (k < 4) ⊎ (0 < child_count t i)
        → byte_of (handed t) i k ≡ byte_of t i k
    fields-kept i k h c =
        subst (λ u. byte_of u i k ≡ byte_of t i k) is-worst
        (elim c [
          | inl l ↦ worst-front t only-accepted i k l
          | inr l ↦ worst-inner t only-accepted i k h l
        ])

    -- "the ranks 0, 1, 2 and so on": each leaf's rank is below the number of leaves, no two have the same, and each
    -- number below that of the leaves is one
    pub ranks-below : {x : ℕ} → Leaf t x → value_bytes (handed t) x < n
    ranks-below {x} l =
        rw leaf-count (subst (λ u. value_bytes u x < length (leaves (tree t))) is-worst (rank_below t only-accepted l))

    pub ranks-once : {x y : ℕ} → Leaf t x → Leaf t y → value_bytes (handed t) x ≡ value_bytes (handed t) y → x ≡ y
    ranks-once {x} {y} l m =
        subst (λ u. value_bytes u x ≡ value_bytes u y → x ≡ y) is-worst (rank-once t only-accepted l m)

    pub ranks-every : (r : ℕ) → r < n → (x : ℕ) × Leaf t x × (value_bytes (handed t) x ≡ r)
    ranks-every r h =
        subst (λ u. (x : ℕ) × Leaf t x × (value_bytes u x ≡ r)) is-worst
        (rank-every t only-accepted r (rw leaf-count at h))

    -- a leaf's worth is its rank
    pub worth-rank : {x : ℕ} → Leaf t x → value_of (valuation (handed t) x) ≡ pos (value_bytes (handed t) x)
    worth-rank {x} l =
        subst (λ u. value_of (valuation u x) ≡ pos (value_bytes u x)) is-worst
        (value-plus (valuation (worst_fill t) x) (value_bytes (worst_fill t) x) (rank-score t only-accepted l))

    -- "the children's ranks form .. blocks": the ranks below a node are consecutive
    pub ranks-block : (i : ℕ) → i < frames t → (b : ℕ) × ((x : ℕ) → LeafBelow t i x
        → (b ≤ value_bytes (handed t) x) × (value_bytes (handed t) x < b + length (leaves (tree_at t i))))
    ranks-block i h =
        let wf = accepted-formed t only-accepted in
        let b = node_block t wf (value_bytes (worst_fill t)) (worst-blocks t only-accepted) i h in
        subst
        (λ u. (b : ℕ) × ((x : ℕ) → LeafBelow t i x
        → (b ≤ value_bytes u x) × (value_bytes u x < b + length (leaves (tree_at t i))))) is-worst (
          b.0,
          λ x l.
              blocks_at _ b.0 (tree_at t i) b.1 x
              (leaf-listed t wf i h x (nodes-in x (tree_at t i) l.below) l.leaf.childless),
        )

    in_order : (i c d x y : ℕ) → i < frames t → ChildOf t i c → ChildOf t i d → c < d → LeafBelow t c x
        → LeafBelow t d y → Before (side_of t i) (value_bytes (handed t) x) (value_bytes (handed t) y)
    in_order i c d x y h p q l v w =
        let wf = accepted-formed t only-accepted in
        subst (λ u. Before (side_of t i) (value_bytes u x) (value_bytes u y)) is-worst
        (node-order t wf (value_bytes (worst_fill t)) (worst-blocks t only-accepted) i c d x y h p q l
        (leaf-listed t wf c (child-within t wf h p) x (nodes-in x (tree_at t c) v.below) v.leaf.childless)
        (leaf-listed t wf d (child-within t wf h q) y (nodes-in y (tree_at t d) w.below) w.leaf.childless))

    -- "at a Max node the children's ranks form rising blocks from left to right"
    pub rising : (i c d x y : ℕ) → i < frames t → side_of t i ≡ Max → ChildOf t i c → ChildOf t i d → c < d
        → LeafBelow t c x → LeafBelow t d y → value_bytes (handed t) x < value_bytes (handed t) y
    rising i c d x y h s p q l v w = rw s at (in_order i c d x y h p q l v w)

    -- "at a Min node falling ones"
    pub falling : (i c d x y : ℕ) → i < frames t → side_of t i ≡ Min → ChildOf t i c → ChildOf t i d → c < d
        → LeafBelow t c x → LeafBelow t d y → value_bytes (handed t) y < value_bytes (handed t) x
    falling i c d x y h s p q l v w = rw s at (in_order i c d x y h p q l v w)

-- "the leaf values that came with the shape play no part once question 7 has passed them": two accepted tables of one
-- shape become one table, with one answer
pub values-no-part : (t u : List ℕ) → Accepted t → Accepted u → SameShape t u → fill_outcome t ≡ fill_outcome u
values-no-part t u a b s =
    fill-accepted t a
    ∙ ap₂ (λ T v. Ok (length (leaves T)) leaving v)
    (same-tree t u s (accepted-formed t a) (accepted-formed u b)) (same-worst t u a b s)
    ∙ sym (fill-accepted u b)
