-- Each node of a filled table has a block of ranks, and its children's blocks rise from left to right at Max and fall
-- at Min.
use Rattle.prelude.proofs.{ℕ, zero, suc, ◌+◌, ◌≤◌, ◌<◌, arith, dec_lt, ◌≡◌, true, List}
use Rattle.lists.specs.{among}
use Rattle.gametree.specs.declared.Side.{Side}
use Rattle.gametree.specs.declared.Side.TheVariants.{Max, Min}
use Rattle.gametree.specs.{Tree, leaves}
use Rattle.gametree_theory.proofs.Alphabeta.WorstCase.{total, total_children, elder_from, younger_from, Blocks}
use Rattle.gametree_theory.proofs.Alphabeta.WorstCase.{BlocksChildren}
use Rattle.gametree_theory.proofs.Alphabeta.WorstCase.{blocks_at, blocks_children-at}
use Rattle.table.specs.{frames, first_child, child_count, side_of, children_from, tree_at, tree, WellFormed, ChildOf}
use Rattle.table.proofs.Leaves.{kid-leaf}
use Rattle.table.proofs.Parents.{top-down}
use Rattle.table.proofs.Trees.{zero-or-suc, tree-inner}

-- x comes before y in the order of a side: rising at Max, falling at Min
abbrev pub Before : Side → (x y : ℕ) → Type 0
Before Max x y = x < y
Before Min x y = y < x

ahead : (s : Side) (b m n x y : ℕ) → (elder_from s b n ≤ x) × (x < elder_from s b n + m)
    → (younger_from s b m ≤ y) × (y < younger_from s b m + n) → Before s x y
ahead Max b m n x y h k = omega arith
ahead Min b m n x y h k = omega arith

module _ (ν : ℕ → ℕ) (g : ℕ → Tree) where
  -- one child's block
  kid-block : (s : Side) (b i n k : ℕ) → BlocksChildren ν s b (children_from g i n) → i ≤ k → k ≤ i + n
      → (a : ℕ) × Blocks ν a (g k)
  unfolding children_from
  kid-block s b i zero k f h l = (b, let e : k ≡ i = omega arith in rw e f)
  kid-block s b i (suc n) k f h l =
      elim (dec_lt i k) [
        | yes p ↦ kid-block s (younger_from s b (total (g i))) (i + 1) n k f.1 (omega arith) (omega arith)
        | no p ↦ (elder_from s b (total_children (children_from g (i + 1) n)), let e : k ≡ i = omega arith in rw e f.0)
      ]

  -- a leaf of an elder child comes before one of a younger
  kids-order : (s : Side) (b i n c d x y : ℕ) → BlocksChildren ν s b (children_from g i n) → i ≤ c → c < d → d ≤ i + n
      → among (leaves (g c)) x ≡ true → among (leaves (g d)) y ≡ true → Before s (ν x) (ν y)
  unfolding children_from
  kids-order s b i zero c d x y f h l m p q = absurd (omega arith)
  kids-order s b i (suc n) c d x y f h l m p q =
      elim (dec_lt i c) [
        | yes z ↦ kids-order s (younger_from s b (total (g i))) (i + 1) n c d x y f.1 (omega arith) l (omega arith) p q
        | no z ↦ (let e : c ≡ i = omega arith in
            let ks = children_from g (i + 1) n in
            ahead s b (total (g i)) (total_children ks) (ν x) (ν y) (blocks_at ν _ (g i) f.0 x (rw e at p))
            (blocks_children-at ν s _ ks f.1 y (kid-leaf g (i + 1) n d y (omega arith) (omega arith) q)))
      ]

module _ (t : List ℕ) (wf : WellFormed t) (ν : ℕ → ℕ) (f : Blocks ν 0 (tree t)) where
  -- each node's block
  pub node_block : (i : ℕ) → i < frames t → (a : ℕ) × Blocks ν a (tree_at t i)
  node_block =
      top-down t wf (λ i. (a : ℕ) × Blocks ν a (tree_at t i)) (0, f) (λ i k h c b.
      zero-or-suc (child_count t i) (λ e. absurd (omega (arith, c.from, c.to))) (λ n e.
      kid-block ν (tree_at t) (side_of t i) b.0 (first_child t i) n k (rw (tree-inner t wf i n h e) at b.1)
      c.from (omega (arith, c.to))))

  -- the blocks of a node's children, in the order of the side that moves there
  pub node-order : (i c d x y : ℕ) → i < frames t → ChildOf t i c → ChildOf t i d → c < d
      → among (leaves (tree_at t c)) x ≡ true → among (leaves (tree_at t d)) y ≡ true → Before (side_of t i) (ν x) (ν y)
  node-order i c d x y h p q l u v =
      zero-or-suc (child_count t i) (λ e. absurd (omega (arith, p.from, p.to))) (λ n e.
      kids-order ν (tree_at t) (side_of t i) _ (first_child t i) n c d x y
      (rw (tree-inner t wf i n h e) at (node_block i h).1) p.from l (omega (arith, q.to)) u v)
