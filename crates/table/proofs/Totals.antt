-- What is summed over the tree's nodes is summed over the table's: the nodes from i up to `next t i` wait to be visited
-- in breadth-first order, and what waits at i is node i and what waits at i + 1.
use Rattle.prelude.proofs.{ℕ, zero, suc, ◌+◌, ◌-◌, ◌≤◌, ◌<◌, arith, ◌≡◌, refl, ap, ap₂, ◌∙◌, Bool, cond, List}
use Rattle.lists.specs.{count_from}
use Rattle.lists.proofs.Counting.{count_next}
use Rattle.gametree.specs.{Tree, leaf, inner, Children, last, ◌then◌, size, size_children, leaf_count}
use Rattle.gametree.specs.{leaf_count_children}
use Rattle.gametree_theory.proofs.Minimax.Nodes.{size-then}
use Rattle.table.specs.{frames, first_child, child_count, next, children_from, tree_at, tree, WellFormed}
use Rattle.table.proofs.Next.{next_more, waits}
use Rattle.table.proofs.Trees.{zero-or-suc, tree-leaf, tree-inner}

-- the sum of f over the leaves of a tree and of g over its inner nodes
abbrev mutual
  pub total : (f g : ℕ → ℕ) → Tree → ℕ
  total f g (leaf n) = f n
  total f g (inner n s ks) = g n + total_children f g ks

  pub total_children : (f g : ℕ → ℕ) → Children → ℕ
  total_children f g (last t) = total f g t
  total_children f g (t then ts) = total f g t + total_children f g ts

-- f 0 + .. + f (n - 1)
unfoldable pub sum_to : (ℕ → ℕ) → ℕ → ℕ
sum_to f zero = 0
sum_to f (suc n) = sum_to f n + f n

sum_from : (ℕ → ℕ) → ℕ → ℕ → ℕ
sum_from f i zero = 0
sum_from f i (suc n) = f i + sum_from f (i + 1) n

sum_from-add : (f : ℕ → ℕ) (i m n : ℕ) → sum_from f i (m + n) ≡ sum_from f i m + sum_from f (i + m) n
unfolding sum_from
sum_from-add f i zero n =
    let e : zero + n ≡ n = omega arith in
    let d : i + zero ≡ i = omega arith in
    rw (e, d) (omega arith)
sum_from-add f i (suc m) n =
    let e : suc m + n ≡ suc (m + n) = omega arith in
    let d : i + suc m ≡ i + 1 + m = omega arith in
    rw (e, d) (omega (arith, sum_from-add f (i + 1) m n))

total-kids : (f g : ℕ → ℕ) (h : ℕ → Tree) (i n : ℕ)
    → total_children f g (children_from h i n) ≡ sum_from (λ k. total f g (h k)) i (suc n)
unfolding children_from sum_from
total-kids f g h i zero = omega arith
total-kids f g h i (suc n) = ap (λ x. total f g (h i) + x) (total-kids f g h (i + 1) n)

-- the value at a node: f of a leaf, g of an inner node, by its count of children
abbrev pub at_node : (f g : ℕ → ℕ) → ℕ → ℕ → ℕ
at_node f g zero i = f i
at_node f g (suc n) i = g i

module _ (f g : ℕ → ℕ) (t : List ℕ) (wf : WellFormed t) where
  own : ℕ → ℕ
  own i = at_node f g (child_count t i) i

  below : ℕ → ℕ
  below i = total f g (tree_at t i)

  -- a node's tree sums its own value and its children's trees
  below-is : (i : ℕ) → i < frames t → below i ≡ own i + sum_from below (next t i) (child_count t i)
  unfolding own below sum_from
  below-is i h =
      zero-or-suc (child_count t i) (λ e. rw (tree-leaf t wf i h e, e) (omega arith)) (λ n e.
      rw (tree-inner t wf i n h e, e, ← wf.first i h (omega arith))
      (ap (λ x. g i + x) (total-kids f g (tree_at t) (first_child t i) n)))

  -- what waits at i
  unvisited : ℕ → ℕ
  unvisited i = sum_from below i (next t i - i)

  unvisited-next : (i : ℕ) → i < frames t → unvisited i ≡ own i + unvisited (i + 1)
  unfolding unvisited sum_from
  unvisited-next i h =
      let w = waits t wf i h in
      let a : next t i - i ≡ suc (next t i - (i + 1)) = omega arith in
      let b : next t (i + 1) - (i + 1) ≡ (next t i - (i + 1)) + child_count t i = omega (arith, next_more t i) in
      let c : i + 1 + (next t i - (i + 1)) ≡ next t i = omega arith in
      rw (a, b, sum_from-add below (i + 1) (next t i - (i + 1)) (child_count t i), c) (omega (arith, below-is i h))

  unvisited-all : (i : ℕ) → i ≤ frames t → unvisited 0 ≡ sum_to own i + unvisited i
  unfolding sum_to
  unvisited-all zero h = omega arith
  unvisited-all (suc i) h =
      let e : i + 1 ≡ suc i = omega arith in
      rw (← e) (omega (arith, unvisited-all i (omega arith), unvisited-next i (omega arith)))

  -- the tree's total is the table's
  pub tree-total : total f g (tree t) ≡ sum_to (λ i. at_node f g (child_count t i) i) (frames t)
  unfolding unvisited next sum_from sum_to own below
  tree-total =
      let z : next t (frames t) - frames t ≡ 0 = omega (arith, wf.total) in
      let q = rw z at (unvisited-all (frames t) (omega arith)) in
      omega (arith, q)

mutual
  size-total : (t : Tree) → size t ≡ total (λ _. 1) (λ _. 1) t
  size-total (leaf n) = refl
  size-total (inner n s ks) = omega (arith, size_children-total ks)

  size_children-total : (ks : Children) → size_children ks ≡ total_children (λ _. 1) (λ _. 1) ks
  size_children-total (last t) = size-total t
  size_children-total (t then ts) = size-then t ts ∙ ap₂ ◌+◌ (size-total t) (size_children-total ts)

mutual
  count-total : (E : ℕ → Bool) (t : Tree) → leaf_count E t ≡ total (λ n. cond (E n) 1 0) (λ _. 0) t
  count-total E (leaf n) = refl
  count-total E (inner n s ks) = omega (arith, count_children-total E ks)

  count_children-total : (E : ℕ → Bool) (ks : Children)
      → leaf_count_children E ks ≡ total_children (λ n. cond (E n) 1 0) (λ _. 0) ks
  count_children-total E (last t) = count-total E t
  count_children-total E (t then ts) = ap₂ ◌+◌ (count-total E t) (count_children-total E ts)

pub sum_same : (f g : ℕ → ℕ) (n : ℕ) → ((k : ℕ) → k < n → f k ≡ g k) → sum_to f n ≡ sum_to g n
unfolding sum_to
sum_same f g zero e = refl
sum_same f g (suc n) e = ap₂ ◌+◌ (sum_same f g n (λ k h. e k (omega arith))) (e n (omega arith))

-- how many numbers below n are in a set, as a sum
pub count-sum : (E : ℕ → Bool) (n : ℕ) → count_from E 0 n ≡ sum_to (λ k. cond (E k) 1 0) n
unfolding count_from sum_to
count-sum E zero = refl
count-sum E (suc n) = count_next E n ∙ ap (λ x. x + cond (E n) 1 0) (count-sum E n)

sum_ones : (n : ℕ) → sum_to (λ k. 1) n ≡ n
unfolding sum_to
sum_ones zero = refl
sum_ones (suc n) = omega (arith, sum_ones n)

ones-at : (n i : ℕ) → at_node (λ _. 1) (λ _. 1) n i ≡ 1
ones-at zero i = refl
ones-at (suc n) i = refl

module _ (t : List ℕ) (wf : WellFormed t) where
  -- the tree has as many nodes as the table has frames
  pub tree-size : size (tree t) ≡ frames t
  tree-size =
      size-total (tree t) ∙ tree-total (λ _. 1) (λ _. 1) t wf
      ∙ sum_same (λ i. at_node (λ _. 1) (λ _. 1) (child_count t i) i) (λ _. 1) (frames t)
      (λ k h. ones-at (child_count t k) k)
      ∙ sum_ones (frames t)

  -- the leaves in the set E, counted over the table: inner nodes count nothing
  pub tree-leaf-count : (E : ℕ → Bool) → leaf_count E (tree t)
      ≡ sum_to (λ i. at_node (λ n. cond (E n) 1 0) (λ _. 0) (child_count t i) i) (frames t)
  tree-leaf-count E = count-total E (tree t) ∙ tree-total (λ n. cond (E n) 1 0) (λ _. 0) t wf
