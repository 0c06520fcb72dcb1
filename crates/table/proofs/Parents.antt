-- Each node of a well-formed table but the root is the child of exactly one node, its parent; so what holds of the root
-- and passes from a node to its children holds of every node, and what passes from the children to their node too.
use Rattle.prelude.proofs.{ℕ, zero, suc, ◌+◌, ◌≤◌, ◌<◌, arith, dec_le, dec_lt, ◌≡◌, true, false, List, le-ltb, lt-ltb}
use Rattle.prelude.proofs.{le-leb, lt-leb}
use Rattle.lists.proofs.Choice.{cond_cases}
use Rattle.table.specs.{frames, first_child, child_count, next, is_child, parent_before, parent_of, WellFormed}
use Rattle.table.specs.{ChildOf}
use Rattle.table.proofs.Next.{next-mono, child-next, next-child, child-later, child-within}

-- the test of a child
pub child-test : (t : List ℕ) (i k : ℕ) → ChildOf t i k → is_child t i k ≡ true
child-test t i k c = rw (le-leb _ _ c.from, lt-ltb _ _ c.to)

pub no-child-test : (t : List ℕ) (i k : ℕ) → (ChildOf t i k → ⊥) → is_child t i k ≡ false
no-child-test t i k none =
    elim (dec_le (first_child t i) k) [
      | yes a ↦ elim (dec_lt k (first_child t i + child_count t i)) [
        | yes b ↦ absurd (none (record { from = a; to = b }))
        | no b ↦ rw (le-leb _ _ a, le-ltb k (first_child t i + child_count t i) (omega arith))
      ]
      | no a ↦ rw (lt-leb (first_child t i) k (omega arith))
    ]

parent_before-at-most : (t : List ℕ) (k n : ℕ) → parent_before t k (suc n) ≤ n
unfolding parent_before
parent_before-at-most t k zero = cond_cases (λ x. x ≤ 0) (is_child t 0 k) 0 0 (λ _. omega arith) (λ _. omega arith)
parent_before-at-most t k (suc n) =
    let h = parent_before-at-most t k n in
    cond_cases (λ x. x ≤ suc n) (is_child t (suc n) k) (suc n) (parent_before t k (suc n)) (λ _. omega arith)
    (λ _. omega arith)

-- a parent's number is smaller than its child's, in any table
pub parent-less : (t : List ℕ) (k : ℕ) → 0 < k → parent_of t k < k
parent-less t zero h = absurd (omega arith)
parent-less t (suc k) h = omega (arith, parent_before-at-most t (suc k) k)

module _ (t : List ℕ) (wf : WellFormed t) where
  -- no node is a child of two nodes
  pub one_parent : {i j k : ℕ} → i < frames t → j < frames t → ChildOf t i k → ChildOf t j k → i ≡ j
  one_parent {i} {j} {k} h g c d =
      let a = child-next t wf h c in
      let b = child-next t wf g d in
      elim (dec_lt i j) [
        | yes l ↦ absurd (omega (arith, next-mono t (i + 1) j (omega arith)))
        | no l ↦ elim (dec_lt j i) [
          | yes m ↦ absurd (omega (arith, next-mono t (j + 1) i (omega arith)))
          | no m ↦ omega arith
        ]
      ]

  before-is : (i k n : ℕ) → i < n → n ≤ frames t → ChildOf t i k → parent_before t k n ≡ i
  unfolding parent_before
  before-is i k zero l h c = absurd (omega arith)
  before-is i k (suc n) l h c =
      elim (dec_lt i n) [
        | yes m ↦ rw (no-child-test t n k
            (λ d. let e : i ≡ n = one_parent (omega arith) (omega arith) c d in omega arith))
            (before-is i k n m (omega arith) c)
        | no m ↦ (let e : n ≡ i = omega arith in rw (e, child-test t i k c))
      ]

  -- the parent of a child is the node whose child it is
  pub parent_is : {i k : ℕ} → i < frames t → ChildOf t i k → parent_of t k ≡ i
  parent_is {i} {k} h c =
      before-is i k k (child-later t wf h c) (omega (arith, child-within t wf h c)) c

  found_before : (k n : ℕ) → n ≤ frames t → 1 ≤ k → k < next t n → (i : ℕ) × (i < n) × ChildOf t i k
  unfolding next
  found_before k zero h l m = absurd (omega arith)
  found_before k (suc n) h l m =
      elim (dec_lt k (next t n)) [
        | yes a ↦ (let r = found_before k n (omega arith) l a in (r.0, omega (arith, r.1), r.2))
        | no a ↦ (
          n,
          omega arith,
          next-child t wf (omega arith) (omega arith) (let e : n + 1 ≡ suc n = omega arith in rw e m),
        )
      ]

  -- each node but the root is the child of its parent
  pub parent-child : (k : ℕ) → 0 < k → k < frames t → (parent_of t k < frames t) × ChildOf t (parent_of t k) k
  parent-child k l h =
      let r = found_before k (frames t) (omega arith) l (omega (arith, wf.total)) in
      rw (parent_is r.1 r.2) (r.1, r.2)

  up_to : (P : ℕ → Type 0) → P 0 → ((i k : ℕ) → i < frames t → ChildOf t i k → P i → P k)
      → (n k : ℕ) → k < n → k < frames t → P k
  up_to P z s zero k l h = absurd (omega arith)
  up_to P z s (suc n) zero l h = z
  up_to P z s (suc n) (suc k) l h =
      let r = parent-child (suc k) (omega arith) h in
      s (parent_of t (suc k)) (suc k) r.0 r.1
      (up_to P z s n (parent_of t (suc k)) (omega (arith, parent-less t (suc k) (omega arith))) r.0)

  -- what holds of the root, and of a node's children where it holds of the node, holds of every node
  pub top-down : (P : ℕ → Type 0) → P 0 → ((i k : ℕ) → i < frames t → ChildOf t i k → P i → P k)
      → (k : ℕ) → k < frames t → P k
  top-down P z s k h = up_to P z s (suc k) k (omega arith) h

  down_to : (P : ℕ → Type 0) → ((i : ℕ) → i < frames t → ((k : ℕ) → ChildOf t i k → P k) → P i)
      → (n i : ℕ) → frames t ≤ i + n → i < frames t → P i
  down_to P s zero i l h = absurd (omega arith)
  down_to P s (suc n) i l h =
      s i h (λ k c. down_to P s n k (omega (arith, child-later t wf h c)) (child-within t wf h c))

  -- what holds of a node where it holds of its children holds of every node
  pub bottom-up : (P : ℕ → Type 0) → ((i : ℕ) → i < frames t → ((k : ℕ) → ChildOf t i k → P k) → P i)
      → (i : ℕ) → i < frames t → P i
  bottom-up P s i h = down_to P s (frames t) i (omega arith) h
