-- The number `next t i` that the nodes before i leave for the next child: it grows, stays above i, and ends at the
-- number of frames. So the children of each node come after it and lie within the table.
use Rattle.prelude.proofs.{ℕ, zero, suc, ◌+◌, ◌-◌, ◌≤◌, ◌<◌, arith, dec_le, add-one, ◌≡◌, List}
use Rattle.table.specs.{frames, first_child, child_count, next, WellFormed, ChildOf}

-- past one more node
pub next_more : (t : List ℕ) (i : ℕ) → next t (i + 1) ≡ next t i + child_count t i
unfolding next
next_more t i = rw (add-one i)

pub next-mono : (t : List ℕ) (i n : ℕ) → i ≤ n → next t i ≤ next t n
unfolding next
next-mono t i zero h = let e : i ≡ 0 = omega arith in rw e (omega arith)
next-mono t i (suc n) h =
    elim (dec_le i n) [
      | yes p ↦ omega (arith, next-mono t i n p)
      | no p ↦ (let e : i ≡ suc n = omega arith in rw e (omega arith))
    ]

module _ (t : List ℕ) (wf : WellFormed t) where
  waits_if : (i : ℕ) → i < frames t → i + 1 ≤ next t (i + 1) → i < next t i
  waits_if i h p =
      elim (dec_le (child_count t i) 0) [
        | yes z ↦ omega (arith, next_more t i)
        | no z ↦ omega (arith, wf.first i h (omega arith), wf.later i h (omega arith))
      ]

  waits-le : (d i : ℕ) → i + d ≡ frames t → i ≤ next t i
  waits-le zero i e = let q : i ≡ frames t = omega arith in rw q (omega (arith, wf.total))
  waits-le (suc d) i e = omega (arith, waits_if i (omega arith) (waits-le d (i + 1) (omega arith)))

  -- the nodes before i have given node i its place: i is below the next number
  pub waits : (i : ℕ) → i < frames t → i < next t i
  waits i h = waits_if i h (waits-le (frames t - (i + 1)) (i + 1) (omega arith))

  -- next never passes the number of frames
  pub next-within : (i : ℕ) → i ≤ frames t → next t i ≤ frames t
  next-within i h = omega (arith, next-mono t i (frames t) h, wf.total)

  -- once it has reached that number, no node from i on has children
  pub none_after : (i k : ℕ) → frames t ≤ next t i → i ≤ k → k < frames t → child_count t k ≡ 0
  none_after i k e l h = omega (arith, next-mono t i k l, next_more t k, next-within (k + 1) (omega arith))

  -- the children of node i are the numbers from next t i up to next t (i + 1)
  pub child-next : {i k : ℕ} → i < frames t → ChildOf t i k → (next t i ≤ k) × (k < next t (i + 1))
  child-next {i} {k} h c =
      let n : 0 < child_count t i = omega (arith, c.from, c.to) in (
        omega (arith, c.from, wf.first i h n),
        omega (arith, c.to, wf.first i h n, next_more t i),
      )

  pub next-child : {i k : ℕ} → i < frames t → next t i ≤ k → k < next t (i + 1) → ChildOf t i k
  next-child {i} {k} h a b =
      let n : 0 < child_count t i = omega (arith, next_more t i) in
      record {
        from = omega (arith, wf.first i h n);
        to = omega (arith, wf.first i h n, next_more t i);
      }

  -- a child's number is larger than its parent's
  pub child-later : {i k : ℕ} → i < frames t → ChildOf t i k → i < k
  child-later {i} {k} h c = omega (arith, wf.later i h (omega (arith, c.from, c.to)), c.from)

  -- and within the table
  pub child-within : {i k : ℕ} → i < frames t → ChildOf t i k → k < frames t
  child-within {i} {k} h c = omega (arith, child-next h c, next-within (i + 1) (omega arith))

  -- so are the children of an inner node all together
  pub children-within : (i : ℕ) → i < frames t → 0 < child_count t i → first_child t i + child_count t i ≤ frames t
  children-within i h n = omega (arith, wf.first i h n, next_more t i, next-within (i + 1) (omega arith))
