-- The greatest depth of a table's nodes is that of the last one: in breadth-first order a later node's parent is no
-- earlier, so a later node is no higher.
use Rattle.prelude.proofs.{ℕ, zero, suc, ◌+◌, ◌-◌, ◌≤◌, ◌<◌, arith, dec_lt, ◌≡◌, ap, List}
use Rattle.table.specs.{frames, parent_of, depth_of, WellFormed}
use Rattle.table.proofs.Next.{next-mono, child-next}
use Rattle.table.proofs.Parents.{parent-less, parent-child}
use Rattle.table.proofs.Positions.{position-root, depth-child}
use Rattle.graft_questions.specs.{deepest}

-- no node is deeper
pub deepest-at : (t : List ℕ) (v n : ℕ) → v < n → depth_of t v ≤ deepest t n
unfolding deepest
deepest-at t v zero h = absurd (omega arith)
deepest-at t v (suc n) h =
    elim (dec_lt v n) [
      | yes l ↦ omega (arith, deepest-at t v n l)
      | no l ↦ (let e : v ≡ n = omega arith in rw e (omega arith))
    ]

-- and a depth that no node exceeds is no less than the greatest
pub deepest-most : (t : List ℕ) (d n : ℕ) → ((v : ℕ) → v < n → depth_of t v ≤ d) → deepest t n ≤ d
unfolding deepest
deepest-most t d zero f = omega arith
deepest-most t d (suc n) f = omega (arith, deepest-most t d n (λ v h. f v (omega arith)), f n (omega arith))

module _ (t : List ℕ) (wf : WellFormed t) where
  -- a later node's parent is no earlier
  parent-mono : (i j : ℕ) → 0 < i → i ≤ j → j < frames t → parent_of t i ≤ parent_of t j
  parent-mono i j a l h =
      let p = parent-child t wf i a (omega arith) in
      let q = parent-child t wf j (omega arith) h in
      elim (dec_lt (parent_of t j) (parent_of t i)) [
        | yes b ↦ absurd (omega (
          arith,
          child-next t wf p.0 p.1,
          child-next t wf q.0 q.1,
          next-mono t (parent_of t j + 1) (parent_of t i) (omega arith),
        ))
        | no b ↦ omega arith
      ]

  within-mono : (n i j : ℕ) → j < n → i ≤ j → j < frames t → depth_of t i ≤ depth_of t j
  within-mono zero i j b l h = absurd (omega arith)
  within-mono (suc n) zero j b l h = omega (arith, ap (λ p. p.depth) (position-root t))
  within-mono (suc n) (suc i) j b l h =
      let p = parent-child t wf (suc i) (omega arith) (omega arith) in
      let q = parent-child t wf j (omega arith) h in
      omega (
        arith,
        depth-child t wf p.0 p.1,
        depth-child t wf q.0 q.1,
        within-mono n (parent_of t (suc i)) (parent_of t j) (omega (arith, parent-less t j (omega arith)))
            (parent-mono (suc i) j (omega arith) l h) q.0,
      )

  -- a later node is no higher
  depth-mono : (i j : ℕ) → i ≤ j → j < frames t → depth_of t i ≤ depth_of t j
  depth-mono i j l h = within-mono (suc j) i j (omega arith) l h

  -- so the last node is the deepest
  pub last-deepest : depth_of t (frames t - 1) ≡ deepest t (frames t)
  last-deepest =
      omega (
        arith,
        deepest-at t (frames t - 1) (frames t) (omega (arith, wf.non_empty)),
        deepest-most t (depth_of t (frames t - 1)) (frames t)
            (λ v h. depth-mono v (frames t - 1) (omega arith) (omega arith)),
      )
