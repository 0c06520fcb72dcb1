-- Where a child stands follows from where its parent stands.
use Rattle.prelude.proofs.{ℕ, zero, suc, ◌+◌, ◌≤◌, ◌<◌, arith, ◌≡◌, refl, ap, ◌∙◌, List}
use Rattle.table.specs.{frames, parent_of, root_position, child_position, position_within, position_of, depth_of}
use Rattle.table.specs.{WellFormed, ChildOf}
use Rattle.table.proofs.Parents.{parent-less, parent_is}
use Rattle.table.proofs.Next.{child-later}

-- more steps to the root than there are change nothing
within-enough : (t : List ℕ) (f g k : ℕ) → k ≤ f → k ≤ g → position_within f t k ≡ position_within g t k
unfolding position_within
within-enough t zero zero k a b = refl
within-enough t zero (suc g) zero a b = refl
within-enough t zero (suc g) (suc k) a b = absurd (omega arith)
within-enough t (suc f) zero zero a b = refl
within-enough t (suc f) zero (suc k) a b = absurd (omega arith)
within-enough t (suc f) (suc g) zero a b = refl
within-enough t (suc f) (suc g) (suc k) a b =
    ap (λ p. child_position t (suc k) p)
    (within-enough t f g (parent_of t (suc k)) (omega (arith, parent-less t (suc k) (omega arith)))
    (omega (arith, parent-less t (suc k) (omega arith))))

-- the root's place
pub position-root : (t : List ℕ) → position_of t 0 ≡ root_position
unfolding position_of position_within
position-root t = refl

-- a node's position from its parent's
pub position-step : (t : List ℕ) (k : ℕ) → 0 < k → position_of t k ≡ child_position t k (position_of t (parent_of t k))
unfolding position_of position_within
position-step t zero h = absurd (omega arith)
position-step t (suc k) h =
    ap (λ p. child_position t (suc k) p)
    (within-enough t k (parent_of t (suc k)) (parent_of t (suc k)) (omega (arith, parent-less t (suc k) (omega arith)))
    (omega arith))

depth-within : (t : List ℕ) (n k : ℕ) → k < n → depth_of t k ≤ k
depth-within t zero k h = absurd (omega arith)
depth-within t (suc n) zero h = omega (arith, ap (λ p. p.depth) (position-root t))
depth-within t (suc n) (suc k) h =
    let l = parent-less t (suc k) (omega arith) in
    let e = ap (λ p. p.depth) (position-step t (suc k) (omega arith)) in
    omega (arith, depth-within t n (parent_of t (suc k)) (omega arith))

-- no node is deeper than its number
pub depth-at-most : (t : List ℕ) (k : ℕ) → depth_of t k ≤ k
depth-at-most t k = depth-within t (suc k) k (omega arith)

module _ (t : List ℕ) (wf : WellFormed t) where
  -- the place of a child of node i
  pub position-child : {i k : ℕ} → i < frames t → ChildOf t i k → position_of t k ≡ child_position t k (position_of t i)
  position-child {i} {k} h c =
      position-step t k (omega (arith, child-later t wf h c))
      ∙ ap (λ p. child_position t k (position_of t p)) (parent_is t wf h c)

  -- a child is one deeper than its parent
  pub depth-child : {i k : ℕ} → i < frames t → ChildOf t i k → depth_of t k ≡ depth_of t i + 1
  depth-child h c = ap (λ p. p.depth) (position-child h c)
