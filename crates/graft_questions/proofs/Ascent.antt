-- The way up from a node to the root. A node's parent is sought from right to left among the nodes before it. Its
-- position is put together from that of a node above it and the one that it would have if that node were the root.
use Rattle.prelude.proofs.{ℕ, zero, suc, ◌+◌, ◌≤◌, ◌<◌, arith, dec_lt, ◌≡◌, refl, sym, ap, ◌∙◌, Bool, true, false, cond}
use Rattle.prelude.proofs.{List, leb, ltb, eqb, leb-true, ltb-true}
use Rattle.lists.proofs.Choice.{and_both, true-not-false}
use Rattle.gametree.specs.declared.Position.{Position}
use Rattle.gametree.specs.declared.Side.{Side}
use Rattle.gametree.specs.declared.Side.TheVariants.{Max, Min}
use Rattle.gametree.specs.{other}
use Rattle.table.specs.{frames, first_child, child_count, byte3, same_mover, is_child, parent_of, root_position}
use Rattle.table.specs.{child_position, position_of, WellFormed}
use Rattle.table.proofs.Parents.{child-test, parent-less, parent_is, parent-child}
use Rattle.table.proofs.Positions.{position-root, position-step, depth-at-most}

module _ (t : List ℕ) (wf : WellFormed t) (i k : ℕ) where
  -- a node that has k for a child is k's parent
  pub parent-found : i < frames t → is_child t i k ≡ true → i ≡ parent_of t k
  parent-found h e =
      let b = and_both (leb (first_child t i) k) (ltb k (first_child t i + child_count t i)) e in
      sym (parent_is t wf h (record { from = leb-true _ _ b.0; to = ltb-true _ _ b.1 }))

  -- from one that has not, the search goes on to the left
  pub parent-earlier : 0 < k → k < frames t → parent_of t k ≤ i → is_child t i k ≡ false → parent_of t k < i
  parent-earlier l h p e =
      elim (dec_lt (parent_of t k) i) [
        | yes m ↦ m
        | no m ↦ (let q : parent_of t k ≡ i = omega arith in
            absurd (true-not-false (child-test t i k (rw q at (parent-child t wf k l h).1)) e))
      ]

-- who moves at a node if r moves at the root, where s would move if Max moved at the root
abbrev turned : (s r : Side) → Side
turned Max r = r
turned Min r = other r

turned-max : (s : Side) → turned s Max ≡ s
turned-max Max = refl
turned-max Min = refl

turned-other : (s r : Side) → turned s (other r) ≡ turned (other s) r
turned-other Max r = refl
turned-other Min Max = refl
turned-other Min Min = refl

turned-child : (same : Bool) (s r : Side) → turned s (cond same r (other r)) ≡ turned (cond same s (other s)) r
turned-child true s r = refl
turned-child false s r = turned-other s r

-- where a node stands that is below one at p, and would stand at q if that one were the root
abbrev below : (p q : Position) → Position
below p q = record { depth = p.depth + q.depth; side = turned q.side p.side }

below-itself : (p : Position) → below p root_position ≡ p
below-itself p = let e : p.depth + 0 ≡ p.depth = omega arith in rw e

below_root : (q : Position) → below root_position q ≡ q
below_root q = let e : 0 + q.depth ≡ q.depth = omega arith in rw (e, turned-max q.side)

-- a step down to a child counts the same above and below
below-child : (t : List ℕ) (k : ℕ) (p q : Position) → below (child_position t k p) q ≡ below p (child_position t k q)
below-child t k p q =
    let e : p.depth + 1 + q.depth ≡ p.depth + (q.depth + 1) = omega arith in
    rw (e, turned-child (eqb (byte3 t k) same_mover) q.side p.side)

-- on the way up from node k, at node i: k would stand at q if i were the root
pub record Ascent (t : List ℕ) (k : ℕ) (q : Position) (i : ℕ) : Type 0 where
  pub inside : i < frames t
  pub stands : position_of t k ≡ below (position_of t i) q

-- the same while i's parent is sought, which is none of the nodes from `next` on
pub record Climb (t : List ℕ) (k : ℕ) (q : Position) (i next : ℕ) : Type 0 where
  pub ascent : Ascent t k q i
  pub before : next ≤ i
  pub parent : 0 < i → parent_of t i < next

module _ (t : List ℕ) (k : ℕ) where
  pub ascent-begins : k < frames t → Ascent t k root_position k
  ascent-begins h = record { inside = h; stands = sym (below-itself (position_of t k)) }

  pub ascent-step : (q : Position) (i : ℕ) → 0 < i → Ascent t k q i → Ascent t k (child_position t i q) (parent_of t i)
  ascent-step q i l a =
      record {
        inside = omega (arith, a.inside, parent-less t i l);
        stands =
            a.stands ∙ ap (λ p. below p q) (position-step t i l) ∙ below-child t i (position_of t (parent_of t i)) q;
      }

  pub ascent-ends : (q : Position) (i : ℕ) → i ≤ 0 → Ascent t k q i → q ≡ position_of t k
  ascent-ends q zero l a = sym (a.stands ∙ ap (λ p. below p q) (position-root t) ∙ below_root q)
  ascent-ends q (suc i) l a = absurd (omega arith)

  -- no position on the way is deeper than the node
  pub ascent-depth : (q : Position) (i : ℕ) → Ascent t k q i → q.depth ≤ k
  ascent-depth q i a = omega (arith, ap (λ p. p.depth) a.stands, depth-at-most t k)

module _ (t : List ℕ) (wf : WellFormed t) (k : ℕ) where
  pub climb-begins : k < frames t → Climb t k root_position k k
  climb-begins h = record { ascent = ascent-begins t k h; before = omega arith; parent = parent-less t k }

  module _ (q : Position) (i next : ℕ) (c : Climb t k q i (suc next)) where
    -- the node to the left is i's parent: the climb goes on there
    pub climb_up : is_child t next i ≡ true → Climb t k (child_position t i q) next next
    climb_up e =
        let above : next ≡ parent_of t i = parent-found t wf next i (omega (arith, c.ascent.inside, c.before)) e in
        record {
          ascent = rw above (ascent-step t k q i (omega (arith, c.before)) c.ascent);
          before = omega arith;
          parent = parent-less t next;
        }

    -- or it is not
    pub climb-left : is_child t next i ≡ false → Climb t k q i next
    climb-left e =
        record {
          ascent = c.ascent;
          before = omega (arith, c.before);
          parent = λ l. parent-earlier t wf next i l c.ascent.inside (omega (arith, c.parent l)) e;
        }

  pub climb_ends : (q : Position) (i next : ℕ) → next ≤ 0 → Climb t k q i next → q ≡ position_of t k
  climb_ends q zero next l c = ascent-ends t k q 0 (omega arith) c.ascent
  climb_ends q (suc i) next l c = absurd (omega (arith, c.parent (omega arith)))
