-- The child loop of node i over the table: its children are the numbers from `first` up to `end`, and a turn tests the
-- next of them.
use Rattle.prelude.proofs.{ℕ, ◌+◌, ◌-◌, ◌≤◌, ◌<◌, arith, ℕ_discrete, ◌≡◌, refl, sym, ap, ◌∙◌, subst, Bool, true, false}
use Rattle.prelude.proofs.{◌||◌, List, eqb, eqb-false, ne_eqb}
use Rattle.lists.specs.{among}
use Rattle.gametree.specs.declared.Position.{Position}
use Rattle.gametree.specs.declared.Side.{Side}
use Rattle.gametree.specs.{◌then◌, least, greatest, In, InChildren, settles}
use Rattle.lists.proofs.Choice.{or-false-both}
use Rattle.table.specs.{child_position, tree_at, valuation, ChildOf}
use Rattle.table.proofs.Next.{child-within}
use Rattle.table.proofs.Positions.{position-child}
use Rattle.table.proofs.Trees.{kids-in}
use Rattle.table.proofs.Nodes.{in-parent, in-trans, children-apart}
use Rattle.mtd_memory.proofs.Arrays.{bound-local}
use Rattle.mtd_memory.proofs.Turns.{children_up_to, kids-last, kids-more, Family, child}
use Rattle.mtdf_visits.specs.{Memory, so_far, Long, Bounded, BoundsRight, Counted, VisitReady, Same, VisitedBy}
use Rattle.mtdf_visits.proofs.Arrays.{room-kept, same_more}
use Rattle.mtdf_visits.proofs.Children.{DoneChildren, Remainder, remainder-all, remainder-last}
use Rattle.mtdf_visits.proofs.Children.{remainder-settled}
use Rattle.mtdf_visits.proofs.Children.{remainder-rest}

-- the bounds below the children are right, and at every other node nothing has changed
pub record Around (t : List ℕ) (first end : ℕ) (m m' : Memory) : Type 0 where
  pub right : (k : ℕ) → first ≤ k → k < end → BoundsRight t m' (tree_at t k)
  pub others : (k : ℕ) → (InChildren k (children_up_to t first end) → ⊥) → Same m m' k

-- the head of the loop: the children before `now` have been tested
pub record Turn (t : List ℕ) (s : Side) (γ first end : ℕ) (m m' : Memory) (now : ℕ) : Type 0 where
  pub from : first ≤ now
  pub to : now < end
  pub long : Long m m'
  pub counted : Counted t m'
  pub remainder : Remainder t γ s (children_up_to t first end) (children_up_to t now end) m m'
  pub around : Around t first end m m'

-- after the loop: the children's answer is b
pub record Left (t : List ℕ) (s : Side) (γ first end : ℕ) (m m' : Memory) (b : Bool) : Type 0 where
  pub done : DoneChildren t γ s (children_up_to t first end) m m' b
  pub around : Around t first end m m'

-- the bounds of a node stay right where nothing changes in its tree
bounded-still : {t : List ℕ} {m m' : Memory} {k : ℕ} → Bounded t m k → Same m m' k
    → ((q : ℕ) → In q (tree_at t k) → Same m m' q) → Bounded t m' k
bounded-still {t} {m} {m'} {k} b s e =
    record {
      low =
          s.low ∙ b.low
          ∙ bound-local (valuation t) (among (so_far m)) (among (so_far m')) least (tree_at t k)
          (λ q y. sym (e q y).evaluated);
      high =
          s.high ∙ b.high
          ∙ bound-local (valuation t) (among (so_far m)) (among (so_far m')) greatest (tree_at t k)
          (λ q y. sym (e q y).evaluated);
    }

module _ {t : List ℕ} {i first end : ℕ} (family : Family t i first end) where
  -- before the first child
  pub turn-first : {γ : ℕ} {m : Memory} {p : Position} → VisitReady t m i p → first < end
      → Turn t p.side γ first end m m first
  turn-first {γ} {m} {p} ready some =
      record {
        from = omega arith;
        to = some;
        long = record { evaluated = refl; order = refl; lows = refl; highs = refl };
        counted = ready.counted;
        remainder = remainder-all t γ p.side (children_up_to t first end) m;
        around =
            record {
              right = λ k a b j x.
                  ready.right j (in-parent t family.formed family.inside (child family k a b) j x);
              others = λ k x. record { evaluated = refl; low = refl; high = refl };
            };
      }

  -- the next child
  pub turn-child : {s : Side} {γ : ℕ} {m m' : Memory} {now : ℕ} → Turn t s γ first end m m' now
      → ChildOf t i now
  turn-child u = child family _ u.from u.to

  -- what the test of the next child asks
  pub turn-ready : {s : Side} {γ : ℕ} {m m' : Memory} {now : ℕ} {p q : Position} → VisitReady t m i p
      → Turn t s γ first end m m' now → q ≡ child_position t now p → VisitReady t m' now q
  turn-ready {s} {γ} {m} {m'} {now} {p} {q} r u e =
      let c = turn-child u in
      record {
        formed = family.formed;
        inside = child-within t family.formed family.inside c;
        positioned =
            e ∙ ap (λ p. child_position t now p) r.positioned
            ∙ sym (position-child t family.formed family.inside c);
        room = room-kept r.room u.long;
        counted = u.counted;
        right = u.around.right now u.from u.to;
      }

  module _ {s : Side} {γ : ℕ} {m m' m'' : Memory} {now : ℕ} {r : Bool} (u : Turn t s γ first end m m' now)
      (p : VisitedBy t (tree_at t now) γ m' m'' r) where
    -- the bounds below the other children are as they were
    still-right : (k : ℕ) → first ≤ k → k < end → BoundsRight t m'' (tree_at t k)
    still-right k a b =
        elim (ℕ_discrete k now) [
          | yes e ↦ rw e p.right
          | no e ↦ (λ j x.
              let out : (q : ℕ) → In q (tree_at t k) → In q (tree_at t now) → ⊥ = λ q y z.
              e (children-apart t family.formed family.inside (child family k a b) (turn-child u) q y z)
              in
              let below = in-trans t family.formed k
              (child-within t family.formed family.inside (child family k a b)) j in
              bounded-still (u.around.right k a b j x) (p.others j (out j x))
              (λ q y. p.others q (out q (below q x y))))
        ]

    still : Around t first end m m''
    still =
        record {
          right = still-right;
          others = λ k x.
              let own = kids-in (tree_at t) first (end - (first + 1)) k now u.from (omega (arith, u.to)) in
              same_more (u.around.others k x) (p.others k (λ y. x (own y)));
        }

    module _ (more : now + 1 < end) where
      remainder-more : Remainder t γ s (children_up_to t first end) (tree_at t now then children_up_to t (now + 1) end)
          m m'
      remainder-more = subst (λ ks. Remainder t γ s (children_up_to t first end) ks m m') (kids-more t now end more)
          u.remainder

    -- after a child that is not the last one tested
    pub turn-next : Long m m'' → eqb (now + 1) end || settles s r ≡ false
        → Turn t s γ first end m m'' (now + 1)
    turn-next long e =
        let b = or-false-both (eqb (now + 1) end) (settles s r) e in
        let o = u.to in
        let more : now + 1 < end = omega (arith, eqb-false (now + 1) end b.0) in
        record {
          from = omega (arith, u.from);
          to = more;
          long = long;
          counted = p.counted;
          remainder = remainder-rest p (remainder-more more) b.1;
          around = still;
        }

    -- after the last one tested
    pub turn_last : eqb (now + 1) end || settles s r ≡ true
        → Left t s γ first end m m'' r
    turn_last e =
        record {
          done =
              elim (ℕ_discrete (now + 1) end) [
                | yes z ↦ remainder-last p
                    (subst (λ ks. Remainder t γ s (children_up_to t first end) ks m m') (kids-last t now end z)
                    u.remainder)
                | no z ↦ (let o = u.to in
                    let more : now + 1 < end = omega arith in
                    remainder-settled p (remainder-more more) (rw (ne_eqb _ _ z) at e))
              ];
          around = still;
        }
