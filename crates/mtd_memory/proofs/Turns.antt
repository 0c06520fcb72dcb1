-- The child loop of node i over the table: its children are the numbers from `first` up to `end`, and a turn visits the
-- next of them.
use Rattle.prelude.proofs.{ℕ, suc, ◌+◌, ◌-◌, ◌≤◌, ◌<◌, arith, le_refl, ℕ_discrete, dec_lt, ◌≡◌, refl, sym, ap, ap₂, ◌∙◌}
use Rattle.prelude.proofs.{subst, Bool, true, false, ◌||◌, List, eqb, get_or, eqb-false, ne_eqb, not-false}
use Rattle.gametree.specs.declared.Position.{Position}
use Rattle.gametree.specs.declared.Side.{Side}
use Rattle.gametree.specs.declared.Side.TheVariants.{Min}
use Rattle.gametree.specs.{inner, Children, last, ◌then◌, greatest, minimax, In, InChildren, known, settles}
use Rattle.lists.proofs.Choice.{or-false-both}
use Rattle.table.specs.{frames, first_child, child_count, child_position, side_of, children_from, tree_at, valuation}
use Rattle.table.specs.{WellFormed, ChildOf}
use Rattle.table.proofs.Next.{child-within, children-within}
use Rattle.table.proofs.Positions.{position-child}
use Rattle.table.proofs.Trees.{in-kids, kids-in, tree-inner}
use Rattle.table.proofs.Nodes.{in-own, in-parent, in-trans, tree-range, children-apart}
use Rattle.certificate_bounds.specs.{marked, best_in}
use Rattle.certificate_bounds.proofs.Bounds.{minimax-best}
use Rattle.mtd_memory.specs.{Memory, Long, HighsRight, Counted, VisitReady, Passed, Explored, SkipsRight}
use Rattle.mtd_memory.proofs.Arrays.{bound-local, room-kept, explored-same, skips-same}
use Rattle.mtd_memory.proofs.Answers.{tried-high, tried-explored, best-least, best-is}
use Rattle.mtd_memory.proofs.Children.{PassedChildren, Remainder, remainder-all, remainder-last}
use Rattle.mtd_memory.proofs.Children.{remainder-settled}
use Rattle.mtd_memory.proofs.Children.{remainder-rest}

-- the trees of the children of a node from number i up to `end`
abbrev pub children_up_to : List ℕ → ℕ → ℕ → Children
children_up_to t i end = children_from (tree_at t) i (end - (i + 1))

-- the highs below the children are right, and every other high is as it was
pub record Highs (t : List ℕ) (first end : ℕ) (m m' : Memory) : Type 0 where
  pub right : (k : ℕ) → first ≤ k → k < end → HighsRight t m' (tree_at t k)
  pub others : (k : ℕ) → (InChildren k (children_up_to t first end) → ⊥) → get_or m'.highs k 0 ≡ get_or m.highs k 0
  pub skips : (k : ℕ) → first ≤ k → k < end → SkipsRight t m' (tree_at t k)
  pub flags : (k : ℕ) → (InChildren k (children_up_to t first end) → ⊥)
      → get_or m'.not_below k 0 ≡ get_or m.not_below k 0

-- the head of the loop: the children before `now` have been tried
pub record PassLoop (t : List ℕ) (s : Side) (γ first end : ℕ) (m m' : Memory) (now : ℕ) : Type 0 where
  pub from : first ≤ now
  pub to : now < end
  pub long : Long m m'
  pub counted : Counted t m'
  pub remainder : Remainder t γ s (children_up_to t first end) (children_up_to t now end) m m'
  pub highs : Highs t first end m m'
  -- of a Min node the children that are left have their highs at the test or above
  pub ahead : s ≡ Min → (j : ℕ) → now ≤ j → j < end → γ ≤ get_or m'.highs j 0
  -- and so have those before, which are explored
  pub elders : s ≡ Min → (j : ℕ) → first ≤ j → j < now → Explored t m' j × (γ ≤ get_or m'.highs j 0)

-- of a Min node that is below the child before `child` has the least high, and the children before it are explored
pub record Down (t : List ℕ) (first end child : ℕ) (m' : Memory) : Type 0 where
  pub from : first < child
  pub to : child ≤ end
  pub explored : (j : ℕ) → first ≤ j → j + 1 < child → Explored t m' j
  pub best : best_in Min (λ k. get_or m'.highs k 0) first (end - (first + 1)) ≡ get_or m'.highs (child - 1) 0

-- after the loop: the children's answer is b, and `child` comes after the last one tried
pub record Left (t : List ℕ) (s : Side) (γ first end : ℕ) (m m' : Memory) (child : ℕ) (b : Bool) : Type 0 where
  pub passed : PassedChildren t γ s (children_up_to t first end) m m' b
  pub highs : Highs t first end m m'
  pub down : s ≡ Min → b ≡ false → Down t first end child m'

-- the first of the children left, alone or with younger siblings
pub kids-last : (t : List ℕ) (i end : ℕ) → i + 1 ≡ end → children_up_to t i end ≡ last (tree_at t i)
unfolding children_from
kids-last t i end e = let z : end - (i + 1) ≡ 0 = omega arith in rw z

pub kids-more : (t : List ℕ) (i end : ℕ) → i + 1 < end
    → children_up_to t i end ≡ tree_at t i then children_up_to t (i + 1) end
unfolding children_from
kids-more t i end h = let z : end - (i + 1) ≡ suc (end - (i + 1 + 1)) = omega arith in rw z

-- node i has the children from `first` up to `end`
pub record Family (t : List ℕ) (i first end : ℕ) : Type 0 where
  pub formed : WellFormed t
  pub inside : i < frames t
  pub from : first ≡ first_child t i
  pub to : end ≡ first + child_count t i

module _ {t : List ℕ} {i first end : ℕ} (family : Family t i first end) where
  wf : WellFormed t
  wf = family.formed

  inside : i < frames t
  inside = family.inside

  pub child : (k : ℕ) → first ≤ k → k < end → ChildOf t i k
  child k a b = record { from = omega (arith, family.from); to = omega (arith, family.from, family.to) }

  -- the node over its children
  pub tree-kids : (s : Side) → s ≡ side_of t i → first < end → tree_at t i ≡ inner i s (children_up_to t first end)
  tree-kids s side some =
      let n : child_count t i ≡ suc (end - (first + 1)) = omega (arith, family.to) in
      tree-inner t wf i (end - (first + 1)) inside n
      ∙ ap₂ (λ p k. inner i p (children_from (tree_at t) k (end - (first + 1)))) (sym side) (sym family.from)

  -- the children are within the table
  pub family-within : first < end → end ≤ frames t
  family-within some =
      omega (arith, children-within t wf i inside (omega (arith, family.to)), family.from, family.to)

  -- a Min node's high is at most that of each child
  kid-above : {m : Memory} {p : Position} → VisitReady t m i p → first < end → p.side ≡ Min → (j : ℕ) → first ≤ j
      → j < end → get_or m.highs i 0 ≤ get_or m.highs j 0
  kid-above {m} {p} ready some e j a b =
      let n = end - (first + 1) in
      let μ = known (valuation t) (marked m.evaluated) greatest in
      let c = child j a b in
      let x : get_or m.highs i 0 ≡ best_in Min (λ k. minimax μ (tree_at t k)) first n =
      ready.right i (in-own t wf i)
      ∙ ap (minimax μ) (tree-kids Min (sym e ∙ ap (λ p. p.side) ready.positioned) some)
      ∙ minimax-best μ Min (tree_at t) first n in
      omega (
        arith,
        x,
        best-least (λ k. minimax μ (tree_at t k)) first n j a (omega arith),
        ready.right j (in-parent t wf inside c j (in-own t wf j)),
      )

  -- before the first child
  pub turn-first : {γ : ℕ} {m : Memory} {p : Position} → VisitReady t m i p → first < end → γ ≤ get_or m.highs i 0
      → PassLoop t p.side γ first end m m first
  turn-first {γ} {m} {p} ready some high =
      record {
        from = omega arith;
        to = some;
        long = record { evaluated = refl; order = refl; highs = refl; not_below = refl };
        counted = ready.counted;
        remainder = remainder-all t γ p.side (children_up_to t first end) m;
        highs =
            record {
              right = λ k a b j x. ready.right j (in-parent t wf inside (child k a b) j x);
              others = λ k x. refl;
              skips = λ k a b j x. ready.skips j (in-parent t wf inside (child k a b) j x);
              flags = λ k x. refl;
            };
        ahead = λ e j a b. omega (arith, kid-above ready some e j a b);
        elders = λ e j a b. absurd (omega arith);
      }

  -- the next child
  pub turn-child : {s : Side} {γ : ℕ} {m m' : Memory} {now : ℕ} → PassLoop t s γ first end m m' now
      → ChildOf t i now
  turn-child u = child _ u.from u.to

  -- what the visit of the next child asks
  pub turn-ready : {s : Side} {γ : ℕ} {m m' : Memory} {now : ℕ} {p q : Position} → VisitReady t m i p
      → PassLoop t s γ first end m m' now → q ≡ child_position t now p → VisitReady t m' now q
  turn-ready {s} {γ} {m} {m'} {now} {p} {q} r u e =
      let c = turn-child u in
      record {
        formed = wf;
        inside = child-within t wf inside c;
        positioned = e ∙ ap (λ p. child_position t now p) r.positioned ∙ sym (position-child t wf inside c);
        room = room-kept r.room u.long;
        counted = u.counted;
        right = u.highs.right now u.from u.to;
        skips = u.highs.skips now u.from u.to;
      }

  -- another child is not of its tree
  pub turn-apart : {s : Side} {γ : ℕ} {m m' : Memory} {now : ℕ} → PassLoop t s γ first end m m' now → (j : ℕ)
      → first ≤ j → j < end → (j ≡ now → ⊥) → In j (tree_at t now) → ⊥
  turn-apart u j a b e x = e (children-apart t wf inside (child j a b) (turn-child u) j (in-own t wf j) x)

  module _ {s : Side} {γ : ℕ} {m m' m'' : Memory} {now : ℕ} {r : Bool} (u : PassLoop t s γ first end m m' now)
      (p : Passed t (tree_at t now) γ m' m'' r) where
    -- the highs below the other children are as they were
    still-right : (k : ℕ) → first ≤ k → k < end → HighsRight t m'' (tree_at t k)
    still-right k a b =
        elim (ℕ_discrete k now) [
          | yes e ↦ rw e p.right
          | no e ↦ (λ j x.
              let out : (q : ℕ) → In q (tree_at t k) → In q (tree_at t now) → ⊥ = λ q y z.
              e (children-apart t wf inside (child k a b) (turn-child u) q y z)
              in
              let below = in-trans t wf k (child-within t wf inside (child k a b)) j in
              p.others j (out j x) ∙ u.highs.right k a b j x
              ∙ bound-local (valuation t) _ _ greatest (tree_at t j)
              (λ q y. sym (p.memo.elsewhere q (out q (below q x y))).0))
        ]

    still-skips : (k : ℕ) → first ≤ k → k < end → SkipsRight t m'' (tree_at t k)
    still-skips k a b =
        elim (ℕ_discrete k now) [
          | yes e ↦ rw e p.skips
          | no e ↦ (λ j x.
              let c = child-within t wf inside (child k a b) in
              let out : (q : ℕ) → In q (tree_at t k) → In q (tree_at t now) → ⊥ = λ q y z.
              e (children-apart t wf inside (child k a b) (turn-child u) q y z)
              in
              skips-same (p.flags j (out j x)) (λ q g h.
              let o : ChildOf t j q = record { from = g; to = h } in
              let y = out q (in-trans t wf k c j q x
              (in-parent t wf (tree-range t wf k c j x).1 o q (in-own t wf q))) in
              let z = p.memo.elsewhere q y in
              (z.0, z.1, p.others q y))
              (u.highs.skips k a b j x))
        ]

    -- what holds of the elder siblings holds still
    elders-still : s ≡ Min → (j : ℕ) → first ≤ j → j < now → Explored t m'' j × (γ ≤ get_or m''.highs j 0)
    elders-still e j a b =
        let o = u.to in
        let x = turn-apart u j a (omega arith) (λ z. omega (arith, z)) in
        let y = u.elders e j a b in
        let z = p.memo.elsewhere j x in
        (explored-same z.0 z.1 y.0, omega (arith, y.1, p.others j x))

    -- and of the younger ones
    ahead-still : s ≡ Min → (j : ℕ) → now < j → j < end → γ ≤ get_or m''.highs j 0
    ahead-still e j a b =
        let o = u.from in
        omega (
          arith,
          u.ahead e j (omega arith) b,
          p.others j (turn-apart u j (omega arith) b (λ z. omega (arith, z))),
        )

    inside-now : now < frames t
    inside-now = child-within t wf inside (turn-child u)

    still : Highs t first end m m''
    still =
        record {
          right = still-right;
          others = λ k x.
              let own = kids-in (tree_at t) first (end - (first + 1)) k now u.from (omega (arith, u.to)) in
              p.others k (λ y. x (own y)) ∙ u.highs.others k x;
          skips = still-skips;
          flags = λ k x.
              let own = kids-in (tree_at t) first (end - (first + 1)) k now u.from (omega (arith, u.to)) in
              p.flags k (λ y. x (own y)) ∙ u.highs.flags k x;
        }

    module _ (more : now + 1 < end) where
      younger-apart : (k : ℕ) → In k (tree_at t now) → InChildren k (children_up_to t (now + 1) end) → ⊥
      younger-apart k x y =
          let j = in-kids (tree_at t) (now + 1) (end - (now + 1 + 1)) k y in
          let e = children-apart t wf inside (turn-child u)
          (child j.0 (omega (arith, u.from, j.1)) (omega (arith, j.2))) k x j.3 in
          omega (arith, j.1)

      remainder-more : Remainder t γ s (children_up_to t first end) (tree_at t now then children_up_to t (now + 1) end)
          m m'
      remainder-more = subst (λ ks. Remainder t γ s (children_up_to t first end) ks m m') (kids-more t now end more)
          u.remainder

    -- after a child that is not the last one tried
    pub turn-next : Long m m'' → eqb (now + 1) end || settles s r ≡ false
        → PassLoop t s γ first end m m'' (now + 1)
    turn-next long e =
        let b = or-false-both (eqb (now + 1) end) (settles s r) e in
        let o = u.to in
        let more : now + 1 < end = omega (arith, eqb-false (now + 1) end b.0) in
        record {
          from = omega (arith, u.from);
          to = more;
          long = long;
          counted = p.counted;
          remainder = remainder-rest p (younger-apart more) (remainder-more more) b.1;
          highs = still;
          ahead = λ z j c d. ahead-still z j (omega arith) d;
          elders = λ z j c d.
              elim (ℕ_discrete j now) [
                | yes g ↦ (let a : r ≡ true =
                    not-false r (ap (λ x. settles x r) (sym z) ∙ b.1) in
                    rw g (tried-explored wf inside-now p a, (tried-high wf inside-now p).above a))
                | no g ↦ elders-still z j c (omega arith)
              ];
        }

    -- after the last one tried
    pub turn_last : eqb (now + 1) end || settles s r ≡ true
        → Left t s γ first end m m'' (now + 1) r
    turn_last e =
        record {
          passed =
              elim (ℕ_discrete (now + 1) end) [
                | yes z ↦ remainder-last p
                    (subst (λ ks. Remainder t γ s (children_up_to t first end) ks m m') (kids-last t now end z)
                    u.remainder)
                | no z ↦ (let o = u.to in
                    let more : now + 1 < end = omega arith in
                    remainder-settled p (younger-apart more) (remainder-more more) (rw (ne_eqb _ _ z) at e))
              ];
          highs = still;
          down = λ z a.
              let low = (tried-high wf inside-now p).below a in
              let o = u.to in
              let same : now + 1 - 1 ≡ now = omega arith in
              record {
                from = omega (arith, u.from);
                to = omega arith;
                explored = λ j c d. (elders-still z j c (omega arith)).0;
                best = rw same (best-is (λ k. get_or m''.highs k 0) first (end - (first + 1)) now u.from
                    (omega arith)
                    (λ k c d. elim (ℕ_discrete k now) [
                      | yes g ↦ rw g (le_refl _)
                      | no g ↦ elim (dec_lt k now) [
                        | yes l ↦ omega (arith, (elders-still z k c l).1)
                        | no l ↦ omega (arith, ahead-still z k (omega arith) (omega arith))
                      ]
                    ]));
              };
        }
