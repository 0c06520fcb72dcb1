-- Question 9, level by level. Before node i the nodes from i up to e have depth d, and those from e up to next t i, the
-- children known so far, depth d + 1; where i reaches e, the level below begins, and it ends where the children begin.
-- If that level is the last one allowed and some node is not yet known, the first such node is too deep; once each node
-- is known, none is.
use Rattle.prelude.proofs.{ℕ, ◌+◌, ◌≤◌, ◌<◌, arith, dec_lt, ◌≡◌, refl, ap, ◌∙◌, List, le-leb, lt-leb, Ok}
use Rattle.table.specs.declared.Rejection.{Rejection}
use Rattle.table.specs.{max_depth, frames, child_count, next, parent_of, depth_of, WellFormed, answer, check9}
use Rattle.table.specs.{depths_rejection}
use Rattle.table.proofs.Next.{next_more, next-mono, next-within, waits, child-next, next-child, child-later}
use Rattle.table.proofs.Parents.{parent-child}
use Rattle.table.proofs.Positions.{position-root, depth-child}
use Rattle.table.proofs.Asked.{refused, passed-below, passed-all, passed-until}

-- the level that ends at e has depth d
pub record Level (t : List ℕ) (i d e : ℕ) : Type 0 where
  pub here : (k : ℕ) → i ≤ k → k < e → depth_of t k ≡ d
  pub below : (k : ℕ) → e ≤ k → k < next t i → depth_of t k ≡ d + 1

-- where question 9 stands before node i: m is 1 plus the child counts so far
pub record Descending (t : List ℕ) (i d e m : ℕ) : Type 0 where
  pub within : i ≤ frames t
  pub reached : i ≤ e
  pub counted : m ≡ next t i
  pub shallow : d < max_depth
  pub before : (k : ℕ) → k < i → depth_of t k ≤ max_depth
  pub level : Level t i d e

-- node i stands on the level that ends at e
pub record Standing (t : List ℕ) (i d e : ℕ) : Type 0 where
  pub inside : i < e
  pub level : Level t i d e

pub descending-none : (t : List ℕ) → Descending t 0 0 1 1
unfolding next
descending-none t =
    record {
      within = omega arith;
      reached = omega arith;
      counted = refl;
      shallow = omega arith;
      before = λ k h. absurd (omega arith);
      level = record {
        here = λ k _ h. let e : k ≡ 0 = omega arith in rw e (ap (λ p. p.depth) (position-root t));
        below = λ k h g. absurd (omega arith);
      };
    }

-- where not all nodes are known, some are not
pub some-left : (t : List ℕ) → WellFormed t → {i d e m : ℕ} → Descending t i d e m → (m ≡ frames t → ⊥) → m < frames t
some-left t wf {i} a h = omega (arith, a.counted, next-within t wf i a.within, h)

module _ (t : List ℕ) (wf : WellFormed t) (i d e m : ℕ) (a : Descending t i d e m) where
  -- each node is known, and none is too deep
  pub descending-all : frames t ≤ m → Ok (frames t) ≡ answer (frames t) (depths_rejection t)
  descending-all h =
      let f : (k : ℕ) → k < frames t → depth_of t k ≤ max_depth =
      λ k l. elim (dec_lt k i) [
        | yes b ↦ a.before k b
        | no b ↦ elim (dec_lt k e) [
          | yes c ↦ omega (arith, a.level.here k (omega arith) c, a.shallow)
          | no c ↦ omega (arith, a.level.below k (omega arith) (omega (arith, a.counted)), a.shallow)
        ]
      ] in
      rw (passed-all (check9 t) (frames t)
      (passed-below (check9 t) (frames t) (frames t) (omega arith)
      (λ k l. rw (le-leb (depth_of t k) max_depth (f k l)))))

  module _ (g : m < frames t) where
    -- while some node is not known, there is a node to visit
    pub visits : i < frames t
    visits =
        elim (dec_lt i (frames t)) [
          | yes l ↦ l
          | no l ↦ (let q : i ≡ frames t = omega (arith, a.within) in
              absurd (omega (arith, a.counted, ap (next t) q, wf.total)))
        ]

    -- the level below begins
    pub enters : i ≡ e → Standing t i (d + 1) m
    enters q =
        record {
          inside = omega (arith, waits t wf i visits, a.counted);
          level = record {
            here = λ k l b. a.level.below k (omega arith) (omega (arith, a.counted));
            below = λ k l b. absurd (omega (arith, a.counted));
          };
        }

    pub stays : (i ≡ e → ⊥) → Standing t i d e
    stays q = record { inside = omega (arith, a.reached, q); level = a.level }

    -- the first node that is not known is a child of a node on the level that begins
    unknown-depth : i ≡ e → depth_of t m ≡ d + 1 + 1
    unknown-depth q =
        let c = parent-child t wf m (omega (arith, waits t wf i visits, a.counted)) g in
        let p = parent_of t m in
        let b = child-next t wf c.0 c.1 in
        let l : i ≤ p =
        elim (dec_lt p i) [
          | yes y ↦ absurd (omega (arith, next-mono t (p + 1) i (omega arith), a.counted))
          | no y ↦ omega arith
        ] in
        depth-child t wf c.0 c.1
        ∙ ap (λ x. x + 1) ((enters q).level.here p l (child-later t wf c.0 c.1))

    -- if that level is the last one allowed, this node is the first that is too deep
    pub descending-until : i ≡ e → d + 1 ≡ max_depth → refused 9 m ≡ answer (frames t) (depths_rejection t)
    descending-until q l =
        let r : Rejection = record { number = 9; place = m } in
        let f : (k : ℕ) → k < m → depth_of t k ≤ max_depth =
        λ k b. elim (dec_lt k i) [
          | yes c ↦ a.before k c
          | no c ↦ omega (arith, (enters q).level.here k (omega arith) b)
        ] in
        let p =
        passed-below (check9 t) (frames t) m (omega arith) (λ k b. rw (le-leb (depth_of t k) max_depth (f k b))) in
        rw (passed-until (check9 t) (frames t) m g p r
        (rw (lt-leb (depth_of t m) max_depth (omega (arith, unknown-depth q)))))

    module _ (d' e' : ℕ) (s : Standing t i d' e') where
      depth-here : depth_of t i ≡ d'
      depth-here = s.level.here i (omega arith) s.inside

      below_more : (k : ℕ) → e' ≤ k → k < next t (i + 1) → depth_of t k ≡ d' + 1
      below_more k l b =
          elim (dec_lt k (next t i)) [
            | yes c ↦ s.level.below k l c
            | no c ↦ depth-child t wf visits (next-child t wf visits (omega arith) b) ∙ ap (λ x. x + 1) depth-here
          ]

      pub descending-more : (c : ℕ) → c ≡ child_count t i → d' < max_depth → Descending t (i + 1) d' e' (m + c)
      descending-more c q l =
          record {
            within = omega (arith, visits);
            reached = omega (arith, s.inside);
            counted = omega (arith, next_more t i, a.counted);
            shallow = l;
            before = λ k b. elim (dec_lt k i) [
              | yes y ↦ a.before k y
              | no y ↦ (let x : k ≡ i = omega arith in omega (arith, ap (depth_of t) x, depth-here))
            ];
            level = record { here = λ k b y. s.level.here k (omega arith) y; below = below_more };
          }

    -- the counts stay within the table
    pub counts-within : (c : ℕ) → c ≡ child_count t i → m + c ≤ frames t
    counts-within c q = omega (arith, next_more t i, a.counted, next-within t wf (i + 1) (omega (arith, visits)))
