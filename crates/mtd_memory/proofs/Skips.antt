-- Children that are passed over: under Max a child whose high is below the test is below; under Min one that is
-- explored, and whose high is not below the test, is not below. The pass does nothing else there.
use Rattle.prelude.proofs.{ℕ, zero, suc, ◌+◌, ◌-◌, ◌≤◌, ◌<◌, arith, ℕ_discrete, dec_lt, ◌≡◌, refl, sym, ap, ◌∙◌, subst}
use Rattle.prelude.proofs.{Bool, true, false, cond, ◌||◌, List, eqb, get_or, eqb-true, eqb-false, eq-eqb, ne_eqb}
use Rattle.prelude.proofs.{le-leb}
use Rattle.prelude.proofs.{lt-leb}
use Rattle.gametree.specs.declared.Position.{Position}
use Rattle.gametree.specs.declared.Side.{Side}
use Rattle.gametree.specs.declared.Side.TheVariants.{Max, Min}
use Rattle.gametree.specs.{greatest, known, settles}
use Rattle.lists.proofs.Choice.{true-not-false, or-false-both}
use Rattle.gametree_theory.proofs.Minimax.Bounds.{minimax-within}
use Rattle.table.specs.{child_count, child_position, side_of, tree_at, valuation}
use Rattle.table.proofs.Next.{child-later, child-within}
use Rattle.table.proofs.Nodes.{in-own, tree-range}
use Rattle.table.proofs.Proper.{every-leaf, leaf-scored}
use Rattle.table.proofs.Trees.{zero-or-suc, in-kids, tree-leaf}
use Rattle.certificate_bounds.specs.{marked}
use Rattle.std.specs.declared.ops.Range.{Range}
use Rattle.mtd_memory.specs.{Memory, Long, VisitReady, Passed, PassedOver, skip_at, Explored, NamesTwo, Skips}
use Rattle.mtd_memory.specs.{ToTry, Alone}
use Rattle.mtd_memory.proofs.Arrays.{set_same, leaf-again, leads-others}
use Rattle.mtd_memory.proofs.Turns.{PassLoop, Left, Family, turn-first, turn-ready, turn-apart, child}
use Rattle.mtd_memory.proofs.Turns.{turn-next, turn_last}
use Rattle.mtd_memory.proofs.Entries.{max-not-min}
use Rattle.mtd_memory.proofs.Visits.{leaf-known, visit-leaf, visit-below, visit-not-below}

-- no high exceeds the greatest score
capped : (b : Bool) (v : ℕ) → v < greatest → cond b v greatest ≤ greatest
capped true v h = omega arith
capped false v h = omega arith

module _ {t : List ℕ} {m : Memory} {i : ℕ} {p : Position} (ready : VisitReady t m i p) where
  pub high-capped : get_or m.highs i 0 ≤ greatest
  high-capped =
      let wf = ready.formed in
      let ν = known (valuation t) (marked m.evaluated) greatest in
      let w =
      minimax-within 0 greatest ν (tree_at t i)
      (every-leaf t wf (λ k. (0 ≤ ν k) × (ν k ≤ greatest))
      (λ k h l. (omega arith, capped (marked m.evaluated k) (valuation t k) (leaf-scored t wf k h l).1)) i
      ready.inside) in
      omega (arith, ready.right i (in-own t wf i))

  module _ {γ : ℕ} (most : γ ≤ greatest) (h : get_or m.highs i 0 < γ) where
    leaf-below : child_count t i ≡ 0 → (b : Bool) → marked m.evaluated i ≡ b → Passed t (tree_at t i) γ m m false
    leaf-below none true e =
        let wf = ready.formed in
        let v = leaf-known t wf i ready.inside none m ready.right e in
        visit-leaf t wf i ready.inside none m γ m.leaves m.evaluated m.order m.highs m.not_below false ready.room
        (sym (lt-leb γ (valuation t i) (omega arith))) (leaf-again _ _ _ _ e) (sym (set_same _ _ 1 (eqb-true _ _ e)))
        (sym (set_same _ _ _ v)) refl ready.counted (ready.skips i (in-own t wf i))
    leaf-below none false e =
        let wf = ready.formed in
        let v : get_or m.highs i 0 ≡ greatest =
        ready.right i (in-own t wf i) ∙ rw (tree-leaf t wf i ready.inside none, e) in
        absurd (omega arith)

    -- a node whose high is below the test is below
    pub below-at-once : Passed t (tree_at t i) γ m m false
    below-at-once =
        zero-or-suc (child_count t i) (λ none. leaf-below none (marked m.evaluated i) refl) (λ n some.
        visit-below (record { formed = ready.formed; inside = ready.inside; from = refl; to = refl }) ready
        (omega arith) refl h)

  -- an explored node whose high is not below the test
  above-at-once : {γ : ℕ} → γ ≤ get_or m.highs i 0 → Explored t m i → Passed t (tree_at t i) γ m m true
  above-at-once {γ} h s =
      zero-or-suc (child_count t i) (λ none.
      let wf = ready.formed in
      let e = s.leaf-is none in
      let v = leaf-known t wf i ready.inside none m ready.right e in
      visit-leaf t wf i ready.inside none m γ m.leaves m.evaluated m.order m.highs m.not_below true ready.room
      (sym (le-leb γ (valuation t i) (omega arith))) (leaf-again _ _ _ _ e) (sym (set_same _ _ 1 (eqb-true _ _ e)))
      (sym (set_same _ _ _ v)) refl ready.counted (ready.skips i (in-own t wf i)))
      (λ n some.
      visit-not-below (record { formed = ready.formed; inside = ready.inside; from = refl; to = refl }) ready
      (omega arith) refl h (s.inner-is (omega arith)))

module _ {t : List ℕ} {i first end : ℕ} (family : Family t i first end) {m : Memory} {p : Position}
    (ready : VisitReady t m i p) where
  own : Skips t m i
  own = ready.skips i (in-own t family.formed i)

  mover : {s : Side} → p.side ≡ s → side_of t i ≡ s
  mover e = sym (ap (λ p. p.side) ready.positioned) ∙ e

  -- the leading children that a Min node skips are not all of them
  pub skips-within : first < end → p.side ≡ Min → first + skip_at m.not_below i < end
  skips-within some e =
      zero-or-suc (skip_at m.not_below i) (λ z. omega arith)
      (λ n z. omega (arith, own.few (mover e) (omega arith), family.to))

  -- what the entry of a Max node names
  pub leads-own : p.side ≡ Max → NamesTwo m.highs first end (get_or m.not_below i 0)
  leads-own e = rw (family.to, family.from) (own.leads (mover e))

module _ {t : List ℕ} {i first end : ℕ} (family : Family t i first end) {m : Memory} {p : Position}
    (ready : VisitReady t m i p) {γ : ℕ} where
  -- the leading children of a Min node that are explored are passed over
  skip-explored : (n now : ℕ) → PassLoop t Min γ first end m m now
      → ((j : ℕ) → now ≤ j → j < now + n → Explored t m j) → now + n < end → PassLoop t Min γ first end m m (now + n)
  skip-explored zero now u h l =
      let z : now + 0 ≡ now = omega arith in subst (PassLoop t Min γ first end m m) (sym z) u
  skip-explored (suc n) now u h l =
      let z : now + 1 + n ≡ now + suc n = omega arith in
      let p = above-at-once (turn-ready family ready u refl) (u.ahead refl now (omega arith) (omega arith))
      (h now (omega arith) (omega arith)) in
      subst (PassLoop t Min γ first end m m) z
      (skip-explored n (now + 1)
      (turn-next family {m'' = m} u p u.long (rw (ne_eqb (now + 1) end (λ e. omega (arith, e))) refl))
      (λ j a b. h j (omega arith) (omega arith)) (omega arith))

  -- the loop of a Min node starts behind them
  turn-start : first < end → γ ≤ get_or m.highs i 0 → p.side ≡ Min
      → PassLoop t p.side γ first end m m (first + skip_at m.not_below i)
  turn-start some high e =
      let now = first + skip_at m.not_below i in
      subst (λ x. PassLoop t x γ first end m m now) (sym e)
      (skip-explored (skip_at m.not_below i) first
      (subst (λ x. PassLoop t x γ first end m m first) e (turn-first family ready some high))
      (λ j a b. (own family ready).explored (mover family ready e) j (omega (arith, family.from))
      (omega (arith, family.from)))
      (skips-within family ready some e))

module _ {t : List ℕ} {i first end : ℕ} (family : Family t i first end) {m : Memory} {p : Position}
    (ready : VisitReady t m i p) {γ : ℕ} (most : γ ≤ greatest) where
  -- one child is passed over
  module _ {m' : Memory} {now : ℕ} (u : PassLoop t Max γ first end m m' now) (h : get_or m'.highs now 0 < γ) where
    abbrev next-ready : VisitReady t m' now (child_position t now p)
    next-ready = turn-ready family ready u refl

    skip-one : now + 1 < end → PassLoop t Max γ first end m m' (now + 1)
    skip-one more =
        turn-next family {m'' = m'} u (below-at-once next-ready most h) u.long
        (rw (ne_eqb (now + 1) end (λ e. omega arith)) refl)

    skip-last : now + 1 ≡ end → Left t Max γ first end m m' (now + 1) false
    skip-last e =
        turn_last family {m'' = m'} u (below-at-once next-ready most h) (rw (eq-eqb (now + 1) end e) refl)

  -- so many are
  skip-to : {m' : Memory} (n now : ℕ) → PassLoop t Max γ first end m m' now
      → ((k : ℕ) → now ≤ k → k < now + n → get_or m'.highs k 0 < γ) → now + n < end
      → PassLoop t Max γ first end m m' (now + n)
  skip-to {m'} zero now u h l =
      let z : now + 0 ≡ now = omega arith in subst (PassLoop t Max γ first end m m') (sym z) u
  skip-to {m'} (suc n) now u h l =
      let z : now + 1 + n ≡ now + suc n = omega arith in
      subst (PassLoop t Max γ first end m m') z
      (skip-to n (now + 1) (skip-one u (h now (omega arith) (omega arith)) (omega arith))
      (λ k a b. h k (omega arith) (omega arith)) (omega arith))

  module _ {s : Side} {m' : Memory} {now r : ℕ} (u : PassLoop t s γ first end m m' now)
      (o : PassedOver s m'.highs γ now end r) where
    -- the next child to try
    pub passed_over : r < end → PassLoop t s γ first end m m' r
    passed_over l = by-gap (r - now) refl
      where
        by-gap : (n : ℕ) → r - now ≡ n → PassLoop t s γ first end m m' r
        by-gap zero e =
            let z : now ≡ r = omega (arith, o.start) in subst (PassLoop t s γ first end m m') z u
        by-gap (suc n) e =
            let max = o.side (omega arith) in
            let z : now + suc n ≡ r = omega (arith, o.start) in
            subst (λ x. PassLoop t x γ first end m m' r) (sym max)
            (subst (PassLoop t Max γ first end m m') z
            (skip-to (suc n) now (subst (λ x. PassLoop t x γ first end m m' now) max u)
            (λ k a b. o.below k a (omega arith)) (omega arith)))

    -- all that were left are below
    pub all-passed-over : r ≡ end → Left t s γ first end m m' r false
    all-passed-over e =
        let l = u.to in
        let max = o.side (omega arith) in
        let n = end - (now + 1) in
        let z : now + n + 1 ≡ end = omega arith in
        subst (λ x. Left t x γ first end m m' r false) (sym max)
        (subst (λ x. Left t Max γ first end m m' x false) (z ∙ sym e)
        (skip-last
        (skip-to n now (subst (λ x. PassLoop t x γ first end m m' now) max u) (λ k a b. o.below k a (omega arith))
        (omega arith))
        (o.below (now + n) (omega arith) (omega arith)) z))

-- the highs of the children that are not to be tried are as they were
abbrev pub Untried : (first end : ℕ) → Range ℕ → (m m' : Memory) → Type 0
Untried first end r m m' =
    (k : ℕ) → first ≤ k → k < end → (r.start ≤ k → k < r.end → ⊥) → get_or m'.highs k 0 ≡ get_or m.highs k 0

-- the loop is among the children to try
pub record Trying (first end : ℕ) (r : Range ℕ) (m m' : Memory) (now : ℕ) : Type 0 where
  pub from : r.start ≤ now
  pub to : now < r.end
  pub outside : Untried first end r m m'

or-true : (a : Bool) → a || true ≡ true
or-true true = refl
or-true false = refl

or-first : (a b : Bool) → a || b ≡ true → b ≡ false → a ≡ true
or-first true b e f = refl
or-first false b e f = absurd (true-not-false e f)

settles-max : {s : Side} {b : Bool} → s ≡ Max → b ≡ false → settles s b ≡ false
settles-max e f = rw (e, f) refl

module _ {t : List ℕ} {i first end : ℕ} (family : Family t i first end) {m : Memory} {p : Position}
    (ready : VisitReady t m i p) {γ : ℕ} (some : first < end) (high : γ ≤ get_or m.highs i 0) {r : Range ℕ}
    (o : ToTry p.side m.highs γ first end (get_or m.not_below i 0) r) where
  most : γ ≤ greatest
  most = omega (arith, high, high-capped ready)

  -- a child after which none is to be tried may be any one, under Max
  left_at : {m' : Memory} {c c' : ℕ} {b : Bool} → p.side ≡ Max → Left t p.side γ first end m m' c b
      → Left t p.side γ first end m m' c' b
  left_at e l = record { passed = l.passed; highs = l.highs; down = λ q _. absurd (max-not-min e q) }

  -- the loop starts at the first child to try
  pub try-first : PassLoop t p.side γ first end m m r.start × Trying first end r m m r.start
  try-first = (
    by_side p.side refl,
    record { from = omega arith; to = o.some; outside = λ k a b c. refl },
  )
    where
      by_side : (s : Side) → p.side ≡ s → PassLoop t p.side γ first end m m r.start
      by_side Max e =
          let w = o.within in
          let x = o.some in
          passed_over family ready most (turn-first family ready some high)
          (record {
            start = o.start;
            to = omega arith;
            below = λ k a b. o.outside e k a (omega arith) (λ c d. omega arith);
            side = λ _. e;
          })
          (omega arith)
      by_side Min e =
          subst (PassLoop t p.side γ first end m m) (sym (o.skips e).0) (turn-start family ready some high e)

  module _ {m' : Memory} {now : ℕ} (u : PassLoop t p.side γ first end m m' now) (w : Trying first end r m m' now)
    where
      -- the children behind those to try are below
      behind-below : p.side ≡ Max → (k : ℕ) → r.end ≤ k → k < end → get_or m'.highs k 0 < γ
      behind-below e k a b =
          let from = u.from in
          let to = w.to in
          let f : first ≤ k = omega arith in
          omega (arith, o.outside e k f b (λ c d. omega arith), w.outside k f b (λ c d. omega arith))

      module _ {q : ℕ} (z : PassedOver p.side m'.highs γ now r.end q) where
        -- the next child to try
        pub try-next : q < r.end → PassLoop t p.side γ first end m m' q × Trying first end r m m' q
        try-next l = (
          passed_over family ready most u
              (record { start = z.start; to = omega (arith, o.within); below = z.below; side = z.side })
              (omega (arith, o.within)),
          record { from = omega (arith, w.from, z.start); to = l; outside = w.outside },
        )

        -- there is none
        pub try-over : q ≡ r.end → {c : ℕ} → Left t p.side γ first end m m' c false
        try-over e =
            let max = z.side (omega (arith, w.to)) in
            left_at max
            (all-passed-over family ready most u
            (record {
              start = omega (arith, u.to);
              to = omega arith;
              below = λ k a b. elim (dec_lt k q) [
                | yes l ↦ z.below k a l
                | no l ↦ behind-below max k (omega arith) b
              ];
              side = λ _. max;
            })
            refl)

      module _ {m'' : Memory} {x : Bool} (v : Passed t (tree_at t now) γ m' m'' x) (long : Long m m'') where
        pub outside-still : Untried first end r m m''
        outside-still k a b c =
            let from = w.from in
            let to = w.to in
            v.others k (turn-apart family u k a b (λ e. c (omega (arith, e)) (omega (arith, e))))
            ∙ w.outside k a b c

        -- after a child that is not the last one to try
        pub try-again : eqb (now + 1) r.end || settles p.side x ≡ false
            → PassLoop t p.side γ first end m m'' (now + 1) × Trying first end r m m'' (now + 1)
        try-again e =
            let b = or-false-both (eqb (now + 1) r.end) (settles p.side x) e in
            let l : now + 1 < r.end = omega (arith, eqb-false (now + 1) r.end b.0, w.to) in (
              turn-next family {m'' = m''} u v long
                  (rw (ne_eqb (now + 1) end (λ f. omega (arith, f, o.within)), b.1) refl),
              record { from = omega (arith, w.from); to = l; outside = outside-still },
            )

        -- under Max the children behind those to try are below
        rest-passed : p.side ≡ Max → x ≡ false → now + 1 ≡ r.end → (r.end ≡ end → ⊥)
            → Left t p.side γ first end m m'' (now + 1) false
        rest-passed max f g other =
            let a = settles-max max f in
            let first-behind : now + 1 < end = omega (arith, o.within, g, other) in
            let from = u.from in
            left_at max
            (all-passed-over family ready most
            (turn-next family {m'' = m''} u v long (rw (ne_eqb (now + 1) end (λ z. omega (arith, z)), a) refl))
            (record {
              start = omega arith;
              to = omega arith;
              below = λ k b c.
                  let l : first ≤ k = omega arith in
                  omega (
                    arith,
                    o.outside max k l c (λ _ d. omega (arith, g)),
                    outside-still k l c (λ _ d. omega (arith, g)),
                  );
              side = λ _. max;
            })
            refl)

        -- after the last one
        pub try-last : eqb (now + 1) r.end || settles p.side x ≡ true
            → Left t p.side γ first end m m'' (now + 1) x
        try-last e =
            elim (ℕ_discrete r.end end) [
              | yes f ↦ turn_last family {m'' = m''} u v
                  (ap (λ k. eqb (now + 1) k || settles p.side x) (sym f) ∙ e)
              | no f ↦ by_answer (settles p.side x) refl (by_side p.side refl f) f
            ]
          where
            by_side : (s : Side) → p.side ≡ s → (r.end ≡ end → ⊥) → p.side ≡ Max
            by_side Max a f = a
            by_side Min a f = absurd (f (o.skips a).1)

            by_answer : (b : Bool) → settles p.side x ≡ b → p.side ≡ Max → (r.end ≡ end → ⊥)
                → Left t p.side γ first end m m'' (now + 1) x
            by_answer true a max other = turn_last family {m'' = m''} u v (rw a (or-true (eqb (now + 1) end)))
            by_answer false a max other =
                let f = ap (λ s. settles s x) (sym max) ∙ a in
                let g = eqb-true (now + 1) r.end (or-first (eqb (now + 1) r.end) _ e a) in
                rw f (rest-passed max f g other)

  -- where the leading child of a Max node was tried alone, the node's entry names it still
  pub alone-still : {m' : Memory} {c : ℕ} {b : Bool} → Left t p.side γ first end m m' c b
      → Untried first end r m m' → p.side ≡ Max → Alone m'.highs first end (get_or m'.not_below i 0) r
  alone-still {m'} left untried max =
      let wf = family.formed in
      let same : get_or m'.not_below i 0 ≡ get_or m.not_below i 0 = left.highs.flags i (λ x.
      let y = in-kids (tree_at t) first (end - (first + 1)) i x in
      let k = child family y.0 y.1 (omega (arith, y.2)) in
      omega (
        arith,
        child-later t wf family.inside k,
        (tree-range t wf y.0 (child-within t wf family.inside k) i y.3).0,
      )) in
      rw same (record {
        some = o.some;
        within = o.within;
        alone = o.alone max;
        leads = λ n e.
            leads-others (λ j a b c. untried j a b (λ f g. c (omega (arith, o.alone max n e, e))))
            (leads-own family ready max);
      })
