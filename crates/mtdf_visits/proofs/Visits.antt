-- Tests of the table's nodes, in the terms of the code: a look at a node, a leaf, and each way out of an inner node.
use Rattle.prelude.proofs.{ℕ, ◌+◌, ◌-◌, ◌≤◌, ◌<◌, arith, ◌≡◌, refl, sym, ap, ◌∙◌, subst, inl, inr, Bool, true, false}
use Rattle.std.specs.Prelude.{Option, Some, None}
use Rattle.prelude.proofs.{List, [], ◌∷◌, ◌++◌, leb, length, get_or, set, get_or-set_same, get_or-set_other, lt-ltb}
use Rattle.prelude.proofs.{le-ltb}
use Rattle.prelude.proofs.{le-leb, lt-leb}
use Rattle.lists.specs.{among}
use Rattle.lists.proofs.Choice.{is_false}
use Rattle.gametree.specs.declared.Position.{Position}
use Rattle.gametree.specs.{Tree, leaf, inner, least, greatest, minimax, InChildren, Distinct, known, low, high, Tested}
use Rattle.gametree.specs.{unopened, opened, test}
use Rattle.table.specs.{max_nodes, frames, child_count, tree_at, valuation}
use Rattle.table.proofs.Positions.{depth-at-most}
use Rattle.table.proofs.Trees.{in-kids, tree-leaf}
use Rattle.table.proofs.Nodes.{in-own, tree-distinct}
use Rattle.certificate_bounds.specs.{evaluate_all, Evaluable, Listable, best_in}
use Rattle.certificate_bounds.proofs.Bounds.{best-same, minimax-best}
use Rattle.certificate_bounds.proofs.Listing.{next_fits}
use Rattle.mtd_memory.proofs.Turns.{children_up_to, Family, tree-kids}
use Rattle.mtdf_visits.specs.{Memory, memory, progress_of, so_far, MemoryRoom, Bounded, BoundsRight, Counted}
use Rattle.mtdf_visits.specs.{VisitReady, Done, entered_test, VisitedBy, Entered, Undecided, Looked}
use Rattle.mtdf_visits.proofs.Arrays.{evaluated-none, leaf-evaluated, leaf-counted, among-own, among-other}
use Rattle.mtdf_visits.proofs.Turns.{Left}

-- the test of a tree by its bounds
module _ (ν : ℕ → ℕ) (γ : ℕ) (w : List ℕ) where
  test-is-below : (T : Tree) → high ν (among w) T < γ → test ν γ w T ≡ unopened false
  test-is-below (leaf n) h = rw (lt-ltb _ _ h)
  test-is-below (inner n s ks) h = rw (lt-ltb _ _ h)

  test-is-not-below : (T : Tree) → γ ≤ high ν (among w) T → γ ≤ low ν (among w) T → test ν γ w T ≡ unopened true
  test-is-not-below (leaf n) h l = rw (le-ltb _ _ h, le-leb _ _ l)
  test-is-not-below (inner n s ks) h l = rw (le-ltb _ _ h, le-leb _ _ l)

  test-enters : (T : Tree) → γ ≤ high ν (among w) T → low ν (among w) T < γ → test ν γ w T ≡ entered_test ν γ w T
  test-enters (leaf n) h l = rw (le-ltb _ _ h, lt-leb _ _ l)
  test-enters (inner n s ks) h l = rw (le-ltb _ _ h, lt-leb _ _ l)

-- what a test that gives the same does
done-as : {t : List ℕ} {T : Tree} {q q' : Tested} {m m' : Memory} {r : Bool} → q' ≡ q → Done t T q m m' r
    → Done t T q' m m' r
done-as {t} {T} {q} {q'} {m} {m'} {r} e d = subst (λ q. Done t T q m m' r) (sym e) d

-- a node that is answered by its bounds
stay-done : {t : List ℕ} {T : Tree} {m : Memory} (b : Bool) → Counted t m → BoundsRight t m T
    → Done t T (unopened b) m m b
stay-done {t} {T} {m} b c h =
    record {
      answer = refl;
      evaluated = evaluated-none m;
      counted = c;
      right = h;
      others = λ k x. record { evaluated = refl; low = refl; high = refl };
    }

-- a node's depth is small
pub ready-shallow : {t : List ℕ} {m : Memory} {p : Position} {i : ℕ} → VisitReady t m i p → p.depth ≤ max_nodes
ready-shallow {t} {m} {p} {i} r =
    omega (arith, depth-at-most t i, r.inside, r.formed.at_most, ap (λ p. p.depth) r.positioned)

-- what the listing of one more leaf asks
pub ready-listable : {t : List ℕ} {m : Memory} {p : Position} {i : ℕ} → VisitReady t m i p → Listable t (progress_of m)
ready-listable r = record { at_most = r.formed.at_most; room = r.room.order; counted = r.counted.number }

-- node i is ready for a test
module _ {t : List ℕ} {m : Memory} {p : Position} {i : ℕ} (ready : VisitReady t m i p) where
  own : Bounded t m i
  own = ready.right i (in-own t ready.formed i)

  -- its high is below the test
  pub visit-below : {γ : ℕ} → get_or m.highs i 0 < γ → VisitedBy t (tree_at t i) γ m m false
  visit-below {γ} h =
      done-as (test-is-below (valuation t) γ (so_far m) (tree_at t i) (omega (arith, own.high)))
      (stay-done false ready.counted ready.right)

  -- its low is not
  pub visit-not-below : {γ : ℕ} → γ ≤ get_or m.highs i 0 → γ ≤ get_or m.lows i 0
      → VisitedBy t (tree_at t i) γ m m true
  visit-not-below {γ} h l =
      done-as
      (test-is-not-below (valuation t) γ (so_far m) (tree_at t i) (omega (arith, own.high)) (omega (arith, own.low)))
      (stay-done true ready.counted ready.right)

  -- neither: it is entered
  pub visit-open : {γ : ℕ} {m' : Memory} {r : Bool} → γ ≤ get_or m.highs i 0 → get_or m.lows i 0 < γ
      → Entered t (tree_at t i) γ m m' r → VisitedBy t (tree_at t i) γ m m' r
  visit-open {γ} h l d =
      done-as
      (test-enters (valuation t) γ (so_far m) (tree_at t i) (omega (arith, own.high)) (omega (arith, own.low))) d

  -- a leaf
  module _ (none : child_count t i ≡ 0) {γ : ℕ} (h : γ ≤ get_or m.highs i 0) (l : get_or m.lows i 0 < γ) where
    is_leaf : tree_at t i ≡ leaf i
    is_leaf = tree-leaf t ready.formed i ready.inside none

    -- it has no mark, or its bounds would be its score
    leaf-new : among (so_far m) i ≡ false
    leaf-new =
        is_false (among (so_far m) i)
        (λ e. omega (arith, rw (is_leaf, e) at own.low, rw (is_leaf, e) at own.high))

    pub leaf-evaluable : Evaluable t m.evaluated i p.depth
    leaf-evaluable =
        record {
          inside = ready.inside;
          leaf = none;
          room = omega (arith, ready.inside, ready.room.evaluated);
          unmarked = ready.counted.marks i ready.inside ∙ leaf-new;
          depth = ap (λ p. p.depth) ready.positioned;
          shallow = ready-shallow ready;
        }

    -- it is evaluated, and its score is both of its bounds
    module _ (m' : Memory) (v : ℕ) (s : v ≡ valuation t i)
        (all : progress_of m' ≡ evaluate_all (progress_of m) (i ∷ [])) (ls : m'.lows ≡ set m.lows i v)
        (hs : m'.highs ≡ set m.highs i v) where
      fits : m.leaves < length m.order
      fits = omega (arith, next_fits t (ready-listable ready) leaf-evaluable, ready.room.order)

      listed : so_far m' ≡ so_far m ++ (i ∷ [])
      listed =
          (leaf-evaluated t m m' i p.depth ready.room ready.counted leaf-evaluable (ready-listable ready) all
          fits).listed

      leaf-bounded : Bounded t m' i
      leaf-bounded =
          let own : among (so_far m') i ≡ true = ap (λ w. among w i) listed ∙ among-own (so_far m) i in
          record {
            low =
                rw (is_leaf, own, ls)
                (get_or-set_same m.lows i v 0 (omega (arith, ready.inside, ready.room.lows)) ∙ s);
            high =
                rw (is_leaf, own, hs)
                (get_or-set_same m.highs i v 0 (omega (arith, ready.inside, ready.room.highs)) ∙ s);
          }

      leaf-entered : Done t (leaf i) (opened i (leb γ (valuation t i))) m m' (leb γ v)
      leaf-entered =
          record {
            answer = ap (leb γ) s;
            evaluated =
                leaf-evaluated t m m' i p.depth ready.room ready.counted leaf-evaluable (ready-listable ready)
                all fits;
            counted =
                leaf-counted t m m' i p.depth ready.room ready.counted leaf-evaluable (ready-listable ready)
                all fits;
            right = λ k x. subst (Bounded t m') (sym x) leaf-bounded;
            others = λ k x.
                record {
                  evaluated = ap (λ w. among w k) listed ∙ among-other (so_far m) i k x;
                  low = rw ls (get_or-set_other m.lows i k v 0 x);
                  high = rw hs (get_or-set_other m.highs i k v 0 x);
                };
          }

      pub visit-leaf : VisitedBy t (tree_at t i) γ m m' (leb γ v)
      visit-leaf =
          visit-open h l
          (subst (λ T. Done t T (entered_test (valuation t) γ (so_far m) T) m m' (leb γ v)) (sym is_leaf)
          leaf-entered)

-- what a look at node i gives, by what it saw
module _ (t : List ℕ) (i γ : ℕ) (m m' : Memory) (s : Option Bool) (l : Looked t i γ m m' s) where
  -- the node was answered
  pub looked-visited : (r : Bool) → s ≡ Some r → VisitedBy t (tree_at t i) γ m m' r
  looked-visited r e = subst (Looked t i γ m m') e l

  -- the node is open, and ready to be entered
  module _ (e : s ≡ None) where
    open-known : (m' ≡ m) × Undecided t m i γ
    open-known = subst (Looked t i γ m m') e l

    pub open-ready : {p : Position} → VisitReady t m i p → VisitReady t m' i p × (0 < child_count t i)
    open-ready {p} ready =
        let k = open-known in
        (subst (λ x. VisitReady t x i p) (sym k.0) ready, k.1.non_empty)

    pub open-visited : {p : Position} {m'' : Memory} {r : Bool} → VisitReady t m i p
        → Entered t (tree_at t i) γ m' m'' r → VisitedBy t (tree_at t i) γ m m'' r
    open-visited {p} {m''} {r} ready d =
        let k = open-known in
        visit-open ready k.1.high k.1.low (subst (λ x. Entered t (tree_at t i) γ x m'' r) k.0 d)

-- a test that left the same memory and gave the same
pub visited-same : {t : List ℕ} {T : Tree} (γ : ℕ) {m m' m'' : Memory} {r r' : Bool} → m' ≡ m'' → r ≡ r'
    → VisitedBy t T γ m m'' r' → VisitedBy t T γ m m' r
visited-same γ e u x = rw (e, u) x

-- an inner node: its children were tested, and it gets the best of their bounds
module _ {t : List ℕ} {i first end : ℕ} (family : Family t i first end) {m : Memory} {p : Position}
    (ready : VisitReady t m i p) (some : first < end) {γ : ℕ} {m' : Memory} (r : Bool)
    (room : MemoryRoom (frames t) m') (left : Left t p.side γ first end m m' r) where
  node-inner : tree_at t i ≡ inner i p.side (children_up_to t first end)
  node-inner = tree-kids family p.side (ap (λ p. p.side) ready.positioned) some

  -- the node's bounds, and the memory afterwards
  abbrev best-of : List ℕ → ℕ
  best-of b = best_in p.side (λ k. get_or b k 0) first (end - (first + 1))

  abbrev l : ℕ
  l = best-of m'.lows

  abbrev h : ℕ
  h = best-of m'.highs

  abbrev after : Memory
  after = memory m'.leaves m'.evaluated m'.order (set m'.lows i l) (set m'.highs i h)

  apart : (k : ℕ) → InChildren k (children_up_to t first end) → k ≡ i → ⊥
  apart k x e =
      (subst Distinct node-inner (tree-distinct t family.formed i family.inside)).0
      (subst (λ j. InChildren j (children_up_to t first end)) e x)

  -- the best of the children's bounds is the node's
  best-bound : (x : ℕ) (b : List ℕ)
      → ((k : ℕ) → first ≤ k → k < end
      → get_or b k 0 ≡ minimax (known (valuation t) (among (so_far m')) x) (tree_at t k))
      → best-of b ≡ minimax (known (valuation t) (among (so_far m')) x) (inner i p.side (children_up_to t first end))
  best-bound x b same =
      let μ = known (valuation t) (among (so_far m')) x in
      let n = end - (first + 1) in
      best-same p.side (λ k. get_or b k 0) (λ k. minimax μ (tree_at t k)) first n (λ k a c. same k a (omega arith))
      ∙ sym (minimax-best μ p.side (tree_at t) first n)

  child-bounded : (k : ℕ) → first ≤ k → k < end → Bounded t m' k
  child-bounded k a b = left.around.right k a b k (in-own t family.formed k)

  node-bounded : Bounded t after i
  node-bounded =
      record {
        low =
            rw node-inner
            (get_or-set_same m'.lows i l 0 (omega (arith, family.inside, room.lows))
            ∙ best-bound least m'.lows (λ k a b. (child-bounded k a b).low));
        high =
            rw node-inner
            (get_or-set_same m'.highs i h 0 (omega (arith, family.inside, room.highs))
            ∙ best-bound greatest m'.highs (λ k a b. (child-bounded k a b).high));
      }

  below-bounded : (k : ℕ) → InChildren k (children_up_to t first end) → Bounded t after k
  below-bounded k x =
      let j = in-kids (tree_at t) first (end - (first + 1)) k x in
      let b = left.around.right j.0 j.1 (omega (arith, j.2)) k j.3 in
      record {
        low = get_or-set_other m'.lows i k l 0 (apart k x) ∙ b.low;
        high = get_or-set_other m'.highs i k h 0 (apart k x) ∙ b.high;
      }

  inner-entered : Done t (inner i p.side (children_up_to t first end))
      (entered_test (valuation t) γ (so_far m) (inner i p.side (children_up_to t first end))) m after r
  inner-entered =
      record {
        answer = left.done.answer;
        evaluated = record { all = left.done.evaluated.all; listed = left.done.evaluated.listed };
        counted = record { number = left.done.counted.number; marks = left.done.counted.marks };
        right = λ k x.
            elim x [
              | inl e ↦ subst (Bounded t after) (sym e) node-bounded
              | inr y ↦ below-bounded k y
            ];
        others = λ k x.
            let s = left.around.others k (λ y. x (inr y)) in
            record {
              evaluated = s.evaluated;
              low = get_or-set_other m'.lows i k l 0 (λ e. x (inl e)) ∙ s.low;
              high = get_or-set_other m'.highs i k h 0 (λ e. x (inl e)) ∙ s.high;
            };
      }

  pub visit-entered : Entered t (tree_at t i) γ m after r
  visit-entered =
      subst (λ T. Done t T (entered_test (valuation t) γ (so_far m) T) m after r) (sym node-inner) inner-entered
