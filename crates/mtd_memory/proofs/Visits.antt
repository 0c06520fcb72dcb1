-- Visits of the table's nodes, in the terms of the code: a look at a node, a leaf, and each way out of an inner node.
use Rattle.prelude.proofs.{ℕ, zero, suc, ◌+◌, ◌-◌, ◌≤◌, ◌<◌, arith, ◌≡◌, refl, sym, ap, ◌∙◌, subst, Bool, true, false}
use Rattle.prelude.proofs.{cond, List, [], ◌∷◌, leb, get_or, set, get_or-set_same, get_or-set_other}
use Rattle.std.specs.Prelude.{Option, Some, None}
use Rattle.gametree.specs.declared.Position.{Position}
use Rattle.gametree.specs.declared.Side.{Side}
use Rattle.gametree.specs.declared.Side.TheVariants.{Min}
use Rattle.gametree.specs.{Tree, inner, greatest, minimax, Distinct, known}
use Rattle.table.specs.{max_nodes, frames, first_child, child_count, side_of, tree_at, valuation, WellFormed, ChildOf}
use Rattle.table.proofs.Next.{child-later, child-within}
use Rattle.table.proofs.Positions.{depth-at-most}
use Rattle.table.proofs.Trees.{in-kids, tree-leaf}
use Rattle.table.proofs.Nodes.{in-own, tree-distinct, tree-range}
use Rattle.certificate_bounds.specs.{marked, ones, progress, evaluate_all}
use Rattle.certificate_bounds.proofs.Bounds.{best-same, minimax-best}
use Rattle.certificate_bounds.proofs.Marking.{marked_other}
use Rattle.mtd_memory.specs.{Memory, memory, progress_of, MemoryRoom, HighsRight, VisitReady, Enterable, Passed}
use Rattle.mtd_memory.specs.{Looked, skip_entry, kept_entry, Skips, SkipsRight, KeepsBest}
use Rattle.mtd_memory.proofs.Arrays.{room_at, explored-same, leads-others}
use Rattle.mtd_memory.proofs.Passes.{leaf-passed, below-passed, not-below-passed, entered-passed}
use Rattle.mtd_memory.proofs.Turns.{children_up_to, Down, Left, Family, child, tree-kids}

-- a visit of the same tree
passed-at : {t : List ℕ} {T U : Tree} {γ : ℕ} {m m' : Memory} {r : Bool} → U ≡ T → Passed t T γ m m' r
    → Passed t U γ m m' r
passed-at {t} {T} {U} {γ} {m} {m'} {r} e p = subst (λ T. Passed t T γ m m' r) (sym e) p

-- what a look at node i gives, by what it saw
module _ (t : List ℕ) (i γ : ℕ) (m m' : Memory) (s : Option Bool) (l : Looked t i γ m m' s) where
  -- the node was answered
  pub looked-passed : (r : Bool) → s ≡ Some r → Passed t (tree_at t i) γ m m' r
  looked-passed r e = subst (Looked t i γ m m') e l

  -- the node is open, and ready to be entered
  module _ (e : s ≡ None) where
    open-known : (m' ≡ m) × Enterable t m i γ
    open-known = subst (Looked t i γ m m') e l

    pub open-ready : {p : Position} → VisitReady t m i p → VisitReady t m' i p × Enterable t m' i γ
    open-ready {p} ready =
        let k = open-known in
        (subst (λ x. VisitReady t x i p) (sym k.0) ready, subst (λ x. Enterable t x i γ) (sym k.0) k.1)

    pub open-passed : {m'' : Memory} {r : Bool} → Passed t (tree_at t i) γ m' m'' r
        → Passed t (tree_at t i) γ m m'' r
    open-passed {m''} {r} p = subst (λ x. Passed t (tree_at t i) γ x m'' r) open-known.0 p

-- a node's depth is small
pub ready-shallow : {t : List ℕ} {m : Memory} {p : Position} {i : ℕ} → VisitReady t m i p → p.depth ≤ max_nodes
ready-shallow {t} {m} {p} {i} r =
    omega (arith, depth-at-most t i, r.inside, r.formed.at_most, ap (λ p. p.depth) r.positioned)

-- the children that an entry says to skip
skip-back : (n : ℕ) → skip_entry n - 1 ≡ n
skip-back zero = refl
skip-back (suc n) = omega arith

-- a Min node's entry skips children only where the node is below
skip_count : (b : Bool) (n x : ℕ) → x ≡ kept_entry b n → 0 < x - 1 → (b ≡ false) × (x - 1 ≡ n)
skip_count true n x e h = absurd (omega (arith, e))
skip_count false n x e h = (refl, omega (arith, e, skip-back n))

-- a leaf
module _ (t : List ℕ) (wf : WellFormed t) (i : ℕ) (inside : i < frames t) (none : child_count t i ≡ 0) (m : Memory)
  where
    -- an evaluated leaf's high is its score
    pub leaf-known : HighsRight t m (tree_at t i) → marked m.evaluated i ≡ true → get_or m.highs i 0 ≡ valuation t i
    leaf-known right e = right i (in-own t wf i) ∙ rw (tree-leaf t wf i inside none, e)

    -- it is tried: evaluated, if it was not before, and compared with the test
    pub visit-leaf : (γ n : ℕ) (e o h f : List ℕ) (r : Bool) → MemoryRoom (frames t) m → r ≡ leb γ (valuation t i)
        → progress n e o ≡ evaluate_all (progress_of m) (cond (marked m.evaluated i) [] (i ∷ []))
        → e ≡ set m.evaluated i 1 → h ≡ set m.highs i (valuation t i) → f ≡ m.not_below
        → n ≡ ones e (frames t) → Skips t m i
        → Passed t (tree_at t i) γ m (memory n e o h f) r
    visit-leaf γ n e o h f r room a w p q k c s =
        let is_IsLeaf = tree-leaf t wf i inside none in
        rw (p, q, k) (passed-at is_IsLeaf (leaf-passed t i γ m n o r is_IsLeaf (room_at room inside) a
        (rw p at w) (rw p at c) none s))

-- an inner node
module _ {t : List ℕ} {i first end : ℕ} (family : Family t i first end) {m : Memory} {p : Position}
    (ready : VisitReady t m i p) (some : first < end) where
  child-of : (k : ℕ) → first ≤ k → k < end → ChildOf t i k
  child-of k a b = child family k a b

  node-inner : tree_at t i ≡ inner i p.side (children_up_to t first end)
  node-inner = tree-kids family p.side (ap (λ p. p.side) ready.positioned) some

  right-inner : HighsRight t m (inner i p.side (children_up_to t first end))
  right-inner = subst (HighsRight t m) node-inner ready.right

  skips-inner : SkipsRight t m (inner i p.side (children_up_to t first end))
  skips-inner = subst (SkipsRight t m) node-inner ready.skips

  -- a node whose high is below the test is below
  pub visit-below : {γ : ℕ} {r : Bool} → r ≡ false → get_or m.highs i 0 < γ
      → Passed t (tree_at t i) γ m m r
  visit-below {γ} a h =
      passed-at node-inner (below-passed t i γ m p.side _ node-inner right-inner skips-inner _ ready.counted a h)

  -- a node that a pass found not below is not below
  pub visit-not-below : {γ : ℕ} {r : Bool} → r ≡ true → γ ≤ get_or m.highs i 0
      → marked m.not_below i ≡ true → Passed t (tree_at t i) γ m m r
  visit-not-below {γ} a h b =
      passed-at node-inner
      (not-below-passed t i γ m p.side _ node-inner right-inner skips-inner _ ready.counted a h b)

  -- what an entered node skips or tries from then on
  own-skips : {s : Side} {b : Bool} {now v x : ℕ} {m' m'' : Memory} → s ≡ side_of t i
      → (s ≡ Min → b ≡ false → Down t first end now m')
      → ((j : ℕ) → (j ≡ i → ⊥) → (marked m''.evaluated j ≡ marked m'.evaluated j)
      × (marked m''.not_below j ≡ marked m'.not_below j) × (get_or m''.highs j 0 ≡ get_or m'.highs j 0))
      → get_or m''.not_below i 0 ≡ x → KeepsBest s b m'.highs first end now v x → Skips t m'' i
  own-skips {s} {b} {now} {v} {x} {m'} {m''} e down same is k =
      let later : i < first_child t i = family.formed.later i family.inside (omega (arith, family.to)) in
      record {
        few = λ w h.
            let c = skip_count b (now - (first + 1)) x (k.skips (e ∙ w)) (omega (arith, is)) in
            let d = down (e ∙ w) c.0 in
            omega (arith, is, c.1, d.from, d.to, family.to);
        explored = λ w j a l.
            let c = skip_count b (now - (first + 1)) x (k.skips (e ∙ w)) (omega (arith, is)) in
            let d = down (e ∙ w) c.0 in
            let y = same j (λ q. omega (arith, q)) in
            explored-same y.0 y.1
            (d.explored j (omega (arith, family.from)) (omega (arith, is, c.1, family.from, d.from)));
        leads = λ w.
            rw (is, ← family.from, ← family.to)
            (leads-others (λ j a l _. (same j (λ q. omega (arith, q, family.from))).2) (k.leads (e ∙ w)));
      }

  -- any other is entered, and gets the best of its children's highs and their answer
  pub visit-entered : {γ v x now : ℕ} {m' : Memory} {r : Bool} → γ ≤ get_or m.highs i 0
      → marked m.not_below i ≡ false
      → MemoryRoom (frames t) m' → Left t p.side γ first end m m' now r
      → KeepsBest p.side r m'.highs first end now v x
      → Passed t (tree_at t i) γ m
      (memory m'.leaves m'.evaluated m'.order (set m'.highs i v) (set m'.not_below i x)) r
  visit-entered {γ} {v} {x} {now} {m'} {r} h b room left keeps =
      let wf = family.formed in
      let n = end - (first + 1) in
      let μ = known (valuation t) (marked m'.evaluated) greatest in
      let in-range : (k : ℕ) → k ≤ first + n → k < end = λ k x. omega arith in
      passed-at node-inner
      (entered-passed t i γ m p.side _ node-inner right-inner skips-inner m' r v h b (room_at room family.inside)
      (subst Distinct node-inner (tree-distinct t wf i family.inside)).0
      left.passed
      (λ k x.
      let j = in-kids (tree_at t) first n k x in
      left.highs.right j.0 j.1 (in-range j.0 j.2) k j.3)
      left.highs.others
      (keeps.high
      ∙ best-same p.side _ (λ k. minimax μ (tree_at t k)) first n
      (λ k a b. left.highs.right k a (in-range k b) k (in-own t wf k))
      ∙ sym (minimax-best μ p.side (tree_at t) first n))
      x keeps.flag
      (λ k x.
      let j = in-kids (tree_at t) first n k x in
      left.highs.skips j.0 j.1 (in-range j.0 j.2) k j.3)
      (λ k j x c d e.
      let y = in-kids (tree_at t) first n k x in
      let o = child-of y.0 y.1 (in-range y.0 y.2) in
      let q = tree-range t wf y.0 (child-within t wf family.inside o) k y.3 in
      let l = wf.later k q.1 (omega arith) in
      omega (arith, e, child-later t wf family.inside o, q.0, l))
      left.highs.flags
      (own-skips (ap (λ p. p.side) ready.positioned) left.down
      (λ j e. (refl, marked_other m'.not_below i j _ e, get_or-set_other m'.highs i j v 0 e))
      (get_or-set_same m'.not_below i x 0 (omega (arith, room.not_below, family.inside))) keeps))
