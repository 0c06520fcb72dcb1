-- What SSS* and MTD evaluate, in closed form. A pass with the test γ takes MTD's memory from `memo_at` of γ + 1 to that
-- of γ; so after all passes the evaluated leaves are those of the closed form.
use Rattle.prelude.proofs.{ℕ, zero, suc, ◌≤◌, ◌<◌, min, max, le_refl, lt_of_lt_of_le, arith, ◌≡◌, refl, sym, ◌∙◌, ap}
use Rattle.prelude.proofs.{ap₂, subst, inl, inr, ⊎_elim, Bool, true, false, cond, not, ◌&&◌, List, [], ◌∷◌, ◌++◌, leb}
use Rattle.prelude.proofs.{ltb, ltb-true, ltb-false, leb-true, leb-false, not-true, not-false, le-leb, lt-leb}
use Rattle.lists.specs.{All, among}
use Rattle.gametree.specs.declared.Side.{Side}
use Rattle.gametree.specs.declared.Side.TheVariants.{Max, Min}
use Rattle.gametree.specs.{Tree, leaf, inner, Children, last, ◌then◌, least, greatest, minimax, minimax_children, In}
use Rattle.gametree.specs.{InChildren, EveryLeaf, EveryLeafChildren, Scored, ScoredChildren, Distinct, DistinctChildren}
use Rattle.gametree.specs.{Proper, raise, lower, Memo, MemoChildren, memo_high, memo_high_children, Pass, PassChildren}
use Rattle.gametree.specs.{pass, pass_children, MemoRun, run, fresh, memo_mtd, rival, unrivalled, unrivalled_children}
use Rattle.gametree_theory.proofs.Mtd.Marks.{Marks, MarksChildren}
use Rattle.lists.proofs.Choice.{cond_cases, true-not-false, and_both}
use Rattle.lists.proofs.Lists.{all_append, all_map, all_among}
use Rattle.gametree_theory.proofs.Minimax.Bounds.{minimax-score}
use Rattle.gametree_theory.proofs.Mtd.Sound.{minimax-memo_high}
use Rattle.gametree_theory.proofs.Mtd.Marks.{marks-other, marks_children-before, mtd-marks}
use Rattle.gametree_theory.proofs.Results.MemoAt.{first_floor, rest_floor, memo_at, memo_at_children, less-or-not}
use Rattle.gametree_theory.proofs.Results.MemoAt.{kids-path}
use Rattle.gametree_theory.proofs.Results.MemoAt.{inner-path}
use Rattle.gametree_theory.proofs.Results.MemoAt.{at-fresh, at_children-fresh, frozen, at-below, at_same}

-- THE NEEDED LEAVES

-- the leaves whose beta, the test with which they are first tried, is not below their floor
abbrev mutual
  needed : (ℕ → ℕ) → ℕ → ℕ → Tree → List ℕ
  needed ν c β (leaf n) = cond (leb c β) (n ∷ []) []
  needed ν c β (inner n s ks) = needed_children ν s c β ks

  needed_children : (ℕ → ℕ) → Side → ℕ → ℕ → Children → List ℕ
  needed_children ν s c β (last t) = needed ν c β t
  needed_children ν s c β (t then ts) =
      needed ν (first_floor s c β (minimax_children ν s ts)) β t
      ++ needed_children ν s (rest_floor s c (minimax ν t)) (lower s β (minimax ν t)) ts

-- floors join alpha and the rivals
floor-test : (α β δ : ℕ) → ltb α β && leb δ β ≡ leb (max (suc α) δ) β
floor-test α β δ = go (ltb α β) refl (leb δ β) refl
  where
    go : (a : Bool) → ltb α β ≡ a → (b : Bool) → leb δ β ≡ b → a && b ≡ leb (max (suc α) δ) β
    go true p true q = let x = ltb-true α β p in let y = leb-true δ β q in sym (le-leb (max (suc α) δ) β (omega arith))
    go true p false q = let y = leb-false δ β q in sym (lt-leb (max (suc α) δ) β (omega arith))
    go false p b q = let x = ltb-false α β p in sym (lt-leb (max (suc α) δ) β (omega arith))

-- a first child's floor, and its siblings'
first-floor : (s : Side) (α β δ y : ℕ) → max (suc α) (rival s δ β y) ≡ first_floor s (max (suc α) δ) β y
first-floor Max α β δ y = omega arith
first-floor Min α β δ y = refl

rest-floor : (s : Side) (α δ v : ℕ) → max (suc (raise s α v)) δ ≡ rest_floor s (max (suc α) δ) v
rest-floor Max α δ v = omega arith
rest-floor Min α δ v = refl

mutual
  -- the closed form by floors
  unrivalled-needed : (ν : ℕ → ℕ) (α β δ : ℕ) (t : Tree) → unrivalled ν α β δ t ≡ needed ν (max (suc α) δ) β t
  unrivalled-needed ν α β δ (leaf n) = ap (λ b. cond b (n ∷ []) []) (floor-test α β δ)
  unrivalled-needed ν α β δ (inner n s ks) = unrivalled_children-needed ν s α β δ ks

  unrivalled_children-needed : (ν : ℕ → ℕ) (s : Side) (α β δ : ℕ) (ks : Children)
      → unrivalled_children ν s α β δ ks ≡ needed_children ν s (max (suc α) δ) β ks
  unrivalled_children-needed ν s α β δ (last t) = unrivalled-needed ν α β δ t
  unrivalled_children-needed ν s α β δ (t then ts) =
      ap₂ ◌++◌ (unrivalled-needed ν α β _ t ∙ ap (λ c. needed ν c β t) (first-floor s α β δ (minimax_children ν s ts)))
      (unrivalled_children-needed ν s _ _ δ ts ∙ ap (λ c. needed_children ν s c (lower s β (minimax ν t)) ts)
      (rest-floor s α δ (minimax ν t)))

-- PASSES

-- two tests give the same answer if each follows from the other
leb-same : (γ a b : ℕ) → (γ ≤ a → γ ≤ b) → (γ ≤ b → γ ≤ a) → leb γ a ≡ leb γ b
leb-same γ a b f g =
    ⊎_elim (λ q. lt-leb γ a q ∙ sym
    (lt-leb γ b (⊎_elim (λ p. p) (λ p. absurd (let z = g p in omega arith)) (less-or-not b γ))))
    (λ q. le-leb γ a q ∙ sym (le-leb γ b (f q))) (less-or-not a γ)

-- the answer of a first child and of the others, at Max and at Min
le-max : (γ u y : ℕ) → γ ≤ u → γ ≤ max u y
le-max γ u y h = omega arith

leb-max : (γ u y : ℕ) → u < γ → leb γ y ≡ leb γ (max u y)
leb-max γ u y h = leb-same γ y (max u y) (λ p. omega arith) (λ p. omega arith)

leb-min : (γ u y : ℕ) → γ ≤ u → leb γ y ≡ leb γ (min u y)
leb-min γ u y h = leb-same γ y (min u y) (λ p. omega arith) (λ p. omega arith)

-- a flag that is not set says that the first test or the value is not above c
and-false-min : (c β v : ℕ) → leb (suc c) β && leb (suc c) v ≡ false → min β v ≤ c
and-false-min c β v e = go (leb (suc c) β) refl (leb (suc c) v) refl e
  where
    go : (a : Bool) → leb (suc c) β ≡ a → (b : Bool) → leb (suc c) v ≡ b → a && b ≡ false → min β v ≤ c
    go true p true q z = absurd (true-not-false refl z)
    go true p false q z = omega (arith, leb-false (suc c) v q)
    go false p b q z = omega (arith, leb-false (suc c) β p)

-- a pass with the test γ takes the memory from γ + 1 to γ, and answers by the minimax value
record Passed (ν : ℕ → ℕ) (γ β : ℕ) (t : Tree) (r : Pass t) : Type 0 where
  next-is : r.next ≡ memo_at ν γ β t
  answer : r.not_below ≡ leb γ (minimax ν t)

record PassedChildren (ν : ℕ → ℕ) (γ β : ℕ) (s : Side) (ks : Children) (q : PassChildren ks) : Type 0 where
  next-is : q.next ≡ memo_at_children ν s γ β ks
  answer : q.not_below ≡ leb γ (minimax_children ν s ks)

-- an inner node is skipped as below, skipped as not below, or entered
passed-inner : (ν : ℕ → ℕ) (γ β n : ℕ) (s : Side) (ks : Children) (m : Memo (inner n s ks)) → ScoredChildren ν ks
    → m ≡ memo_at ν (suc γ) β (inner n s ks)
    → γ ≤ β → γ ≤ greatest → (min β (minimax_children ν s ks) ≤ γ
    → PassedChildren ν γ β s ks (pass_children ν γ s ks m.kids))
    → Passed ν γ β (inner n s ks) (pass ν γ (inner n s ks) m)
passed-inner ν γ β n s ks m i e h g q =
    let t = inner n s ks in
    let v = minimax_children ν s ks in
    let f : m.not_below ≡ leb (suc γ) β && leb (suc γ) v = ap (λ (x : Memo t). x.not_below) e in
    cond_cases (λ r. Passed ν γ β t r) (ltb (memo_high_children ν s ks m.kids) γ) _ _
    (λ d.
    let l = ltb-true (memo_high_children ν s ks m.kids) γ d in
    let k = subst (λ (x : Memo t). memo_high ν t x < γ) e l in
    let w = minimax-memo_high ν t m i in
    record {
      next-is = e ∙ sym (at_same ν (suc γ) γ β t i (omega arith) g k);
      answer = sym (lt-leb γ v (omega arith));
    })
    (λ _. cond_cases (λ r. Passed ν γ β t r) m.not_below _ _
    (λ d.
    let k = and_both (leb (suc γ) β) (leb (suc γ) v) (sym f ∙ d) in
    let a = leb-true (suc γ) β k.0 in
    let b = leb-true (suc γ) v k.1 in
    record {
      next-is = e ∙ sym (frozen ν γ (suc γ) β t (omega arith) a b);
      answer = sym (le-leb γ v (omega arith));
    })
    (λ d.
    let x = q (and-false-min γ β v (sym f ∙ d)) in
    record {
      next-is = inner-path n s ks (x.answer ∙ sym (rw (le-leb γ β h) refl)) x.next-is;
      answer = x.answer;
    }))

-- while a Max node's value is not reached, its first child's floor is the test
min-first : (γ β u y : ℕ) → min β (max u y) ≤ γ → min β y ≤ γ
min-first γ β u y h = omega arith

floor-first : (γ z : ℕ) → z ≤ γ → (max (suc γ) z ≡ suc γ) × (γ ≡ max γ z)
floor-first γ z h = omega arith

-- once the first child's value is reached, its siblings' floors no longer depend on the test; before, they are the test
floor-reached : (γ u : ℕ) → γ ≤ u → max (suc γ) (suc u) ≡ max γ (suc u)
floor-reached γ u h = omega arith

floor-rest : (γ u : ℕ) → u < γ → (max (suc γ) (suc u) ≡ suc γ) × (γ ≡ max γ (suc u))
floor-rest γ u h = omega arith

mutual
  -- a pass at a node that is tried with the test γ
  passed : (ν : ℕ → ℕ) (γ β : ℕ) (t : Tree) (m : Memo t) → Scored ν t → m ≡ memo_at ν (suc γ) β t → γ ≤ β → γ ≤ greatest
      → Passed ν γ β t (pass ν γ t m)
  passed ν γ β (leaf n) m i e h g =
      let f : leb (suc γ) β ≡ m.evaluated = sym (ap (λ (x : Memo (leaf n)). x.evaluated) e) in
      cond_cases (λ r. Passed ν γ β (leaf n) r) m.evaluated _ _
      (λ d. record {
        next-is = e ∙ ap {B = Memo (leaf n)} (λ x. record { evaluated = x }) (f ∙ d ∙ sym (le-leb γ β h));
        answer = refl;
      })
      (λ _. record { next-is = rw (le-leb γ β h) refl; answer = refl })
  passed ν γ β (inner n s ks) m i e h g =
      passed-inner ν γ β n s ks m i e h g
      (λ l. passed_children ν γ β s ks m.kids i (ap (λ (x : Memo (inner n s ks)). x.kids) e) h g l)

  passed_children : (ν : ℕ → ℕ) (γ β : ℕ) (s : Side) (ks : Children) (m : MemoChildren ks) → ScoredChildren ν ks
      → m ≡ memo_at_children ν s (suc γ) β ks → γ ≤ β → γ ≤ greatest
      → min β (minimax_children ν s ks) ≤ γ → PassedChildren ν γ β s ks (pass_children ν γ s ks m)
  passed_children ν γ β s (last t) m i e h g l =
      let a = passed ν γ β t m i e h g in
      record { next-is = a.next-is; answer = a.answer }
  passed_children ν γ β Max (t then ts) m i e h g l =
      let u = minimax ν t in
      let y = minimax_children ν Max ts in
      let o = min-first γ β u y l in
      let j = floor-first γ (min β y) o in
      let first = ap (λ (x : MemoChildren (t then ts)). x.first) e in
      let rest = ap (λ (x : MemoChildren (t then ts)). x.rest) e in
      let a = passed ν γ β t m.first i.0 (first ∙ ap (λ x. memo_at ν x β t) j.0) h g in
      let one = a.next-is ∙ ap (λ x. memo_at ν x β t) j.1 in
      cond_cases (λ q. PassedChildren ν γ β Max (t then ts) q) (pass ν γ t m.first).not_below _ _
      (λ d.
      let w = leb-true γ u (sym a.answer ∙ d) in
      record {
        next-is = kids-path t ts one (rest ∙ ap (λ x. memo_at_children ν Max x β ts) (floor-reached γ u w));
        answer = d ∙ sym (le-leb γ (max u y) (le-max γ u y w));
      })
      (λ d.
      let w = leb-false γ u (sym a.answer ∙ d) in
      let z = floor-rest γ u w in
      let b = passed_children ν γ β Max ts m.rest i.1 (rest ∙ ap (λ x. memo_at_children ν Max x β ts) z.0) h g
      o in
      record {
        next-is = kids-path t ts one (b.next-is ∙ ap (λ x. memo_at_children ν Max x β ts) z.1);
        answer = b.answer ∙ leb-max γ u y w;
      })
  passed_children ν γ β Min (t then ts) m i e h g l =
      let u = minimax ν t in
      let y = minimax_children ν Min ts in
      let rest = ap (λ (x : MemoChildren (t then ts)). x.rest) e in
      let a = passed ν γ β t m.first i.0 (ap (λ (x : MemoChildren (t then ts)). x.first) e) h g in
      cond_cases (λ q. PassedChildren ν γ β Min (t then ts) q) (not (pass ν γ t m.first).not_below) _ _
      (λ d.
      let f = not-true _ d in
      let w = leb-false γ u (sym a.answer ∙ f) in
      record {
        next-is =
            kids-path t ts a.next-is
            (rest ∙ at_children-fresh ν Min (suc γ) (min β u) ts (omega arith) ∙ sym
            (at_children-fresh ν Min γ (min β u) ts (omega arith)));
        answer = f ∙ sym (lt-leb γ (min u y) (omega arith));
      })
      (λ d.
      let w = leb-true γ u (sym a.answer ∙ not-false _ d) in
      let b = passed_children ν γ (min β u) Min ts m.rest i.1 rest (omega arith) g (omega arith) in
      record {
        next-is = kids-path t ts a.next-is b.next-is;
        answer = b.answer ∙ leb-min γ u y w;
      })

-- a run of passes ends with the memory after all tests
run-form : (ν : ℕ → ℕ) (f γ : ℕ) (t : Tree) (m : Memo t) → Scored ν t → m ≡ memo_at ν (suc γ) greatest t → least < γ
    → γ ≤ greatest
    → γ < f → (run ν f γ t m).memo ≡ memo_at ν 1 greatest t
run-form ν zero γ t m i e p g l = absurd (omega (arith, l))
run-form ν (suc f) γ t m i e p g l =
    let a = passed ν γ greatest t m i e g g in
    let n = (pass ν γ t m).next in
    cond_cases (λ (q : MemoRun t). q.memo ≡ memo_at ν 1 greatest t) (pass ν γ t m).not_below _ _
    (λ d. a.next-is ∙ sym (frozen ν 1 γ greatest t p g (leb-true γ _ (sym a.answer ∙ d))))
    (λ d.
    let w = leb-false γ (minimax ν t) (sym a.answer ∙ d) in
    let h = memo_high ν t n in
    let b : memo_high ν t (memo_at ν γ greatest t) < γ = at-below ν γ greatest t g w in
    let x : h ≡ memo_high ν t (memo_at ν γ greatest t) = ap (memo_high ν t) a.next-is in
    let c = at_same ν γ (suc h) greatest t i (omega arith) (omega arith) (omega arith) in
    let v = minimax-score ν t i in
    let y = minimax-memo_high ν t n i in
    run-form ν f h t n i (a.next-is ∙ sym c) (lt_of_lt_of_le v.0 y) (omega arith) (omega arith))

-- LEAVES

-- the needed leaves are nodes of the tree
needed-leaf : (b : Bool) (n : ℕ) → All (λ k. k ≡ n) (cond b (n ∷ []) [])
needed-leaf true n = (refl, tt)
needed-leaf false n = tt

mutual
  needed-in : (ν : ℕ → ℕ) (c β : ℕ) (t : Tree) → All (λ k. In k t) (needed ν c β t)
  needed-in ν c β (leaf n) = needed-leaf (leb c β) n
  needed-in ν c β (inner n s ks) = all_map _ _ (λ k i. inr i) (needed_children ν s c β ks)
      (needed_children-in ν s c β ks)

  needed_children-in : (ν : ℕ → ℕ) (s : Side) (c β : ℕ) (ks : Children)
      → All (λ k. InChildren k ks) (needed_children ν s c β ks)
  needed_children-in ν s c β (last t) = needed-in ν c β t
  needed_children-in ν s c β (t then ts) =
      all_append (λ k. InChildren k (t then ts)) (needed ν _ β t) (needed_children ν s _ _ ts)
      (all_map _ _ (λ k i. inl i) (needed ν _ β t) (needed-in ν _ β t))
      (all_map _ _ (λ k i. inr i) (needed_children ν s _ _ ts) (needed_children-in ν s _ _ ts))

-- and they are the marked ones
mark-leaf : (b : Bool) (n : ℕ) → b ≡ among (cond b (n ∷ []) []) n
mark-leaf true n = sym (all_among (n ∷ [])).0
mark-leaf false n = refl

mutual
  needed-marks : (ν : ℕ → ℕ) (c β : ℕ) (t : Tree) → Distinct t → Marks (needed ν c β t) t (memo_at ν c β t)
  needed-marks ν c β (leaf n) d = mark-leaf (leb c β) n
  needed-marks ν c β (inner n s ks) d = needed_children-marks ν s c β ks d.1

  needed_children-marks : (ν : ℕ → ℕ) (s : Side) (c β : ℕ) (ks : Children) → DistinctChildren ks
      → MarksChildren (needed_children ν s c β ks) ks (memo_at_children ν s c β ks)
  needed_children-marks ν s c β (last t) d = needed-marks ν c β t d
  needed_children-marks ν s c β (t then ts) d =
      let x = first_floor s c β (minimax_children ν s ts) in
      let y = rest_floor s c (minimax ν t) in
      let z = lower s β (minimax ν t) in (
        marks-other (needed ν x β t) (needed_children ν s y z ts) t (memo_at ν x β t)
            (all_map _ _ (λ k i j. d.2 k j i) (needed_children ν s y z ts) (needed_children-in ν s y z ts))
            (needed-marks ν x β t d.0),
        marks_children-before (needed ν x β t) (needed_children ν s y z ts) ts (memo_at_children ν s y z ts)
            (all_map _ _ (λ k i j. d.2 k i j) (needed ν x β t) (needed-in ν x β t))
            (needed_children-marks ν s y z ts d.1),
      )

-- lists that mark the same memory have the same leaves
mutual
  marks-agree : (v w : List ℕ) (t : Tree) (m : Memo t) → Marks v t m → Marks w t m
      → EveryLeaf (λ n. among v n ≡ among w n) t
  marks-agree v w (leaf n) m h k = sym h ∙ k
  marks-agree v w (inner n s ks) m h k = marks_children-agree v w ks m.kids h k

  marks_children-agree : (v w : List ℕ) (ks : Children) (m : MemoChildren ks) → MarksChildren v ks m
      → MarksChildren w ks m
      → EveryLeafChildren (λ n. among v n ≡ among w n) ks
  marks_children-agree v w (last t) m h k = marks-agree v w t m h k
  marks_children-agree v w (t then ts) m h k =
      (marks-agree v w t m.first h.0 k.0, marks_children-agree v w ts m.rest h.1 k.1)

-- MTD ends with the memory after all tests
mtd-form : (ν : ℕ → ℕ) (t : Tree) → Scored ν t → (memo_mtd ν t).memo ≡ memo_at ν 1 greatest t
unfolding memo_mtd
mtd-form ν t h =
    run-form ν (suc greatest) greatest t (fresh t) h (sym (at-fresh ν (suc greatest) greatest t (le_refl _)))
    (omega arith)
    (le_refl _) (omega arith)

-- so it evaluates the leaves of the closed form
pub mtd-unrivalled : (ν : ℕ → ℕ) (t : Tree) → Proper ν t
    → EveryLeaf (λ n. among (memo_mtd ν t).evaluated n ≡ among (unrivalled ν least greatest least t) n) t
mtd-unrivalled ν t r =
    let e = unrivalled-needed ν least greatest least t in
    let m =
    subst (λ x. Marks (needed ν 1 greatest t) t x) (sym (mtd-form ν t r.scored))
    (needed-marks ν 1 greatest t r.distinct) in
    rw e (marks-agree (memo_mtd ν t).evaluated (needed ν 1 greatest t) t (memo_mtd ν t).memo
    (mtd-marks ν t r.distinct).marks m)
