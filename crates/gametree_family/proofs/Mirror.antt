-- MTD(f) in the mirrored game makes the opposite tests, from the opposite guess, and evaluates the same leaves: so its
-- two ends are each other's mirror images, and what holds of the one holds of the other.
use Rattle.prelude.proofs.{ℕ, zero, suc, ◌+◌, ◌-◌, ◌≤◌, ◌<◌, min, max, le_trans, arith, ◌≡◌, refl, sym, ◌∙◌, ap, ap₂}
use Rattle.prelude.proofs.{subst, fun_ext, inl, inr, Bool, true, false, cond, not, List, [], ◌∷◌, ◌++◌, map, leb, ltb}
use Rattle.prelude.proofs.{eqb, length, ltb-true, ltb-false, leb-true, leb-false, eqb-true, eqb-false, lt-ltb, le-ltb}
use Rattle.prelude.proofs.{le-leb, lt-leb, eq-eqb, ne_eqb}
use Rattle.lists.specs.{among}
use Rattle.gametree.specs.declared.Side.{Side}
use Rattle.gametree.specs.declared.Side.TheVariants.{Max, Min}
use Rattle.gametree.specs.{Tree, leaf, inner, Children, last, ◌then◌, other, least, greatest, better, minimax}
use Rattle.gametree.specs.{minimax_children, leaves, leaves_children, In, InChildren, Scored, ScoredChildren, Distinct}
use Rattle.gametree.specs.{DistinctChildren, Proper, known, low, high, clamp, settles, Tested, unopened, passed_on}
use Rattle.gametree.specs.{by_bounds, test, test_children, equal_test, last_phase, view, chosen_test, TestSearch, met}
use Rattle.gametree.specs.{tested, drive, search_by, after_guess, mtd_from, decide_by}
use Rattle.gametree_family.specs.{mirror, mirror_children, opposite, mirrored, opposite_test}
use Rattle.gametree_theory.proofs.Minimax.Bounds.{minimax-score}
use Rattle.gametree_theory.proofs.Minimax.Closer.{bounds≤, high≤}
use Rattle.gametree_theory.proofs.Tests.Runs.{search-right}
use Rattle.gametree_theory.proofs.Tests.FirstMove.{equal-inside}

-- VALUES

better-mirror : (s : Side) (a b : ℕ) → better (other s) (opposite a) (opposite b) ≡ opposite (better s a b)
better-mirror Max a b = omega arith
better-mirror Min a b = omega arith

mutual
  -- the value of the mirrored game is the opposite
  pub minimax-mirror : (ν : ℕ → ℕ) (t : Tree) → minimax (mirrored ν) (mirror t) ≡ opposite (minimax ν t)
  minimax-mirror ν (leaf n) = refl
  minimax-mirror ν (inner n s ks) = minimax_children-mirror ν s ks

  minimax_children-mirror : (ν : ℕ → ℕ) (s : Side) (ks : Children)
      → minimax_children (mirrored ν) (other s) (mirror_children ks) ≡ opposite (minimax_children ν s ks)
  minimax_children-mirror ν s (last t) = minimax-mirror ν t
  minimax_children-mirror ν s (t then ts) =
      ap₂ (better (other s)) (minimax-mirror ν t) (minimax_children-mirror ν s ts) ∙ better-mirror s _ _

known-mirror : (b : Bool) (v x y : ℕ) → x ≡ opposite y → cond b (opposite v) x ≡ opposite (cond b v y)
known-mirror true v x y e = refl
known-mirror false v x y e = e

-- its lows are the opposites of the highs, and its highs of the lows
low-mirror : (ν : ℕ → ℕ) (E : ℕ → Bool) (t : Tree) → low (mirrored ν) E (mirror t) ≡ opposite (high ν E t)
low-mirror ν E t =
    ap (λ κ. minimax κ (mirror t)) (fun_ext (λ n. known-mirror (E n) (ν n) least greatest refl))
    ∙ minimax-mirror (known ν E greatest) t

high-mirror : (ν : ℕ → ℕ) (E : ℕ → Bool) (t : Tree) → high (mirrored ν) E (mirror t) ≡ opposite (low ν E t)
high-mirror ν E t =
    ap (λ κ. minimax κ (mirror t)) (fun_ext (λ n. known-mirror (E n) (ν n) greatest least refl))
    ∙ minimax-mirror (known ν E least) t

-- TREES

mutual
  leaves-mirror : (t : Tree) → leaves (mirror t) ≡ leaves t
  leaves-mirror (leaf n) = refl
  leaves-mirror (inner n s ks) = leaves_children-mirror ks

  leaves_children-mirror : (ks : Children) → leaves_children (mirror_children ks) ≡ leaves_children ks
  leaves_children-mirror (last t) = leaves-mirror t
  leaves_children-mirror (t then ts) = ap₂ ◌++◌ (leaves-mirror t) (leaves_children-mirror ts)

mutual
  in-mirror : (p : ℕ) (t : Tree) → In p (mirror t) → In p t
  in-mirror p (leaf n) i = i
  in-mirror p (inner n s ks) (inl i) = inl i
  in-mirror p (inner n s ks) (inr i) = inr (in_children-mirror p ks i)

  in_children-mirror : (p : ℕ) (ks : Children) → InChildren p (mirror_children ks) → InChildren p ks
  in_children-mirror p (last t) i = in-mirror p t i
  in_children-mirror p (t then ts) (inl i) = inl (in-mirror p t i)
  in_children-mirror p (t then ts) (inr i) = inr (in_children-mirror p ts i)

mutual
  distinct-mirror : (t : Tree) → Distinct t → Distinct (mirror t)
  distinct-mirror (leaf n) d = tt
  distinct-mirror (inner n s ks) d = (λ i. d.0 (in_children-mirror n ks i), distinct_children-mirror ks d.1)

  distinct_children-mirror : (ks : Children) → DistinctChildren ks → DistinctChildren (mirror_children ks)
  distinct_children-mirror (last t) d = distinct-mirror t d
  distinct_children-mirror (t then ts) d = (
    distinct-mirror t d.0,
    distinct_children-mirror ts d.1,
    λ p i j. d.2 p (in-mirror p t i) (in_children-mirror p ts j),
  )

mutual
  pub scored-mirror : (ν : ℕ → ℕ) (t : Tree) → Scored ν t → Scored (mirrored ν) (mirror t)
  scored-mirror ν (leaf n) h = omega arith
  scored-mirror ν (inner n s ks) h = scored_children-mirror ν ks h

  scored_children-mirror : (ν : ℕ → ℕ) (ks : Children) → ScoredChildren ν ks
      → ScoredChildren (mirrored ν) (mirror_children ks)
  scored_children-mirror ν (last t) h = scored-mirror ν t h
  scored_children-mirror ν (t then ts) h = (scored-mirror ν t h.0, scored_children-mirror ν ts h.1)

-- the mirrored game of a proper tree is proper
pub proper-mirror : (ν : ℕ → ℕ) (t : Tree) → Proper ν t → Proper (mirrored ν) (mirror t)
proper-mirror ν t r =
    record { scored = scored-mirror ν t r.scored; distinct = distinct-mirror t r.distinct }

-- TESTS

-- what the mirrored test gives: the opposite answer and the same leaves
record Mirrors (r q : Tested) : Type 0 where
  answer : q.not_below ≡ not r.not_below
  leaves-are : q.evaluated ≡ r.evaluated

-- of two opposite bounds one is on the one side of the test where the other is on the other
high-test : (γ l : ℕ) → γ ≤ greatest → ltb (opposite l) (opposite_test γ) ≡ leb γ l
high-test γ l g = at (leb γ l) refl
  where
    at : (b : Bool) → leb γ l ≡ b → ltb (opposite l) (opposite_test γ) ≡ b
    at true e = let k = leb-true γ l e in lt-ltb (opposite l) (opposite_test γ) (omega arith)
    at false e = let k = leb-false γ l e in le-ltb (opposite l) (opposite_test γ) (omega arith)

low-test : (γ h : ℕ) → γ ≤ greatest → leb (opposite_test γ) (opposite h) ≡ ltb h γ
low-test γ h g = at (ltb h γ) refl
  where
    at : (b : Bool) → ltb h γ ≡ b → leb (opposite_test γ) (opposite h) ≡ b
    at true e = let k = ltb-true h γ e in le-leb (opposite_test γ) (opposite h) (omega arith)
    at false e = let k = ltb-false h γ e in lt-leb (opposite_test γ) (opposite h) (omega arith)

score-test : (γ v : ℕ) → γ ≤ greatest → leb (opposite_test γ) (opposite v) ≡ not (leb γ v)
score-test γ v g = at (leb γ v) refl
  where
    at : (b : Bool) → leb γ v ≡ b → leb (opposite_test γ) (opposite v) ≡ not b
    at true e = let k = leb-true γ v e in lt-leb (opposite_test γ) (opposite v) (omega arith)
    at false e = let k = leb-false γ v e in le-leb (opposite_test γ) (opposite v) (omega arith)

-- a node's bounds decide it alike, as its low is at most its high
by_bounds-mirror : (γ l h : ℕ) (r q : Tested) → γ ≤ greatest → l ≤ h → Mirrors r q
    → Mirrors (by_bounds γ l h r) (by_bounds (opposite_test γ) (opposite h) (opposite l) q)
by_bounds-mirror γ l h r q g o m = rw (high-test γ l g, low-test γ h g) (at (ltb h γ) refl (leb γ l) refl)
  where
    at : (b : Bool) → ltb h γ ≡ b → (c : Bool) → leb γ l ≡ c
        → Mirrors (cond b (unopened false) (cond c (unopened true) r))
        (cond c (unopened false) (cond b (unopened true) q))
    at true e true f =
        let x = ltb-true h γ e in
        let y = leb-true γ l f in
        absurd (omega arith)
    at true e false f = record { answer = refl; leaves-are = refl }
    at false e true f = record { answer = refl; leaves-are = refl }
    at false e false f = m

settles-mirror : (s : Side) (b : Bool) → settles (other s) (not b) ≡ settles s b
settles-mirror Max true = refl
settles-mirror Max false = refl
settles-mirror Min true = refl
settles-mirror Min false = refl

-- the children are mirrored if the first and the others are
passed-mirror : (b : Bool) (r q x y : Tested) → Mirrors r q → Mirrors x y
    → Mirrors (cond b r (passed_on r x)) (cond b q (passed_on q y))
passed-mirror true r q x y m n = m
passed-mirror false r q x y m n =
    record { answer = n.answer; leaves-are = ap₂ ◌++◌ m.leaves-are n.leaves-are }

mutual
  -- the opposite test of the mirrored tree gives the opposite answer and the same leaves
  test-mirror : (ν : ℕ → ℕ) (γ : ℕ) (w : List ℕ) (t : Tree) → Scored ν t → γ ≤ greatest
      → Mirrors (test ν γ w t) (test (mirrored ν) (opposite_test γ) w (mirror t))
  test-mirror ν γ w (leaf n) h g =
      rw (low-mirror ν (among w) (leaf n), high-mirror ν (among w) (leaf n))
      (by_bounds-mirror γ _ _ _ _ g (bounds≤ ν (among w) (leaf n) h)
      (record { answer = score-test γ (ν n) g; leaves-are = refl }))
  test-mirror ν γ w (inner n s ks) h g =
      rw (low-mirror ν (among w) (inner n s ks), high-mirror ν (among w) (inner n s ks))
      (by_bounds-mirror γ _ _ _ _ g (bounds≤ ν (among w) (inner n s ks) h) (test_children-mirror ν γ w s ks h g))

  test_children-mirror : (ν : ℕ → ℕ) (γ : ℕ) (w : List ℕ) (s : Side) (ks : Children) → ScoredChildren ν ks
      → γ ≤ greatest
      → Mirrors (test_children ν γ w s ks) (test_children (mirrored ν) (opposite_test γ) w (other s)
      (mirror_children ks))
  test_children-mirror ν γ w s (last t) h g = test-mirror ν γ w t h g
  test_children-mirror ν γ w s (t then ts) h g =
      let r = test ν γ w t in
      let q = test (mirrored ν) (opposite_test γ) w (mirror t) in
      let a = test-mirror ν γ w t h.0 g in
      let e : settles (other s) q.not_below ≡ settles s r.not_below =
      ap (settles (other s)) a.answer ∙ settles-mirror s r.not_below in
      rw e (passed-mirror (settles s r.not_below) r q _ _ a
      (subst (λ v. Mirrors (test_children ν γ (w ++ r.evaluated) s ts)
      (test_children (mirrored ν) (opposite_test γ) (w ++ v) (other s) (mirror_children ts))) (sym a.leaves-are)
      (test_children-mirror ν γ (w ++ r.evaluated) s ts h.1 g)))

-- RUNS

-- what the mirrored run gives: the same leaves and the opposite tests
pub record RunMirrors (r q : TestSearch) : Type 0 where
  pub leaves-are : q.evaluated ≡ r.evaluated
  pub tests-are : q.tests ≡ map opposite_test r.tests

-- bounds meet where their opposites do
met-mirror : (l h : ℕ) → l ≤ h → h ≤ greatest → eqb (opposite h) (opposite l) ≡ eqb l h
met-mirror l h o g = at (eqb l h) refl
  where
    at : (b : Bool) → eqb l h ≡ b → eqb (opposite h) (opposite l) ≡ b
    at true e = let k = eqb-true l h e in eq-eqb (opposite h) (opposite l) (omega arith)
    at false e = let k = eqb-false l h e in ne_eqb (opposite h) (opposite l) (λ f. k (omega arith))

pub clamp≤ : (α β v : ℕ) → clamp α β v ≤ β
clamp≤ α β v = omega arith

clamp-mirror : (G l h f L H F : ℕ) → L + l ≡ G → H + h ≡ G → F ≡ suc G - f → l < h
    → min L (max (suc H) F) ≡ suc G - min h (max (suc l) f)
clamp-mirror G l h f L H F a b c o = omega arith

-- the test that is chosen is the opposite
chosen-mirror : (f l h : ℕ) (bs : List Bool) → l < h → h ≤ greatest
    → clamp (suc (opposite h)) (opposite l) (after_guess (opposite_test f) (map not bs) (opposite h) (opposite l))
    ≡ opposite_test (clamp (suc l) h (after_guess f bs l h))
chosen-mirror f l h [] o g =
    clamp-mirror greatest l h f (opposite l) (opposite h) (opposite_test f) (omega arith) (omega arith) refl o
chosen-mirror f l h (true ∷ bs) o g =
    clamp-mirror greatest l h (suc l) (opposite l) (opposite h) (opposite l) (omega arith) (omega arith) (omega arith) o
chosen-mirror f l h (false ∷ bs) o g =
    clamp-mirror greatest l h h (opposite l) (opposite h) (suc (opposite h)) (omega arith) (omega arith) (omega arith) o

pub test-opposite : (ν : ℕ → ℕ) (f : ℕ) (t : Tree) (bs : List Bool) (w : List ℕ) → Scored ν t
    → low ν (among w) t < high ν (among w) t
    → chosen_test (mtd_from (opposite_test f)) (view (mirrored ν) (mirror t) (map not bs) w)
    ≡ opposite_test (chosen_test (mtd_from f) (view ν t bs w))
test-opposite ν f t bs w h o =
    ap₂ (λ l u. clamp (suc l) u (after_guess (opposite_test f) (map not bs) l u)) (low-mirror ν (among w) t)
    (high-mirror ν (among w) t)
    ∙ chosen-mirror f (low ν (among w) t) (high ν (among w) t) bs o (high≤ ν (among w) t h)

-- a run is mirrored if what follows is, where the bounds have not met
more-mirror : (b : Bool) (l l' : ℕ) (w : List ℕ) (q p : TestSearch) → (b ≡ false → RunMirrors q p)
    → RunMirrors (cond b (met l w) q) (cond b (met l' w) p)
more-mirror true l l' w q p f = record { leaves-are = refl; tests-are = refl }
more-mirror false l l' w q p f = f refl

tested-mirror : (γ δ : ℕ) (r x : Tested) (w : List ℕ) (Q P : Bool → List ℕ → TestSearch) → δ ≡ opposite_test γ
    → Mirrors r x
    → ((b : Bool) (v : List ℕ) → RunMirrors (Q b v) (P (not b) v))
    → RunMirrors (tested γ (Q r.not_below (w ++ r.evaluated))) (tested δ (P x.not_below (w ++ x.evaluated)))
tested-mirror γ δ r x w Q P e m f =
    let a = f r.not_below (w ++ r.evaluated) in
    let same = ap₂ (λ b v. P b (w ++ v)) m.answer m.leaves-are in
    record {
      leaves-are = ap (λ (q : TestSearch). q.evaluated) same ∙ a.leaves-are;
      tests-are = ap₂ ◌∷◌ e (ap (λ (q : TestSearch). q.tests) same ∙ a.tests-are);
    }

drive-mirror : (ν : ℕ → ℕ) (g f : ℕ) (t : Tree) (bs : List Bool) (w : List ℕ) → Scored ν t
    → RunMirrors (drive ν (mtd_from g) f t bs w)
    (drive (mirrored ν) (mtd_from (opposite_test g)) f (mirror t) (map not bs) w)
drive-mirror ν g zero t bs w h = record { leaves-are = refl; tests-are = refl }
drive-mirror ν g (suc f) t bs w h =
    let l = low ν (among w) t in
    let u = high ν (among w) t in
    let a = low-mirror ν (among w) t in
    let b = high-mirror ν (among w) t in
    let o = bounds≤ ν (among w) t h in
    let k = high≤ ν (among w) t h in
    let γ = chosen_test (mtd_from g) (view ν t bs w) in
    let δ = chosen_test (mtd_from (opposite_test g)) (view (mirrored ν) (mirror t) (map not bs) w) in
    let e : eqb (low (mirrored ν) (among w) (mirror t)) (high (mirrored ν) (among w) (mirror t)) ≡ eqb l u =
    ap₂ eqb a b ∙ met-mirror l u o k in
    rw e (more-mirror (eqb l u) _ _ w _ _
    (λ d.
    let i = eqb-false l u d in
    let c = test-opposite ν g t bs w h (omega arith) in
    tested-mirror γ δ (test ν γ w t) (test (mirrored ν) δ w (mirror t)) w
    (λ b v. drive ν (mtd_from g) f t (b ∷ bs) v)
    (λ b v. drive (mirrored ν) (mtd_from (opposite_test g)) f (mirror t) (b ∷ map not bs) v) c
    (subst (λ z. Mirrors (test ν γ w t) (test (mirrored ν) z w (mirror t))) (sym c)
    (test-mirror ν γ w t h (le_trans (clamp≤ (suc l) u _) k)))
    (λ b v. drive-mirror ν g f t (b ∷ bs) v h)))

-- MTD(f) in the mirrored game, from the opposite guess, makes the opposite tests and evaluates the same leaves
pub search-mirror : (ν : ℕ → ℕ) (g : ℕ) (t : Tree) → Scored ν t
    → RunMirrors (search_by (mtd_from g) ν t) (search_by (mtd_from (opposite_test g)) (mirrored ν) (mirror t))
search-mirror ν g t h =
    rw (leaves-mirror t) (drive-mirror ν g (suc (length (leaves t))) t [] [] h)

-- THE LAST PHASE

-- its test is the opposite
equal-mirror : (s : Side) (v : ℕ) → v ≤ greatest → equal_test (other s) (opposite v) ≡ opposite_test (equal_test s v)
equal-mirror Max v h = omega arith
equal-mirror Min v h = omega arith

last_phase-mirror : (ν : ℕ → ℕ) (w : List ℕ) (t : Tree) → Scored ν t
    → last_phase (mirrored ν) (opposite (minimax ν t)) w (mirror t) ≡ last_phase ν (minimax ν t) w t
last_phase-mirror ν w (leaf n) h = refl
last_phase-mirror ν w (inner n s ks) h =
    let v = minimax_children ν s ks in
    let γ = equal_test s v in
    let i = minimax-score ν (inner n s ks) h in
    ap (λ x. (test_children (mirrored ν) x w (other s) (mirror_children ks)).evaluated) (equal-mirror s v (omega arith))
    ∙ (test_children-mirror ν γ w s ks h (equal-inside s v i).1).leaves-are

-- with it the leaves are the same, too
pub decide-mirror : (ν : ℕ → ℕ) (g : ℕ) (t : Tree) → Scored ν t
    → (decide_by (mtd_from (opposite_test g)) (mirrored ν) (mirror t)).evaluated
    ≡ (decide_by (mtd_from g) ν t).evaluated
decide-mirror ν g t h =
    let w = (search_by (mtd_from g) ν t).evaluated in
    let u = search_by (mtd_from (opposite_test g)) (mirrored ν) (mirror t) in
    let e = (search-mirror ν g t h).leaves-are in
    let v = (search-right (mtd_from g) ν t h).value in
    let x =
    (search-right (mtd_from (opposite_test g)) (mirrored ν) (mirror t) (scored-mirror ν t h)).value
    ∙ minimax-mirror ν t in
    ap₂ (λ y z. y ++ last_phase (mirrored ν) z y (mirror t)) e x
    ∙ ap (λ y. w ++ y) (last_phase-mirror ν w t h ∙ ap (λ y. last_phase ν y w t) (sym v))
