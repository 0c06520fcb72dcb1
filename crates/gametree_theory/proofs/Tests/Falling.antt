-- MTD(f) from `greatest` with this memory evaluates only leaves that SSS* evaluates: those of the closed form. In
-- steps: its test is always the root's high, so the tests fall; so under a Min node a child is opened only after its
-- elder siblings were found not below (`InTurn`); so on the way to a leaf no younger sibling under Min holds a high
-- down, and as the root's high is not above the test, no rival of the leaf exceeds the test, and its beta is not below
-- the test.
use Rattle.prelude.proofs.{ℕ, zero, suc, ◌≤◌, ◌<◌, min, le_refl, le_trans, arith, ◌≡◌, refl, sym, ◌∙◌, ap, subst, ◌⊎◌}
use Rattle.prelude.proofs.{inl, inr, Bool, true, false, cond, List, [], ◌∷◌, ◌++◌, append-nil, append_assoc, leb, ltb}
use Rattle.prelude.proofs.{eqb, length, eqb-false, lt-ltb, le-leb, eq-eqb}
use Rattle.lists.specs.{All, among}
use Rattle.gametree.specs.declared.Side.{Side}
use Rattle.gametree.specs.declared.Side.TheVariants.{Max, Min}
use Rattle.gametree.specs.{Tree, leaf, inner, Children, last, ◌then◌, least, greatest, minimax, minimax_children}
use Rattle.gametree.specs.{leaves}
use Rattle.gametree.specs.{In, InChildren, EveryLeaf, EveryLeafChildren, Scored, ScoredChildren, better, Distinct}
use Rattle.gametree.specs.{DistinctChildren, Proper, known, low, high, raise, lower, settles, memo_mtd, rival}
use Rattle.gametree.specs.{unrivalled, unrivalled_children, Tested, opened, by_bounds, test, test_children, view}
use Rattle.gametree.specs.{chosen_test, TestSearch, drive, search_by, after_guess, falling}
use Rattle.lists.proofs.Choice.{cond_cases, true-not-false, or_left}
use Rattle.lists.proofs.Lists.{all_append, all_map, all-zip, all-at, among-left, among-right}
use Rattle.gametree_theory.proofs.Minimax.Bounds.{every_map, every-leaf, ≤high}
use Rattle.gametree_theory.proofs.Minimax.Grafts.{minimax-same}
use Rattle.gametree_theory.proofs.Results.Domination.{Reaches}
use Rattle.gametree_theory.proofs.Results.ClosedForm.{mtd-unrivalled}
use Rattle.gametree_theory.proofs.Tests.Answer.{test-answer}
use Rattle.gametree_theory.proofs.Tests.Leaves.{by_bounds-leaves, window}
use Rattle.gametree_theory.proofs.Tests.Progress.{Confirms, test-confirmed}
use Rattle.gametree_theory.proofs.Tests.Runs.{reaches-own, search-right}
use Rattle.gametree_theory.proofs.Minimax.Closer.{low-rises, high-falls, bounds≤, high≤}
use Rattle.gametree_theory.proofs.Tests.Subtree.{test_in, test_children-in, others_same, others_children-same}
use Rattle.gametree_theory.proofs.Tests.Subtree.{every-all}
use Rattle.gametree_theory.proofs.Tests.Subtree.{Untouched, untouched-same, untouched-bound}

-- IN TURN

-- under Min the siblings of a child whose low is below γ are untouched
abbrev pub Waits : (ℕ → ℕ) → (ℕ → Bool) → ℕ → Side → Tree → Children → Type 0
Waits ν E γ Max t ts = Unit
Waits ν E γ Min t ts = (γ ≤ low ν E t) ⊎ Untouched E ts

-- it is so at each child in the tree
abbrev mutual
  pub InTurn : (ℕ → ℕ) → (ℕ → Bool) → ℕ → Tree → Type 0
  InTurn ν E γ (leaf n) = Unit
  InTurn ν E γ (inner n s ks) = InTurnChildren ν E γ s ks

  pub InTurnChildren : (ℕ → ℕ) → (ℕ → Bool) → ℕ → Side → Children → Type 0
  InTurnChildren ν E γ s (last t) = InTurn ν E γ t
  InTurnChildren ν E γ s (t then ts) = InTurn ν E γ t × InTurnChildren ν E γ s ts × Waits ν E γ s t ts

-- for a lower test it is so, too
waits-lower : (ν : ℕ → ℕ) (E : ℕ → Bool) {γ δ : ℕ} (s : Side) (t : Tree) (ts : Children) → δ ≤ γ → Waits ν E γ s t ts
    → Waits ν E δ s t ts
waits-lower ν E Max t ts h k = tt
waits-lower ν E Min t ts h (inl k) = inl (le_trans h k)
waits-lower ν E Min t ts h (inr k) = inr k

mutual
  in_turn-lower : (ν : ℕ → ℕ) (E : ℕ → Bool) {γ δ : ℕ} (t : Tree) → δ ≤ γ → InTurn ν E γ t → InTurn ν E δ t
  in_turn-lower ν E (leaf n) h k = tt
  in_turn-lower ν E (inner n s ks) h k = in_turn_children-lower ν E s ks h k

  in_turn_children-lower : (ν : ℕ → ℕ) (E : ℕ → Bool) {γ δ : ℕ} (s : Side) (ks : Children) → δ ≤ γ
      → InTurnChildren ν E γ s ks → InTurnChildren ν E δ s ks
  in_turn_children-lower ν E s (last t) h k = in_turn-lower ν E t h k
  in_turn_children-lower ν E s (t then ts) h k =
      (in_turn-lower ν E t h k.0, in_turn_children-lower ν E s ts h k.1, waits-lower ν E s t ts h k.2)

-- and for a set with the same leaves of the tree
low_same : (ν : ℕ → ℕ) (E F : ℕ → Bool) (t : Tree) → EveryLeaf (λ n. F n ≡ E n) t → low ν F t ≡ low ν E t
low_same ν E F t h =
    minimax-same (known ν F least) (known ν E least) t (every_map _ _ (λ n e. ap (λ b. cond b (ν n) least) e) t h)

waits-same : (ν : ℕ → ℕ) (E F : ℕ → Bool) (γ : ℕ) (s : Side) (t : Tree) (ts : Children) → EveryLeaf (λ n. F n ≡ E n) t
    → EveryLeafChildren (λ n. F n ≡ E n) ts → Waits ν E γ s t ts
    → Waits ν F γ s t ts
waits-same ν E F γ Max t ts h i k = tt
waits-same ν E F γ Min t ts h i (inl k) = inl (omega (arith, low_same ν E F t h))
waits-same ν E F γ Min t ts h i (inr k) = inr (untouched-same E F ts i k)

mutual
  in_turn-same : (ν : ℕ → ℕ) (E F : ℕ → Bool) (γ : ℕ) (t : Tree) → EveryLeaf (λ n. F n ≡ E n) t → InTurn ν E γ t
      → InTurn ν F γ t
  in_turn-same ν E F γ (leaf n) h k = tt
  in_turn-same ν E F γ (inner n s ks) h k = in_turn_children-same ν E F γ s ks h k

  pub in_turn_children-same : (ν : ℕ → ℕ) (E F : ℕ → Bool) (γ : ℕ) (s : Side) (ks : Children)
      → EveryLeafChildren (λ n. F n ≡ E n) ks
      → InTurnChildren ν E γ s ks
      → InTurnChildren ν F γ s ks
  in_turn_children-same ν E F γ s (last t) h k = in_turn-same ν E F γ t h k
  in_turn_children-same ν E F γ s (t then ts) h k = (
    in_turn-same ν E F γ t h.0 k.0,
    in_turn_children-same ν E F γ s ts h.1 k.1,
    waits-same ν E F γ s t ts h.0 h.1 k.2,
  )

-- at the start nothing is touched
waits-none : (ν : ℕ → ℕ) (γ : ℕ) (s : Side) (t : Tree) (ts : Children) → Waits ν (among []) γ s t ts
waits-none ν γ Max t ts = tt
waits-none ν γ Min t ts = inr (every-leaf (λ n. false ≡ false) (λ n. refl) (inner 0 Min ts))

mutual
  in_turn-none : (ν : ℕ → ℕ) (γ : ℕ) (t : Tree) → InTurn ν (among []) γ t
  in_turn-none ν γ (leaf n) = tt
  in_turn-none ν γ (inner n s ks) = in_turn_children-none ν γ s ks

  in_turn_children-none : (ν : ℕ → ℕ) (γ : ℕ) (s : Side) (ks : Children) → InTurnChildren ν (among []) γ s ks
  in_turn_children-none ν γ s (last t) = in_turn-none ν γ t
  in_turn_children-none ν γ s (t then ts) = (in_turn-none ν γ t, in_turn_children-none ν γ s ts, waits-none ν γ s t ts)

-- siblings wait for a child that settles its parent as they did before it was tested
pub waits-settled : (ν : ℕ → ℕ) (γ : ℕ) (s : Side) (w v : List ℕ) (t : Tree) (ts : Children)
    → All (λ k. InChildren k ts → ⊥) v
    → Waits ν (among w) γ s t ts → Waits ν (among (w ++ v)) γ s t ts
waits-settled ν γ Max w v t ts o k = tt
waits-settled ν γ Min w v t ts o (inl k) = inl (le_trans k (low-rises ν _ _ (among-left w v) t))
waits-settled ν γ Min w v t ts o (inr k) =
    inr (untouched-same (among w) (among (w ++ v)) ts (others_children-same w v ts o) k)

-- a child that does not settle a Min parent was found not below
waits-passed : (ν : ℕ → ℕ) (γ : ℕ) (s : Side) (b : Bool) (v u : List ℕ) (t : Tree) (ts : Children) (h : ℕ)
    → settles s b ≡ false
    → Confirms γ b (low ν (among v) t) h → Waits ν (among (v ++ u)) γ s t ts
waits-passed ν γ Max b v u t ts h e c = tt
waits-passed ν γ Min true v u t ts h e c = inl (le_trans c (low-rises ν _ _ (among-left v u) t))
waits-passed ν γ Min false v u t ts h e c = absurd (true-not-false refl e)

mutual
  -- a test leaves it so
  test-in_turn : (ν : ℕ → ℕ) (γ : ℕ) (w : List ℕ) (t : Tree) → Scored ν t → Distinct t → InTurn ν (among w) γ t
      → InTurn ν (among (w ++ (test ν γ w t).evaluated)) γ t
  test-in_turn ν γ w (leaf n) h d k = tt
  test-in_turn ν γ w (inner n s ks) h d k =
      by_bounds-leaves (λ v. InTurn ν (among (w ++ v)) γ (inner n s ks)) γ _ _ (test_children ν γ w s ks)
      (rw append-nil k)
      (test_children-in_turn ν γ w s ks h d.1 k)

  test_children-in_turn : (ν : ℕ → ℕ) (γ : ℕ) (w : List ℕ) (s : Side) (ks : Children) → ScoredChildren ν ks
      → DistinctChildren ks
      → InTurnChildren ν (among w) γ s ks
      → InTurnChildren ν (among (w ++ (test_children ν γ w s ks).evaluated)) γ s ks
  test_children-in_turn ν γ w s (last t) h d k = test-in_turn ν γ w t h d k
  test_children-in_turn ν γ w s (t then ts) h d k =
      let r = test ν γ w t in
      let v = w ++ r.evaluated in
      let q = test_children ν γ v s ts in
      let o = all_map _ (λ n. InChildren n ts → ⊥) (λ n i j. d.2 n i j) r.evaluated (test_in ν γ w t) in
      let p = all_map _ (λ n. In n t → ⊥) (λ n i j. d.2 n j i) q.evaluated (test_children-in ν γ v s ts) in
      let a = test-in_turn ν γ w t h.0 d.0 k.0 in
      let b = in_turn_children-same ν _ _ γ s ts (others_children-same w r.evaluated ts o) k.1 in
      cond_cases (λ (x : Tested). InTurnChildren ν (among (w ++ x.evaluated)) γ s (t then ts))
      (settles s r.not_below) _ _
      (λ _. (a, b, waits-settled ν γ s w r.evaluated t ts o k.2))
      (λ e. rw (← append_assoc w r.evaluated q.evaluated) (
        in_turn-same ν _ _ γ t (others_same v q.evaluated t p) a,
        test_children-in_turn ν γ v s ts h.1 d.1 b,
        waits-passed ν γ s r.not_below v q.evaluated t ts _ e (test-confirmed ν γ w t h.0),
      ))

-- UNRIVALLED

-- a node whose low is not below the test is not entered
by_bounds-known : (γ l h : ℕ) (r : Tested) → γ ≤ l → (by_bounds γ l h r).evaluated ≡ []
by_bounds-known γ l h r k =
    cond_cases (λ (x : Tested). x.evaluated ≡ []) (ltb h γ) _ _ (λ _. refl) (λ _. rw (le-leb γ l k) refl)

pub known-unopened : (ν : ℕ → ℕ) (γ : ℕ) (w : List ℕ) (t : Tree) → γ ≤ low ν (among w) t → (test ν γ w t).evaluated ≡ []
known-unopened ν γ w (leaf n) k = by_bounds-known γ _ _ (opened n (leb γ (ν n))) k
known-unopened ν γ w (inner n s ks) k = by_bounds-known γ _ _ (test_children ν γ w s ks) k

-- each leaf of the list is in the closed form
abbrev pub Unrivalled : (ℕ → ℕ) → (α β δ : ℕ) → Tree → List ℕ → Type 0
Unrivalled ν α β δ t w = All (λ k. among (unrivalled ν α β δ t) k ≡ true) w

abbrev UnrivalledChildren : (ℕ → ℕ) → (α β δ : ℕ) → Side → Children → List ℕ → Type 0
UnrivalledChildren ν α β δ s ks w = All (λ k. among (unrivalled_children ν s α β δ ks) k ≡ true) w

-- where H is the high of a first child and K that of its siblings, y their value: its rivals do not exceed the test
first-rivals : (s : Side) (γ β δ H K y : ℕ) → δ ≤ γ → y ≤ K → min β (better s H K) ≤ γ → rival s δ β y ≤ γ
first-rivals Max γ β δ H K y h k i = omega arith
first-rivals Min γ β δ H K y h k i = h

-- and its siblings' high, K' by then, does not within their beta, where m is its value
rest-high : (s : Side) (γ β m H K K' : ℕ) → m ≤ H → K' ≤ K → min β (better s H K) ≤ γ → min (lower s β m) K' ≤ γ
rest-high Max γ β m H K K' h k i = omega arith
rest-high Min γ β m H K K' h k i = omega arith

-- nor does its own high, if it is entered
first-entered : (ν : ℕ → ℕ) (γ β : ℕ) (w : List ℕ) (s : Side) (t : Tree) (ts : Children) (P : List ℕ → Type 0)
    → Scored ν t
    → P []
    → (min β (high ν (among w) t) ≤ γ → P (test ν γ w t).evaluated) → Waits ν (among w) γ s t ts
    → min β (minimax_children (known ν (among w) greatest) s (t then ts)) ≤ γ → P (test ν γ w t).evaluated
first-entered ν γ β w Max t ts P h p f k i = f (omega arith)
first-entered ν γ β w Min t ts P h p f (inl k) i = rw (known-unopened ν γ w t k) p
first-entered ν γ β w Min t ts P h p f (inr k) i =
    let e = untouched-bound ν (among w) greatest (inner 0 Min ts) k in
    let g = high≤ ν (among w) t h in
    f (omega arith)

mutual
  -- a test that the root's high does not exceed evaluates leaves of the closed form only
  test-unrivalled : (ν : ℕ → ℕ) (γ α β δ : ℕ) (w : List ℕ) (t : Tree) → Scored ν t → Distinct t
      → InTurn ν (among w) γ t
      → α < γ → γ ≤ β → δ ≤ γ → min β (high ν (among w) t) ≤ γ → Unrivalled ν α β δ t (test ν γ w t).evaluated
  test-unrivalled ν γ α β δ w (leaf n) h d k l u v i =
      by_bounds-leaves (Unrivalled ν α β δ (leaf n)) γ _ _ (opened n (leb γ (ν n))) tt
      (rw (lt-ltb α β (omega arith), le-leb δ β (omega arith)) (or_left (eqb n n) false (eq-eqb n n refl)), tt)
  test-unrivalled ν γ α β δ w (inner n s ks) h d k l u v i =
      by_bounds-leaves (Unrivalled ν α β δ (inner n s ks)) γ _ _ (test_children ν γ w s ks) tt
      (test_children-unrivalled ν γ α β δ w s ks h d.1 k l u v i)

  pub test_children-unrivalled : (ν : ℕ → ℕ) (γ α β δ : ℕ) (w : List ℕ) (s : Side) (ks : Children) → ScoredChildren ν ks
      → DistinctChildren ks → InTurnChildren ν (among w) γ s ks
      → α < γ → γ ≤ β → δ ≤ γ → min β (minimax_children (known ν (among w) greatest) s ks) ≤ γ
      → UnrivalledChildren ν α β δ s ks (test_children ν γ w s ks).evaluated
  test_children-unrivalled ν γ α β δ w s (last t) h d k l u v i = test-unrivalled ν γ α β δ w t h d k l u v i
  test_children-unrivalled ν γ α β δ w s (t then ts) h d k l u v i =
      let m = minimax ν t in
      let y = minimax_children ν s ts in
      let r = test ν γ w t in
      let x = w ++ r.evaluated in
      let q = test_children ν γ x s ts in
      let H = high ν (among w) t in
      let K = minimax_children (known ν (among w) greatest) s ts in
      let δ' = rival s δ β y in
      let o = all_map _ (λ n. InChildren n ts → ⊥) (λ n i j. d.2 n i j) r.evaluated (test_in ν γ w t) in
      let a =
      first-entered ν γ β w s t ts (UnrivalledChildren ν α β δ s (t then ts)) h.0 tt
      (λ j. all_map _ _ (λ n e. among-left (unrivalled ν α β δ' t) _ n e) r.evaluated
      (test-unrivalled ν γ α β δ' w t h.0 d.0 k.0 l u
      (first-rivals s γ β δ H K y v (≤high ν (among w) (inner 0 s ts) h.1) i) j)) k.2 i in
      cond_cases (λ (z : Tested). UnrivalledChildren ν α β δ s (t then ts) z.evaluated) (settles s r.not_below) _ _
      (λ _. a)
      (λ e.
      let j = window s γ α β m l u (rw (test-answer ν γ w t h.0) at e) in
      all_append (λ n. among (unrivalled_children ν s α β δ (t then ts)) n ≡ true) r.evaluated q.evaluated a
      (all_map _ _ (λ n f. among-right (unrivalled ν α β δ' t) _ n f) q.evaluated
      (test_children-unrivalled ν γ (raise s α m) (lower s β m) δ x s ts h.1 d.1
      (in_turn_children-same ν _ _ γ s ts (others_children-same w r.evaluated ts o) k.1) j.0 j.1 v
      (rest-high s γ β m H K _ (≤high ν (among w) t h.0)
      (high-falls ν (among w) (among x) (among-left w r.evaluated) (inner 0 s ts) h.1) i))))

-- THE RUN

-- the next test is the root's high, as far as the strategy goes
abbrev Falls : List Bool → Type 0
Falls bs = (l h : ℕ) → h ≤ greatest → h ≤ after_guess greatest bs l h

-- after an answer "below" it still is; after "not below" the bounds have met
falls-on : (γ l h : ℕ) (b : Bool) (bs : List Bool) → h ≤ γ → l ≤ h → Confirms γ b l h → Falls (b ∷ bs) ⊎ (l ≡ h)
falls-on γ l h true bs u o c = inr (omega arith)
falls-on γ l h false bs u o c = inl (λ i j _. le_refl j)

-- what each test by the root's high keeps of the leaves evaluated so far, the run keeps; and under Min children are
-- opened in turn
module _ (ν : ℕ → ℕ) (t : Tree) (h : Scored ν t) (d : Distinct t) (P : List ℕ → Type 0)
    (keeps : (w : List ℕ) → low ν (among w) t < high ν (among w) t → InTurn ν (among w) (high ν (among w) t) t → P w
    → P (w ++ (test ν (high ν (among w) t) w t).evaluated)) where
  drive-keeps : (f : ℕ) (bs : List Bool) (w : List ℕ) → Falls bs ⊎ (low ν (among w) t ≡ high ν (among w) t)
      → InTurn ν (among w) (high ν (among w) t) t
      → P w → let v = (drive ν falling f t bs w).evaluated in P v × InTurn ν (among v) (high ν (among v) t) t
  drive-keeps zero bs w s k p = (p, k)
  drive-keeps (suc f) bs w (inr s) k p = rw (eq-eqb _ _ s) (p, k)
  drive-keeps (suc f) bs w (inl s) k p =
      cond_cases
      (λ (q : TestSearch). P q.evaluated × InTurn ν (among q.evaluated) (high ν (among q.evaluated) t) t)
      (eqb (low ν (among w) t) (high ν (among w) t)) _ _
      (λ _. (p, k))
      (λ e.
      let i = eqb-false (low ν (among w) t) (high ν (among w) t) e in
      let γ = chosen_test falling (view ν t bs w) in
      let r = test ν γ w t in
      let v = w ++ r.evaluated in
      let o = bounds≤ ν (among w) t h in
      let c = s (low ν (among w) t) (high ν (among w) t) (high≤ ν (among w) t h) in
      let g : γ ≡ high ν (among w) t = omega arith in
      let m = high-falls ν (among w) (among v) (among-left w r.evaluated) t h in
      let n = bounds≤ ν (among v) t h in
      drive-keeps f (r.not_below ∷ bs) v
      (falls-on γ _ _ r.not_below bs (omega arith) (omega arith) (test-confirmed ν γ w t h))
      (in_turn-lower ν (among v) t (omega arith)
      (test-in_turn ν γ w t h d (in_turn-lower ν (among w) t (omega arith) k)))
      (subst (λ x. P (w ++ (test ν x w t).evaluated)) (sym g) (keeps w (omega arith) k p)))

  pub search-keeps : P []
      → let v = (search_by falling ν t).evaluated in P v × InTurn ν (among v) (high ν (among v) t) t
  search-keeps p = drive-keeps (suc (length (leaves t))) [] [] (inl (λ l h g. g)) (in_turn-none ν _ t) p

-- so its leaves are in the closed form
pub search-unrivalled : (ν : ℕ → ℕ) (t : Tree) → Scored ν t → Distinct t
    → Unrivalled ν least greatest least t (search_by falling ν t).evaluated
search-unrivalled ν t h d =
    (search-keeps ν t h d (Unrivalled ν least greatest least t)
    (λ w o k u.
    let γ = high ν (among w) t in
    let g = high≤ ν (among w) t h in
    all_append (λ n. among (unrivalled ν least greatest least t) n ≡ true) w (test ν γ w t).evaluated u
    (test-unrivalled ν γ least greatest least w t h d k (omega arith) (omega arith) (omega arith) (omega arith))) tt).0

-- leaves of the closed form are among those of MTD with the weaker memory
pub unrivalled-mtd : (ν : ℕ → ℕ) (t : Tree) → Proper ν t → (w : List ℕ) → Reaches ν least greatest t w
    → Unrivalled ν least greatest least t w
    → All (λ k. among (memo_mtd ν t).evaluated k ≡ true) w
unrivalled-mtd ν t r w o u =
    let e = every-all _ t (mtd-unrivalled ν t r) in
    all-zip _ _ _ (λ k i j. all-at _ (leaves t) e k i ∙ j) w (reaches-own ν least greatest t w o) u

-- so are those that MTD(f) from `greatest` evaluates
pub falling-mtd : (ν : ℕ → ℕ) (t : Tree) → Proper ν t
    → All (λ k. among (memo_mtd ν t).evaluated k ≡ true) (search_by falling ν t).evaluated
falling-mtd ν t r =
    unrivalled-mtd ν t r (search_by falling ν t).evaluated (search-right falling ν t r.scored).reaches
    (search-unrivalled ν t r.scored r.distinct)
