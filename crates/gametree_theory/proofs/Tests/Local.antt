-- A test, a run of tests and the last phase depend only on the scores of the leaves evaluated.
use Rattle.prelude.proofs.{ℕ, zero, suc, ◌≡◌, refl, ◌∙◌, ap, ap₂, Bool, true, false, cond, List, [], ◌∷◌, ◌++◌, leb}
use Rattle.prelude.proofs.{ltb, eqb, length}
use Rattle.lists.specs.{All, among}
use Rattle.gametree.specs.declared.Side.{Side}
use Rattle.gametree.specs.{Tree, leaf, inner, Children, last, ◌then◌, least, greatest, minimax, leaves, low, high}
use Rattle.gametree.specs.{settles, Tested, opened, passed_on, by_bounds, test, test_children, equal_test, last_phase}
use Rattle.gametree.specs.{Decision, View, view, Strategy, chosen_test, TestSearch, met, tested, drive, search_by}
use Rattle.gametree.specs.{decide_by}
use Rattle.lists.proofs.Choice.{cond_cases}
use Rattle.lists.proofs.Lists.{all_append, all_left, all_right}
use Rattle.gametree_theory.proofs.Minimax.Bounds.{known-local}
use Rattle.gametree_theory.proofs.Mtd.Local.{Alike}

module _ (ν μ : ℕ → ℕ) where
  -- a node is the same if what is found in it is, where it is entered
  by_bounds-local : (γ l h : ℕ) (r q : Tested) → (Alike ν μ r.evaluated → r ≡ q)
      → Alike ν μ (by_bounds γ l h r).evaluated
      → by_bounds γ l h r ≡ by_bounds γ l h q
  by_bounds-local γ l h r q f = at (ltb h γ) (leb γ l)
    where
      at : (b c : Bool) → Alike ν μ (cond b (record { not_below = false; evaluated = [] })
          (cond c (record { not_below = true; evaluated = [] }) r)).evaluated
          → cond b (record { not_below = false; evaluated = [] })
          (cond c (record { not_below = true; evaluated = [] }) r)
          ≡ cond b (record { not_below = false; evaluated = [] })
          (cond c (record { not_below = true; evaluated = [] }) q)
      at true c a = refl
      at false true a = refl
      at false false a = f a

  -- the leaves of the first child are some of all
  first_alike : (b : Bool) (r q : Tested) → Alike ν μ (cond b r (passed_on r q)).evaluated → Alike ν μ r.evaluated
  first_alike true r q a = a
  first_alike false r q a = all_left (λ k. ν k ≡ μ k) r.evaluated q.evaluated a

  -- the children are the same if the others are, where the first does not settle
  rest-local : (b : Bool) (r q p : Tested) → (Alike ν μ q.evaluated → q ≡ p)
      → Alike ν μ (cond b r (passed_on r q)).evaluated
      → cond b r (passed_on r q) ≡ cond b r (passed_on r p)
  rest-local true r q p f a = refl
  rest-local false r q p f a = ap (passed_on r) (f (all_right (λ k. ν k ≡ μ k) r.evaluated q.evaluated a))

  -- the bounds by leaves on which both valuations agree are the same
  low-local : (w : List ℕ) (t : Tree) → Alike ν μ w → low ν (among w) t ≡ low μ (among w) t
  low-local w t a = ap (λ κ. minimax κ t) (known-local ν μ w a least)

  high-local : (w : List ℕ) (t : Tree) → Alike ν μ w → high ν (among w) t ≡ high μ (among w) t
  high-local w t a = ap (λ κ. minimax κ t) (known-local ν μ w a greatest)

mutual
  -- a test gives the same under valuations that agree on the leaves evaluated before and by it
  pub test-local : (ν μ : ℕ → ℕ) (γ : ℕ) (w : List ℕ) (t : Tree) → Alike ν μ w → Alike ν μ (test ν γ w t).evaluated
      → test ν γ w t ≡ test μ γ w t
  test-local ν μ γ w (leaf n) a b =
      by_bounds-local ν μ γ _ _ _ (opened n (leb γ (μ n))) (λ e. ap (λ v. opened n (leb γ v)) e.0) b
      ∙ ap₂ (λ l h. by_bounds γ l h (opened n (leb γ (μ n)))) (low-local ν μ w (leaf n) a) (high-local ν μ w (leaf n) a)
  test-local ν μ γ w (inner n s ks) a b =
      by_bounds-local ν μ γ _ _ _ (test_children μ γ w s ks) (λ e. test_children-local ν μ γ w s ks a e) b
      ∙ ap₂ (λ l h. by_bounds γ l h (test_children μ γ w s ks)) (low-local ν μ w (inner n s ks) a)
      (high-local ν μ w (inner n s ks) a)

  test_children-local : (ν μ : ℕ → ℕ) (γ : ℕ) (w : List ℕ) (s : Side) (ks : Children) → Alike ν μ w
      → Alike ν μ (test_children ν γ w s ks).evaluated
      → test_children ν γ w s ks ≡ test_children μ γ w s ks
  test_children-local ν μ γ w s (last t) a b = test-local ν μ γ w t a b
  test_children-local ν μ γ w s (t then ts) a b =
      let r = test ν γ w t in
      let v = w ++ r.evaluated in
      let q = test_children ν γ v s ts in
      let c = first_alike ν μ (settles s r.not_below) r q b in
      rest-local ν μ (settles s r.not_below) r q (test_children μ γ v s ts)
      (λ e. test_children-local ν μ γ v s ts (all_append (λ k. ν k ≡ μ k) w r.evaluated a c) e) b
      ∙ ap (λ (x : Tested). cond (settles s x.not_below) x (passed_on x (test_children μ γ (w ++ x.evaluated) s ts)))
      (test-local ν μ γ w t a c)

-- the leaves evaluated before a run are some of those at its end
pub run-earlier : (P : ℕ → Type 0) (ν : ℕ → ℕ) (σ : Strategy) (f : ℕ) (t : Tree) (bs : List Bool) (w : List ℕ)
    → All P (drive ν σ f t bs w).evaluated
    → All P w
run-earlier P ν σ zero t bs w = λ a. a
run-earlier P ν σ (suc f) t bs w =
    let r = test ν (chosen_test σ (view ν t bs w)) w t in
    cond_cases (λ (q : TestSearch). All P q.evaluated → All P w) (eqb (low ν (among w) t) (high ν (among w) t)) _ _
    (λ _ a. a)
    (λ _ a. all_left P w r.evaluated (run-earlier P ν σ f t (r.not_below ∷ bs) (w ++ r.evaluated) a))

-- what can be seen is the same
view-local : (ν μ : ℕ → ℕ) (t : Tree) (bs : List Bool) (w : List ℕ) → Alike ν μ w → view ν t bs w ≡ view μ t bs w
view-local ν μ t bs w a = ap₂ seen (low-local ν μ w t a) (high-local ν μ w t a)
  where
    seen : ℕ → ℕ → View
    seen l h = record { answers = bs; low = l; high = h; evaluated = w }

-- a run is the same if what follows is, where the bounds have not met
more-local : (ν μ : ℕ → ℕ) (b : Bool) (m q p : TestSearch) → (Alike ν μ q.evaluated → q ≡ p)
    → Alike ν μ (cond b m q).evaluated
    → cond b m q ≡ cond b m p
more-local ν μ true m q p f a = refl
more-local ν μ false m q p f a = f a

-- a run gives the same under valuations that agree on the leaves evaluated by its end
pub run-local : (ν μ : ℕ → ℕ) (σ : Strategy) (f : ℕ) (t : Tree) (bs : List Bool) (w : List ℕ)
    → Alike ν μ (drive ν σ f t bs w).evaluated
    → drive ν σ f t bs w ≡ drive μ σ f t bs w
run-local ν μ σ zero t bs w a = ap (λ l. met l w) (low-local ν μ w t a)
run-local ν μ σ (suc f) t bs w a =
    let x = view ν t bs w in
    let γ = chosen_test σ x in
    let r = test ν γ w t in
    let v = w ++ r.evaluated in
    let b = run-earlier (λ k. ν k ≡ μ k) ν σ (suc f) t bs w a in
    more-local ν μ (eqb x.low x.high) _ (tested γ (drive ν σ f t (r.not_below ∷ bs) v))
    (tested γ (drive μ σ f t ((test μ γ w t).not_below ∷ bs) (w ++ (test μ γ w t).evaluated)))
    (λ c.
    ap (tested γ) (run-local ν μ σ f t (r.not_below ∷ bs) v c)
    ∙ ap (λ (y : Tested). tested γ (drive μ σ f t (y.not_below ∷ bs) (w ++ y.evaluated)))
    (test-local ν μ γ w t b
    (all_right (λ k. ν k ≡ μ k) w r.evaluated
    (run-earlier (λ k. ν k ≡ μ k) ν σ f t (r.not_below ∷ bs) v c)))) a
    ∙ ap (λ (y : View). cond (eqb y.low y.high) (met y.low w)
    (tested (chosen_test σ y) (drive μ σ f t ((test μ (chosen_test σ y) w t).not_below ∷ bs)
    (w ++ (test μ (chosen_test σ y) w t).evaluated))))
    (view-local ν μ t bs w b)

-- THE LAST PHASE

last_phase-local : (ν μ : ℕ → ℕ) (v : ℕ) (w : List ℕ) (t : Tree) → Alike ν μ w
    → Alike ν μ (last_phase ν v w t)
    → last_phase ν v w t ≡ last_phase μ v w t
last_phase-local ν μ v w (leaf n) a b = refl
last_phase-local ν μ v w (inner n s ks) a b =
    ap (λ x. x.evaluated) (test_children-local ν μ (equal_test s v) w s ks a b)

-- the run q, and then the leaves u
abbrev concluded : TestSearch → List ℕ → Decision
concluded q u = record { evaluated = q.evaluated ++ u; tests = length q.tests }

-- a search with the last phase gives the same under valuations that agree on the leaves that it evaluates
pub decide-local : (ν μ : ℕ → ℕ) (σ : Strategy) (t : Tree) → Alike ν μ (decide_by σ ν t).evaluated
    → decide_by σ ν t ≡ decide_by σ μ t
decide-local ν μ σ t a =
    let q = search_by σ ν t in
    let w = q.evaluated in
    let u = last_phase ν q.value w t in
    let b = all_left (λ k. ν k ≡ μ k) w u a in
    ap (concluded q) (last_phase-local ν μ q.value w t b (all_right (λ k. ν k ≡ μ k) w u a))
    ∙ ap (λ (p : TestSearch). concluded p (last_phase μ p.value p.evaluated t))
    (run-local ν μ σ (suc (length (leaves t))) t [] [] b)
