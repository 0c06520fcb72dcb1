-- With its last phase, too, MTD(f) from `greatest` evaluates only leaves of SSS*. Under Max the test of the last phase
-- is the root's high, as every test before. Under Min the last phase evaluates nothing, because the bounds show the
-- first move already: the child that the last answer "below" came from has the root's high, its elder siblings were
-- found not below that test, and its younger ones were untouched (`InTurn`).
use Rattle.prelude.proofs.{ℕ, suc, ◌≤◌, ◌<◌, min, le_refl, le_trans, arith, ◌≡◌, refl, sym, ◌∙◌, subst, ◌⊎◌, inl, inr}
use Rattle.prelude.proofs.{Bool, true, false, List, [], ◌++◌, append-nil, append_assoc, lt-ltb, le-ltb, le-leb, lt-leb}
use Rattle.prelude.proofs.{not-false}
use Rattle.lists.specs.{All, among}
use Rattle.gametree.specs.declared.Side.TheVariants.{Max, Min}
use Rattle.gametree.specs.{Tree, leaf, inner, Children, last, ◌then◌, least, greatest, minimax, minimax_children}
use Rattle.gametree.specs.{InChildren, Scored, ScoredChildren, Distinct, DistinctChildren, Proper, known, low, high}
use Rattle.gametree.specs.{settles, memo_mtd, unrivalled, Tested, by_bounds, test, test_children, last_phase, search_by}
use Rattle.gametree.specs.{falling, decide_by}
use Rattle.lists.proofs.Choice.{cond_cases}
use Rattle.lists.proofs.Lists.{all_append, all_map, among-left}
use Rattle.gametree_theory.proofs.Minimax.Bounds.{every-leaf, low≤, ≤high, minimax-score}
use Rattle.gametree_theory.proofs.Minimax.Closer.{low-rises, high-falls, bounds≤, high≤}
use Rattle.gametree_theory.proofs.Tests.Answer.{test-answer}
use Rattle.gametree_theory.proofs.Tests.Progress.{confirmed-low, confirmed-high, test-confirmed}
use Rattle.gametree_theory.proofs.Tests.Progress.{test_children-confirmed}
use Rattle.gametree_theory.proofs.Tests.Subtree.{test_in, others_children-same, untouched-bound}
use Rattle.gametree_theory.proofs.Tests.Runs.{search-right}
use Rattle.gametree_theory.proofs.Tests.FirstMove.{decide-right}
use Rattle.gametree_theory.proofs.Tests.Falling.{Waits, InTurn, InTurnChildren, in_turn_children-same}
use Rattle.gametree_theory.proofs.Tests.Falling.{waits-settled}
use Rattle.gametree_theory.proofs.Tests.Falling.{known-unopened, Unrivalled, test_children-unrivalled}
use Rattle.gametree_theory.proofs.Tests.Falling.{search-keeps}
use Rattle.gametree_theory.proofs.Tests.Falling.{search-unrivalled, unrivalled-mtd}

-- UNDER MIN

-- from the left, the bounds of the leaves E show children to be above v, and then one that is not
abbrev Shows : (ℕ → ℕ) → (ℕ → Bool) → ℕ → Children → Type 0
Shows ν E v (last t) = high ν E t ≤ v
Shows ν E v (t then ts) = (high ν E t ≤ v) ⊎ ((v < low ν E t) × Shows ν E v ts)

-- more leaves show it, too
shows_more : (ν : ℕ → ℕ) (E F : ℕ → Bool) (v : ℕ) → ((n : ℕ) → E n ≡ true → F n ≡ true) → (ks : Children)
    → ScoredChildren ν ks
    → Shows ν E v ks
    → Shows ν F v ks
shows_more ν E F v f (last t) h s = le_trans (high-falls ν E F f t h) s
shows_more ν E F v f (t then ts) h (inl s) = inl (le_trans (high-falls ν E F f t h.0) s)
shows_more ν E F v f (t then ts) h (inr s) =
    inr (omega (arith, low-rises ν E F f t, s.0), shows_more ν E F v f ts h.1 s.1)

-- a child whose younger siblings were untouched was found below: it has the root's high
below-shows : (ν : ℕ → ℕ) (E : ℕ → Bool) (γ : ℕ) (t : Tree) (ts : Children) → Scored ν t → high ν E t < γ
    → Waits ν E γ Min t ts
    → high ν E t ≤ minimax_children (known ν E greatest) Min (t then ts)
below-shows ν E γ t ts h b (inl k) = absurd (omega (arith, bounds≤ ν E t h))
below-shows ν E γ t ts h b (inr k) =
    let e = untouched-bound ν E greatest (inner 0 Min ts) k in
    let g = high≤ ν E t h in
    omega arith

-- after a test that answers "below" the bounds show the first child at the root's high
test_children-shows : (ν : ℕ → ℕ) (γ : ℕ) (w : List ℕ) (ks : Children) → ScoredChildren ν ks → DistinctChildren ks
    → InTurnChildren ν (among w) γ Min ks
    → (test_children ν γ w Min ks).not_below ≡ false
    → let E = among (w ++ (test_children ν γ w Min ks).evaluated) in Shows ν E
    (minimax_children (known ν E greatest) Min ks) ks
test_children-shows ν γ w (last t) h d k = λ _. le_refl _
test_children-shows ν γ w (t then ts) h d k =
    let r = test ν γ w t in
    let v = w ++ r.evaluated in
    let q = test_children ν γ v Min ts in
    let E = among (v ++ q.evaluated) in
    let o = all_map _ (λ n. InChildren n ts → ⊥) (λ n i j. d.2 n i j) r.evaluated (test_in ν γ w t) in
    cond_cases
    (λ (x : Tested). x.not_below ≡ false
    → Shows ν (among (w ++ x.evaluated)) (minimax_children (known ν (among (w ++ x.evaluated)) greatest) Min
    (t then ts))
    (t then ts)) (settles Min r.not_below) _ _
    (λ e a.
    inl (below-shows ν (among v) γ t ts h.0
    (confirmed-high γ r.not_below _ _ a (test-confirmed ν γ w t h.0))
    (waits-settled ν γ Min w r.evaluated t ts o k.2)))
    (λ e a.
    subst
    (λ x. Shows ν (among x) (minimax_children (known ν (among x) greatest) Min (t then ts)) (t then ts))
    (append_assoc w r.evaluated q.evaluated)
    (let i = confirmed-low γ r.not_below _ _ (not-false _ e) (test-confirmed ν γ w t h.0) in
    let l = low-rises ν (among v) E (among-left v q.evaluated) t in
    let b = bounds≤ ν E t h.0 in
    let K = minimax_children (known ν E greatest) Min ts in
    let j : K < γ = confirmed-high γ q.not_below _ K a (test_children-confirmed ν γ v Min ts h.1) in
    let m : min (high ν E t) K ≡ K = omega arith in
    inr (
      omega arith,
      subst (λ x. Shows ν E x ts) (sym m)
          (test_children-shows ν γ v ts h.1 d.1
          (in_turn_children-same ν _ _ γ Min ts (others_children-same w r.evaluated ts o) k.1) a),
    )))

-- the same at a root under Min, whose high has fallen
abbrev FirstShown : (ℕ → ℕ) → (ℕ → Bool) → Tree → Type 0
FirstShown ν E (leaf n) = Unit
FirstShown ν E (inner n Max ks) = Unit
FirstShown ν E (inner n Min ks) =
    (high ν E (inner n Min ks) ≡ greatest) ⊎ Shows ν E (high ν E (inner n Min ks)) ks

-- a test between the bounds enters the node
between-entered : (γ l h : ℕ) (r : Tested) → l < γ → γ ≤ h → by_bounds γ l h r ≡ r
between-entered γ l h r i j = rw (le-ltb h γ j, lt-leb γ l i) refl

-- each test by the root's high keeps it
keeps-shown : (ν : ℕ → ℕ) (t : Tree) → Scored ν t → Distinct t → (w : List ℕ)
    → low ν (among w) t < high ν (among w) t
    → InTurn ν (among w) (high ν (among w) t) t
    → FirstShown ν (among w) t → FirstShown ν (among (w ++ (test ν (high ν (among w) t) w t).evaluated)) t
keeps-shown ν (leaf n) h d w o k s = tt
keeps-shown ν (inner n Max ks) h d w o k s = tt
keeps-shown ν (inner n Min ks) h d w o k s =
    let γ = high ν (among w) (inner n Min ks) in
    let r = test_children ν γ w Min ks in
    rw (between-entered γ (low ν (among w) (inner n Min ks)) γ r o (le_refl γ)) (at s r.not_below refl)
  where
    at : FirstShown ν (among w) (inner n Min ks) → (b : Bool)
        → (test_children ν (high ν (among w) (inner n Min ks)) w Min ks).not_below ≡ b
        → FirstShown ν (among (w ++ (test_children ν (high ν (among w) (inner n Min ks)) w Min ks).evaluated))
        (inner n Min ks)
    at s false e = inr (test_children-shows ν (high ν (among w) (inner n Min ks)) w ks h d.1 k e)
    at s true e =
        let γ = high ν (among w) (inner n Min ks) in
        let r = test_children ν γ w Min ks in
        let v = w ++ r.evaluated in
        let f = among-left w r.evaluated in
        let x = confirmed-low γ r.not_below _ _ e (test_children-confirmed ν γ w Min ks h) in
        let y = bounds≤ ν (among v) (inner n Min ks) h in
        let z = high-falls ν (among w) (among v) f (inner n Min ks) h in
        let same : high ν (among v) (inner n Min ks) ≡ γ = omega arith in
        elim s [
          | inl g ↦ inl (same ∙ g)
          | inr g ↦ inr (subst (λ x. Shows ν (among v) x ks) (sym same)
              (shows_more ν (among w) (among v) γ f ks h g))
        ]

-- a node whose high is below the test is not entered
below-unopened : (ν : ℕ → ℕ) (γ : ℕ) (w : List ℕ) (t : Tree) → high ν (among w) t < γ → (test ν γ w t).evaluated ≡ []
below-unopened ν γ w (leaf n) k = rw (lt-ltb _ γ k) refl
below-unopened ν γ w (inner n s ks) k = rw (lt-ltb _ γ k) refl

-- where the bounds show the first child the last phase evaluates nothing
test_children-shown : (ν : ℕ → ℕ) (v : ℕ) (w : List ℕ) (ks : Children) → ScoredChildren ν ks → Shows ν (among w) v ks
    → (test_children ν (suc v) w Min ks).evaluated ≡ []
test_children-shown ν v w (last t) h s = below-unopened ν (suc v) w t (omega arith)
test_children-shown ν v w (t then ts) h (inl s) =
    let m = ≤high ν (among w) t h.0 in
    rw (test-answer ν (suc v) w t h.0, lt-leb (suc v) (minimax ν t) (omega arith))
    (below-unopened ν (suc v) w t (omega arith))
test_children-shown ν v w (t then ts) h (inr s) =
    let m = low≤ ν (among w) t in
    rw (test-answer ν (suc v) w t h.0, le-leb (suc v) (minimax ν t) (omega (arith, s.0)))
    (rw (known-unopened ν (suc v) w t s.0, append-nil) (test_children-shown ν v w ts h.1 s.1))

-- THE LAST PHASE

-- its leaves are in the closed form, after those of the run
last_phase-unrivalled : (ν : ℕ → ℕ) (w : List ℕ) (t : Tree) → Scored ν t → Distinct t
    → high ν (among w) t ≡ minimax ν t
    → InTurn ν (among w) (high ν (among w) t) t
    → FirstShown ν (among w) t → Unrivalled ν least greatest least t (last_phase ν (minimax ν t) w t)
last_phase-unrivalled ν w (leaf n) h d e k s = tt
last_phase-unrivalled ν w (inner n Max ks) h d e k s =
    let v = minimax_children ν Max ks in
    let i = minimax-score ν (inner n Max ks) h in
    test_children-unrivalled ν v least greatest least w Max ks h d.1 (rw e at k) (omega arith) (omega arith)
    (omega arith) (omega arith)
last_phase-unrivalled ν w (inner n Min ks) h d e k (inl g) =
    absurd (omega (arith, minimax-score ν (inner n Min ks) h))
last_phase-unrivalled ν w (inner n Min ks) h d e k (inr s) =
    let v = minimax_children ν Min ks in
    rw (test_children-shown ν v w ks h (subst (λ x. Shows ν (among w) x ks) e s)) tt

first-shown : (ν : ℕ → ℕ) (t : Tree) → Scored ν t → FirstShown ν (among []) t
first-shown ν (leaf n) h = tt
first-shown ν (inner n Max ks) h = tt
first-shown ν (inner n Min ks) h =
    inl (untouched-bound ν (among []) greatest (inner n Min ks)
    (every-leaf (λ n. false ≡ false) (λ n. refl) (inner n Min ks)))

-- with the last phase MTD(f) from `greatest` evaluates only leaves of MTD with the weaker memory
pub falling-decides-mtd : (ν : ℕ → ℕ) (t : Tree) → Proper ν t
    → All (λ k. among (memo_mtd ν t).evaluated k ≡ true) (decide_by falling ν t).evaluated
falling-decides-mtd ν t r =
    let q = search_by falling ν t in
    let o = search-right falling ν t r.scored in
    let f = search-keeps ν t r.scored r.distinct (λ w. FirstShown ν (among w) t)
    (λ w. keeps-shown ν t r.scored r.distinct w) (first-shown ν t r.scored) in
    unrivalled-mtd ν t r (decide_by falling ν t).evaluated (decide-right falling ν t r.scored).reaches
    (all_append (λ n. among (unrivalled ν least greatest least t) n ≡ true) q.evaluated _
    (search-unrivalled ν t r.scored r.distinct)
    (rw o.value
    (last_phase-unrivalled ν q.evaluated t r.scored r.distinct o.decided.high_is f.1 f.0)))
