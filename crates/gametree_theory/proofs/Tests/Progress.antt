-- After a test the bounds of the node, by the leaves evaluated by then, are on the answer's side of the test: so the
-- root's bounds come closer with each test.
use Rattle.prelude.proofs.{ℕ, ◌≤◌, ◌<◌, le_trans, lt_of_le_of_lt, arith, ◌≡◌, refl, Bool, true, false, List, [], ◌∷◌}
use Rattle.prelude.proofs.{◌++◌, append-nil, append_assoc, leb, ltb, ltb-true, leb-true, leb-false}
use Rattle.lists.specs.{among}
use Rattle.gametree.specs.declared.Side.{Side}
use Rattle.gametree.specs.declared.Side.TheVariants.{Max, Min}
use Rattle.gametree.specs.{Tree, leaf, inner, Children, last, ◌then◌, least, greatest, better, minimax_children, Scored}
use Rattle.gametree.specs.{ScoredChildren, known, low, high, settles, Tested, by_bounds, test, test_children}
use Rattle.lists.proofs.Choice.{cond_cases, true-not-false}
use Rattle.lists.proofs.Lists.{all_among, among-left, among-right}
use Rattle.gametree_theory.proofs.Minimax.Closer.{low-rises, high-falls}

-- the bounds l and h are on the answer's side of the test: "not below" is true
abbrev pub Confirms : ℕ → Bool → (l h : ℕ) → Type 0
Confirms γ true l h = γ ≤ l
Confirms γ false l h = h < γ

-- so the low is not below the test after "not below", and the high is below it after "below"
pub confirmed-low : (γ : ℕ) (b : Bool) (l h : ℕ) → b ≡ true → Confirms γ b l h → γ ≤ l
confirmed-low γ true l h e c = c
confirmed-low γ false l h e c = absurd (true-not-false e refl)

pub confirmed-high : (γ : ℕ) (b : Bool) (l h : ℕ) → b ≡ false → Confirms γ b l h → h < γ
confirmed-high γ true l h e c = absurd (true-not-false refl e)
confirmed-high γ false l h e c = c

-- closer bounds are, too
pub confirms-more : (γ : ℕ) (b : Bool) {l h l' h' : ℕ} → l ≤ l' → h' ≤ h → Confirms γ b l h → Confirms γ b l' h'
confirms-more γ true i j c = le_trans c i
confirms-more γ false i j c = lt_of_le_of_lt j c

-- those of a node are if those of a child that settles it are
confirms-settled : (s : Side) (γ : ℕ) (b : Bool) (l h l' h' : ℕ) → settles s b ≡ true → Confirms γ b l h
    → Confirms γ b (better s l l') (better s h h')
confirms-settled Max γ true l h l' h' e c = omega arith
confirms-settled Max γ false l h l' h' e c = absurd (true-not-false e refl)
confirms-settled Min γ true l h l' h' e c = absurd (true-not-false e refl)
confirms-settled Min γ false l h l' h' e c = omega arith

-- or if those of a child that does not and those of its siblings are
confirms-passed : (s : Side) (γ : ℕ) (b c : Bool) (l h l' h' : ℕ) → settles s b ≡ false → Confirms γ b l h
    → Confirms γ c l' h'
    → Confirms γ c (better s l l') (better s h h')
confirms-passed Max γ true c l h l' h' e i j = absurd (true-not-false refl e)
confirms-passed Max γ false true l h l' h' e i j = omega arith
confirms-passed Max γ false false l h l' h' e i j = omega arith
confirms-passed Min γ true true l h l' h' e i j = omega arith
confirms-passed Min γ true false l h l' h' e i j = omega arith
confirms-passed Min γ false c l h l' h' e i j = absurd (true-not-false refl e)

-- what a test promises of a node: its bounds by the leaves now evaluated confirm the answer
abbrev pub Confirmed : (ℕ → ℕ) → ℕ → List ℕ → Tree → Tested → Type 0
Confirmed ν γ w t r =
    Confirms γ r.not_below (low ν (among (w ++ r.evaluated)) t) (high ν (among (w ++ r.evaluated)) t)

abbrev pub ConfirmedChildren : (ℕ → ℕ) → ℕ → List ℕ → Side → Children → Tested → Type 0
ConfirmedChildren ν γ w s ks r =
    Confirms γ r.not_below (minimax_children (known ν (among (w ++ r.evaluated)) least) s ks)
    (minimax_children (known ν (among (w ++ r.evaluated)) greatest) s ks)

by_bounds-confirmed : (ν : ℕ → ℕ) (γ : ℕ) (w : List ℕ) (t : Tree) (r : Tested) → Confirmed ν γ w t r
    → Confirmed ν γ w t (by_bounds γ (low ν (among w) t) (high ν (among w) t) r)
by_bounds-confirmed ν γ w t r c =
    cond_cases (Confirmed ν γ w t) (ltb (high ν (among w) t) γ) _ _ (λ e. rw append-nil (ltb-true _ _ e))
    (λ _. cond_cases (Confirmed ν γ w t) (leb γ (low ν (among w) t)) _ _ (λ e. rw append-nil (leb-true _ _ e))
    (λ _. c))

score-confirms : (γ v : ℕ) (b : Bool) → leb γ v ≡ b → Confirms γ b v v
score-confirms γ v true e = leb-true γ v e
score-confirms γ v false e = leb-false γ v e

mutual
  -- after a test that answered "below" the node's high is below the test, after "not below" its low is not
  pub test-confirmed : (ν : ℕ → ℕ) (γ : ℕ) (w : List ℕ) (t : Tree) → Scored ν t → Confirmed ν γ w t (test ν γ w t)
  test-confirmed ν γ w (leaf n) h =
      by_bounds-confirmed ν γ w (leaf n) _
      (rw (among-right w (n ∷ []) n (all_among (n ∷ [])).0) (score-confirms γ (ν n) _ refl))
  test-confirmed ν γ w (inner n s ks) h =
      by_bounds-confirmed ν γ w (inner n s ks) _ (test_children-confirmed ν γ w s ks h)

  pub test_children-confirmed : (ν : ℕ → ℕ) (γ : ℕ) (w : List ℕ) (s : Side) (ks : Children) → ScoredChildren ν ks
      → ConfirmedChildren ν γ w s ks (test_children ν γ w s ks)
  test_children-confirmed ν γ w s (last t) h = test-confirmed ν γ w t h
  test_children-confirmed ν γ w s (t then ts) h =
      let r = test ν γ w t in
      let v = w ++ r.evaluated in
      let q = test_children ν γ v s ts in
      let u = v ++ q.evaluated in
      let a = test-confirmed ν γ w t h.0 in
      let b = test_children-confirmed ν γ v s ts h.1 in
      let m = among-left v q.evaluated in
      cond_cases (ConfirmedChildren ν γ w s (t then ts)) (settles s r.not_below) _ _
      (λ e. confirms-settled s γ r.not_below _ _ _ _ e a)
      (λ e.
      rw (← append_assoc w r.evaluated q.evaluated)
      (confirms-passed s γ r.not_below q.not_below _ _ _ _ e
      (confirms-more γ r.not_below (low-rises ν (among v) (among u) m t) (high-falls ν (among v) (among u) m t h.0)
      a) b))
