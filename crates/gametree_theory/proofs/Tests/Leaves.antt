-- The leaves that a test evaluates are new, none stands twice, and each meets Baudet's condition in every window that
-- holds the test.
use Rattle.prelude.proofs.{ℕ, ◌≤◌, ◌<◌, arith, ◌≡◌, refl, sym, ◌∙◌, Bool, true, false, cond, List, [], ◌++◌, leb, ltb}
use Rattle.prelude.proofs.{eqb, ltb-false, leb-true, leb-false, lt-ltb, eq-eqb, not-false}
use Rattle.lists.specs.{All, among, Once}
use Rattle.gametree.specs.declared.Side.{Side}
use Rattle.gametree.specs.declared.Side.TheVariants.{Max, Min}
use Rattle.gametree.specs.{Tree, leaf, inner, Children, last, ◌then◌, least, greatest, minimax, Scored, ScoredChildren}
use Rattle.gametree.specs.{raise, lower, reached, reached_children, settles, Tested, opened, by_bounds, test}
use Rattle.gametree.specs.{test_children}
use Rattle.lists.proofs.Choice.{cond_cases, true-not-false, or_left, or-false-both}
use Rattle.lists.proofs.Lists.{all_append, all_map, all_among, among-append, among-left, among-right, once-append}
use Rattle.gametree_theory.proofs.Results.Domination.{Reaches, ReachesChildren}
use Rattle.gametree_theory.proofs.Tests.Answer.{test-answer}

-- what holds of no leaves and of those of r holds of the node's, whether it is entered or not
pub by_bounds-leaves : (P : List ℕ → Type 0) (γ l h : ℕ) (r : Tested) → P [] → P r.evaluated
    → P (by_bounds γ l h r).evaluated
by_bounds-leaves P γ l h r p q =
    cond_cases (λ (x : Tested). P x.evaluated) (ltb h γ) _ _ (λ _. p)
    (λ _. cond_cases (λ (x : Tested). P x.evaluated) (leb γ l) _ _ (λ _. p) (λ _. q))

-- after a child of the value m that does not settle its parent the test is still in the window
pub window : (s : Side) (γ α β m : ℕ) → α < γ → γ ≤ β → settles s (leb γ m) ≡ false
    → (raise s α m < γ) × (γ ≤ lower s β m)
window Max γ α β m l u e = let k = leb-false γ m e in omega arith
window Min γ α β m l u e = let k = leb-true γ m (not-false _ e) in omega arith

mutual
  -- every leaf that a test evaluates meets Baudet's condition in each window that holds the test
  pub test-dominated : (ν : ℕ → ℕ) (γ α β : ℕ) (w : List ℕ) (t : Tree) → Scored ν t → α < γ → γ ≤ β
      → Reaches ν α β t (test ν γ w t).evaluated
  test-dominated ν γ α β w (leaf n) h l u =
      by_bounds-leaves (Reaches ν α β (leaf n)) γ _ _ (opened n (leb γ (ν n))) tt
      (rw (lt-ltb α β (omega arith)) (or_left (eqb n n) false (eq-eqb n n refl)), tt)
  test-dominated ν γ α β w (inner n s ks) h l u =
      by_bounds-leaves (Reaches ν α β (inner n s ks)) γ _ _ (test_children ν γ w s ks) tt
      (test_children-dominated ν γ α β w s ks h l u)

  pub test_children-dominated : (ν : ℕ → ℕ) (γ α β : ℕ) (w : List ℕ) (s : Side) (ks : Children) → ScoredChildren ν ks
      → α < γ → γ ≤ β
      → ReachesChildren ν α β s ks (test_children ν γ w s ks).evaluated
  test_children-dominated ν γ α β w s (last t) h l u = test-dominated ν γ α β w t h l u
  test_children-dominated ν γ α β w s (t then ts) h l u =
      let m = minimax ν t in
      let r = test ν γ w t in
      let q = test_children ν γ (w ++ r.evaluated) s ts in
      let a =
      all_map _ (λ k. among (reached_children ν s α β (t then ts)) k ≡ true) (λ k e. among-left (reached ν α β t) _ k e)
      r.evaluated (test-dominated ν γ α β w t h.0 l u) in
      cond_cases (λ (x : Tested). ReachesChildren ν α β s (t then ts) x.evaluated) (settles s r.not_below) _ _
      (λ _. a)
      (λ e.
      let i = window s γ α β m l u (rw (test-answer ν γ w t h.0) at e) in
      all_append (λ k. among (reached_children ν s α β (t then ts)) k ≡ true) r.evaluated q.evaluated a
      (all_map _ _ (λ k d. among-right (reached ν α β t) _ k d) q.evaluated
      (test_children-dominated ν γ (raise s α m) (lower s β m) (w ++ r.evaluated) s ts h.1 i.0 i.1)))

-- the leaves v are none of w, and none stands twice
pub record New (w v : List ℕ) : Type 0 where
  pub new : All (λ k. among w k ≡ false) v
  pub once : Once v

pub new_none : (w : List ℕ) → New w []
new_none w = record { new = tt; once = tt }

-- new leaves, and others that are new after them
pub new-append : (w v u : List ℕ) → New w v → New (w ++ v) u → New w (v ++ u)
new-append w v u a b =
    record {
      new =
          all_append (λ k. among w k ≡ false) v u a.new
          (all_map _ _ (λ k x. (or-false-both (among w k) (among v k) (sym (among-append w v k) ∙ x)).0) u b.new);
      once =
          once-append (λ k. among (w ++ v) k ≡ true) (λ k. among (w ++ v) k ≡ false) (λ k x y. true-not-false x y) v u
          a.once b.once
          (all_map _ _ (λ k x. among-right w v k x) v (all_among v)) b.new;
    }

-- a leaf is evaluated only if it was not before
leaf-once : (γ v : ℕ) (w : List ℕ) (n : ℕ) (b : Bool) → among w n ≡ b
    → New w (by_bounds γ (cond b v least) (cond b v greatest) (opened n (leb γ v))).evaluated
leaf-once γ v w n true e =
    cond_cases (λ (x : Tested). New w x.evaluated) (ltb v γ) _ _ (λ _. new_none w)
    (λ i. cond_cases (λ (x : Tested). New w x.evaluated) (leb γ v) _ _ (λ _. new_none w)
    (λ j. absurd (omega (arith, ltb-false v γ i, leb-false γ v j))))
leaf-once γ v w n false e =
    by_bounds-leaves (New w) γ _ _ (opened n (leb γ v)) (new_none w) (record { new = (e, tt); once = (tt, tt) })

mutual
  -- a test evaluates no leaf that was evaluated before, and none twice
  pub test-once : (ν : ℕ → ℕ) (γ : ℕ) (w : List ℕ) (t : Tree) → New w (test ν γ w t).evaluated
  test-once ν γ w (leaf n) = leaf-once γ (ν n) w n (among w n) refl
  test-once ν γ w (inner n s ks) =
      by_bounds-leaves (New w) γ _ _ (test_children ν γ w s ks) (new_none w) (test_children-once ν γ w s ks)

  pub test_children-once : (ν : ℕ → ℕ) (γ : ℕ) (w : List ℕ) (s : Side) (ks : Children)
      → New w (test_children ν γ w s ks).evaluated
  test_children-once ν γ w s (last t) = test-once ν γ w t
  test_children-once ν γ w s (t then ts) =
      let r = test ν γ w t in
      let a = test-once ν γ w t in
      cond_cases (λ (x : Tested). New w x.evaluated) (settles s r.not_below) _ _
      (λ _. a)
      (λ _. new-append w r.evaluated _ a (test_children-once ν γ (w ++ r.evaluated) s ts))
