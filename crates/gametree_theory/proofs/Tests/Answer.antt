-- The answer of a test is right, whatever leaves were evaluated before: "not below" exactly if the test is at most the
-- minimax value.
use Rattle.prelude.proofs.{ℕ, ◌≤◌, ◌<◌, le_trans, lt_of_le_of_lt, arith, ◌≡◌, refl, sym, ◌∙◌, Bool, true, false, List}
use Rattle.prelude.proofs.{◌++◌, leb, ltb, ltb-true, leb-true, leb-false, le-leb, lt-leb, not-true, not-false}
use Rattle.lists.specs.{among}
use Rattle.gametree.specs.declared.Side.{Side}
use Rattle.gametree.specs.declared.Side.TheVariants.{Max, Min}
use Rattle.gametree.specs.{Tree, leaf, inner, Children, last, ◌then◌, better, minimax, minimax_children, Scored}
use Rattle.gametree.specs.{ScoredChildren, settles, Tested, by_bounds, test, test_children}
use Rattle.lists.proofs.Choice.{cond_cases}
use Rattle.gametree_theory.proofs.Minimax.Bounds.{low≤, ≤high}

-- bounds that enclose the value m decide rightly
by_bounds-answer : (γ l h m : ℕ) (r : Tested) → l ≤ m → m ≤ h → r.not_below ≡ leb γ m
    → (by_bounds γ l h r).not_below ≡ leb γ m
by_bounds-answer γ l h m r a b e =
    cond_cases (λ (x : Tested). x.not_below ≡ leb γ m) (ltb h γ) _ _
    (λ k. sym (lt-leb γ m (lt_of_le_of_lt b (ltb-true h γ k))))
    (λ _. cond_cases (λ (x : Tested). x.not_below ≡ leb γ m) (leb γ l) _ _
    (λ k. sym (le-leb γ m (le_trans (leb-true γ l k) a)))
    (λ _. e))

-- two numbers on the same side of a test
test-same : (γ a b : ℕ) → (γ ≤ a → γ ≤ b) → (a < γ → b < γ) → leb γ a ≡ leb γ b
test-same γ a b f g = at (leb γ a) refl
  where
    at : (c : Bool) → leb γ a ≡ c → c ≡ leb γ b
    at true e = sym (le-leb γ b (f (leb-true γ a e)))
    at false e = sym (lt-leb γ b (g (leb-false γ a e)))

-- a child of the value a that settles its parent has the parent's answer, whatever its siblings' best, b
settled-answer : (s : Side) (γ a b : ℕ) → settles s (leb γ a) ≡ true → leb γ a ≡ leb γ (better s a b)
settled-answer Max γ a b e =
    let k = leb-true γ a e in
    test-same γ a (better Max a b) (λ h. omega arith) (λ h. omega arith)
settled-answer Min γ a b e =
    let k = leb-false γ a (not-true _ e) in
    test-same γ a (better Min a b) (λ h. omega arith) (λ h. omega arith)

-- if it does not, the parent has theirs
passed-answer : (s : Side) (γ a b : ℕ) → settles s (leb γ a) ≡ false → leb γ b ≡ leb γ (better s a b)
passed-answer Max γ a b e =
    let k = leb-false γ a e in
    test-same γ b (better Max a b) (λ h. omega arith) (λ h. omega arith)
passed-answer Min γ a b e =
    let k = leb-true γ a (not-false _ e) in
    test-same γ b (better Min a b) (λ h. omega arith) (λ h. omega arith)

mutual
  -- a test answers "not below" exactly if it is at most the minimax value, whatever leaves were evaluated before
  pub test-answer : (ν : ℕ → ℕ) (γ : ℕ) (w : List ℕ) (t : Tree) → Scored ν t
      → (test ν γ w t).not_below ≡ leb γ (minimax ν t)
  test-answer ν γ w (leaf n) h =
      by_bounds-answer γ _ _ (ν n) _ (low≤ ν (among w) (leaf n)) (≤high ν (among w) (leaf n) h) refl
  test-answer ν γ w (inner n s ks) h =
      by_bounds-answer γ _ _ (minimax_children ν s ks) _ (low≤ ν (among w) (inner n s ks))
      (≤high ν (among w) (inner n s ks) h) (test_children-answer ν γ w s ks h)

  test_children-answer : (ν : ℕ → ℕ) (γ : ℕ) (w : List ℕ) (s : Side) (ks : Children) → ScoredChildren ν ks
      → (test_children ν γ w s ks).not_below ≡ leb γ (minimax_children ν s ks)
  test_children-answer ν γ w s (last t) h = test-answer ν γ w t h
  test_children-answer ν γ w s (t then ts) h =
      let r = test ν γ w t in
      let e = test-answer ν γ w t h.0 in
      let f = test_children-answer ν γ (w ++ r.evaluated) s ts h.1 in
      cond_cases (λ (q : Tested). q.not_below ≡ leb γ (minimax_children ν s (t then ts))) (settles s r.not_below) _ _
      (λ k. e ∙ settled-answer s γ (minimax ν t) (minimax_children ν s ts) (rw e at k))
      (λ k. f ∙ passed-answer s γ (minimax ν t) (minimax_children ν s ts) (rw e at k))
