-- A test of a tree none of whose leaves is evaluated evaluates just what alpha-beta evaluates with the null window.
use Rattle.prelude.proofs.{ℕ, suc, ◌≤◌, ◌<◌, arith, ◌≡◌, refl, sym, ◌∙◌, ap, ap₂, true, false, List, ◌++◌, append-nil}
use Rattle.prelude.proofs.{leb, leb-true, leb-false, not-true, not-false, lt-ltb, le-ltb, lt-leb}
use Rattle.lists.specs.{among}
use Rattle.gametree.specs.declared.Side.{Side}
use Rattle.gametree.specs.declared.Side.TheVariants.{Max, Min}
use Rattle.gametree.specs.{Tree, leaf, inner, Children, last, ◌then◌, least, greatest, minimax, EveryLeaf, InChildren}
use Rattle.gametree.specs.{Scored, ScoredChildren, Distinct, DistinctChildren, raise, lower, reached, reached_children}
use Rattle.gametree.specs.{settles, Tested, opened, by_bounds, test, test_children}
use Rattle.lists.proofs.Choice.{cond_cases}
use Rattle.lists.proofs.Lists.{all_map}
use Rattle.gametree_theory.proofs.Alphabeta.Window.{closed_children}
use Rattle.gametree_theory.proofs.Tests.Answer.{test-answer}
use Rattle.gametree_theory.proofs.Tests.Subtree.{test_in, others_children-same, Untouched, untouched-same}
use Rattle.gametree_theory.proofs.Tests.Subtree.{untouched-bound}

-- bounds that are not closer decide no test
by_bounds-open : (g l h : ℕ) (r : Tested) → l ≡ least → h ≡ greatest → g < greatest → by_bounds (suc g) l h r ≡ r
by_bounds-open g l h r e f i = rw (le-ltb h (suc g) (omega arith), lt-leb (suc g) l (omega arith)) refl

-- after a child that settles its parent the null window is closed, after another it is as before
null-settled : (s : Side) (g m : ℕ) → settles s (leb (suc g) m) ≡ true → lower s (suc g) m ≤ raise s g m
null-settled Max g m e = let k = leb-true (suc g) m e in omega arith
null-settled Min g m e = let k = leb-false (suc g) m (not-true _ e) in omega arith

null-passed : (s : Side) (g m : ℕ) → settles s (leb (suc g) m) ≡ false
    → (raise s g m ≡ g) × (lower s (suc g) m ≡ suc g)
null-passed Max g m e = let k = leb-false (suc g) m e in omega arith
null-passed Min g m e = let k = leb-true (suc g) m (not-false _ e) in omega arith

mutual
  -- a first test evaluates just the leaves of Baudet's condition for the null window
  pub test-null : (ν : ℕ → ℕ) (g : ℕ) (w : List ℕ) (t : Tree) → Scored ν t → Distinct t → g < greatest
      → EveryLeaf (λ n. among w n ≡ false) t
      → (test ν (suc g) w t).evaluated ≡ reached ν g (suc g) t
  test-null ν g w (leaf n) h d i u =
      ap (λ (r : Tested). r.evaluated)
      (by_bounds-open g _ _ (opened n (leb (suc g) (ν n))) (untouched-bound ν (among w) least (leaf n) u)
      (untouched-bound ν (among w) greatest (leaf n) u) i)
      ∙ simp (lt-ltb g (suc g) (omega arith))
  test-null ν g w (inner n s ks) h d i u =
      ap (λ (r : Tested). r.evaluated)
      (by_bounds-open g _ _ (test_children ν (suc g) w s ks) (untouched-bound ν (among w) least (inner n s ks) u)
      (untouched-bound ν (among w) greatest (inner n s ks) u) i)
      ∙ test_children-null ν g w s ks h d.1 i u

  test_children-null : (ν : ℕ → ℕ) (g : ℕ) (w : List ℕ) (s : Side) (ks : Children) → ScoredChildren ν ks
      → DistinctChildren ks
      → g < greatest → Untouched (among w) ks
      → (test_children ν (suc g) w s ks).evaluated ≡ reached_children ν s g (suc g) ks
  test_children-null ν g w s (last t) h d i u = test-null ν g w t h d i u
  test_children-null ν g w s (t then ts) h d i u =
      let m = minimax ν t in
      let r = test ν (suc g) w t in
      let a = test-null ν g w t h.0 d.0 i u.0 in
      let o = all_map _ (λ n. InChildren n ts → ⊥) (λ n i j. d.2 n i j) r.evaluated (test_in ν (suc g) w t) in
      let z = untouched-same (among w) _ ts (others_children-same w r.evaluated ts o) u.1 in
      cond_cases (λ (x : Tested). x.evaluated ≡ reached_children ν s g (suc g) (t then ts)) (settles s r.not_below) _
      _
      (λ e.
      let k = null-settled s g m (rw (test-answer ν (suc g) w t h.0) at e) in
      a ∙ sym (append-nil _) ∙ ap (λ l. reached ν g (suc g) t ++ l) (sym (closed_children ν s _ _ k ts)))
      (λ e.
      let k = null-passed s g m (rw (test-answer ν (suc g) w t h.0) at e) in
      ap₂ ◌++◌ a (test_children-null ν g (w ++ r.evaluated) s ts h.1 d.1 i z
      ∙ sym (ap₂ (λ x y. reached_children ν s x y ts) k.0 k.1)))
