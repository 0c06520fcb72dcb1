-- A test and the subtrees: it evaluates leaves of its own tree, and those of other trees are no news to it. What holds
-- of each leaf.
use Rattle.prelude.proofs.{ℕ, arith, ◌≡◌, refl, ◌∙◌, ap, inl, inr, Bool, false, ◌||◌, or-false, List, ◌++◌, leb}
use Rattle.lists.specs.{All, among}
use Rattle.gametree.specs.declared.Side.{Side}
use Rattle.gametree.specs.{Tree, leaf, inner, Children, last, ◌then◌, minimax, leaves, leaves_children, In, InChildren}
use Rattle.gametree.specs.{EveryLeaf, EveryLeafChildren, known, settles, Tested, opened, test, test_children}
use Rattle.lists.proofs.Choice.{cond_cases}
use Rattle.lists.proofs.Lists.{all_append, all_map, among-append, among-out}
use Rattle.gametree_theory.proofs.Minimax.Bounds.{every_map, minimax-within}
use Rattle.gametree_theory.proofs.Tests.Leaves.{by_bounds-leaves}

mutual
  -- a test evaluates leaves of its own tree
  pub test_in : (ν : ℕ → ℕ) (γ : ℕ) (w : List ℕ) (t : Tree) → All (λ k. In k t) (test ν γ w t).evaluated
  test_in ν γ w (leaf n) = by_bounds-leaves (All (λ k. k ≡ n)) γ _ _ (opened n (leb γ (ν n))) tt (refl, tt)
  test_in ν γ w (inner n s ks) =
      by_bounds-leaves (All (λ k. In k (inner n s ks))) γ _ _ (test_children ν γ w s ks) tt
      (all_map _ _ (λ k i. inr i) (test_children ν γ w s ks).evaluated (test_children-in ν γ w s ks))

  pub test_children-in : (ν : ℕ → ℕ) (γ : ℕ) (w : List ℕ) (s : Side) (ks : Children)
      → All (λ k. InChildren k ks) (test_children ν γ w s ks).evaluated
  test_children-in ν γ w s (last t) = test_in ν γ w t
  test_children-in ν γ w s (t then ts) =
      let r = test ν γ w t in
      let a = all_map _ (λ k. InChildren k (t then ts)) (λ k i. inl i) r.evaluated (test_in ν γ w t) in
      cond_cases (λ (x : Tested). All (λ k. InChildren k (t then ts)) x.evaluated) (settles s r.not_below) _ _
      (λ _. a)
      (λ _. all_append (λ k. InChildren k (t then ts)) r.evaluated _ a
      (all_map _ _ (λ k i. inr i) (test_children ν γ (w ++ r.evaluated) s ts).evaluated
      (test_children-in ν γ (w ++ r.evaluated) s ts)))

mutual
  -- leaves of other trees are no news to this one
  pub others_same : (w v : List ℕ) (t : Tree) → All (λ k. In k t → ⊥) v
      → EveryLeaf (λ n. among (w ++ v) n ≡ among w n) t
  others_same w v (leaf n) o =
      among-append w v n ∙ ap (◌||◌ (among w n)) (among-out v n o) ∙ or-false (among w n)
  others_same w v (inner n s ks) o = others_children-same w v ks (all_map _ _ (λ k f i. f (inr i)) v o)

  pub others_children-same : (w v : List ℕ) (ks : Children) → All (λ k. InChildren k ks → ⊥) v
      → EveryLeafChildren (λ n. among (w ++ v) n ≡ among w n) ks
  others_children-same w v (last t) o = others_same w v t o
  others_children-same w v (t then ts) o = (
    others_same w v t (all_map _ _ (λ k f i. f (inl i)) v o),
    others_children-same w v ts (all_map _ _ (λ k f i. f (inr i)) v o),
  )

mutual
  -- two facts of each leaf give a third
  every-zip : (P Q S : ℕ → Type 0) → ((n : ℕ) → P n → Q n → S n) → (t : Tree) → EveryLeaf P t → EveryLeaf Q t
      → EveryLeaf S t
  every-zip P Q S f (leaf n) h k = f n h k
  every-zip P Q S f (inner n s ks) h k = every-zip-kids P Q S f ks h k

  pub every-zip-kids : (P Q S : ℕ → Type 0) → ((n : ℕ) → P n → Q n → S n) → (ks : Children) → EveryLeafChildren P ks
      → EveryLeafChildren Q ks
      → EveryLeafChildren S ks
  every-zip-kids P Q S f (last t) h k = every-zip P Q S f t h k
  every-zip-kids P Q S f (t then ts) h k =
      (every-zip P Q S f t h.0 k.0, every-zip-kids P Q S f ts h.1 k.1)

mutual
  -- a fact of each leaf is one of each entry of the list of leaves
  pub every-all : (P : ℕ → Type 0) (t : Tree) → EveryLeaf P t → All P (leaves t)
  every-all P (leaf n) h = (h, tt)
  every-all P (inner n s ks) h = every-all-kids P ks h

  every-all-kids : (P : ℕ → Type 0) (ks : Children) → EveryLeafChildren P ks → All P (leaves_children ks)
  every-all-kids P (last t) h = every-all P t h
  every-all-kids P (t then ts) h =
      all_append P (leaves t) (leaves_children ts) (every-all P t h.0) (every-all-kids P ts h.1)

-- no leaf of the children is in the set
abbrev pub Untouched : (ℕ → Bool) → Children → Type 0
Untouched E ks = EveryLeafChildren (λ n. E n ≡ false) ks

-- so they are in a set with the same leaves of theirs
pub untouched-same : (E F : ℕ → Bool) (ks : Children) → EveryLeafChildren (λ n. F n ≡ E n) ks → Untouched E ks
    → Untouched F ks
untouched-same E F ks h k = every-zip-kids _ _ _ (λ n e f. e ∙ f) ks h k

-- where no leaf is evaluated a bound is the score that the others are given
pub untouched-bound : (ν : ℕ → ℕ) (E : ℕ → Bool) (x : ℕ) (t : Tree) → EveryLeaf (λ n. E n ≡ false) t
    → minimax (known ν E x) t ≡ x
untouched-bound ν E x t h =
    let w = minimax-within x x (known ν E x) t (every_map _ _ (λ n e. rw e (omega arith)) t h) in
    omega arith
