-- In a tree with distinct numbers, lookups by number agree with the tree's structure.
use Rattle.prelude.proofs.{ℕ, ◌≡◌, refl, sym, ◌∙◌, ap, subst, inl, inr, Bool, true, false, cond, ◌||◌, or-false, List}
use Rattle.prelude.proofs.{[], ◌∷◌, ◌++◌, eqb, eq-eqb, ne_eqb}
use Rattle.lists.specs.{among}
use Rattle.gametree.specs.declared.Side.{Side}
use Rattle.gametree.specs.{Tree, leaf, inner, Children, last, ◌then◌, number, nodes, nodes_children, In, InChildren}
use Rattle.gametree.specs.{Distinct, DistinctChildren, root, subtree_at, subtree_at_children, link_in, link_in_children}
use Rattle.gametree.specs.{above_in, before}
use Rattle.gametree_theory.proofs.Sss.Lookups.{Apart, Answers, AnswersChildren}
use Rattle.lists.proofs.Choice.{cond_cases, true-not-false, or-false-both}
use Rattle.lists.proofs.Lists.{among-append, among-right}
use Rattle.gametree_theory.proofs.Minimax.Nodes.{number_in, in-nodes, in-nodes_children, out-nodes}
use Rattle.gametree_theory.proofs.Minimax.Nodes.{out-nodes_children}

-- two choices by one test are the same if both parts are
cond_same : (b : Bool) {x y u v : Bool} → (b ≡ true → x ≡ u) → (b ≡ false → y ≡ v) → cond b x y ≡ cond b u v
cond_same true f g = f refl
cond_same false f g = g refl

-- in a list after another: a number of the first before one that is not in the second
before-first : (xs ys : List ℕ) (p q : ℕ) → among xs p ≡ true → among ys q ≡ false
    → before (xs ++ ys) p q ≡ before xs p q
before-first [] ys p q h k = absurd (true-not-false h refl)
before-first (x ∷ xs) ys p q h k =
    cond_same (eqb p x)
    (λ _. among-append xs ys q ∙ ap (◌||◌ (among xs q)) k ∙ or-false (among xs q))
    (λ e. before-first xs ys p q (rw e at h) k)

-- a number that is not in the first
before-rest : (xs ys : List ℕ) (p q : ℕ) → among xs p ≡ false → before (xs ++ ys) p q ≡ before ys p q
before-rest [] ys p q h = refl
before-rest (x ∷ xs) ys p q h =
    let e = or-false-both (eqb p x) (among xs p) h in
    rw e.0 (before-rest xs ys p q e.1)

-- a number of the first before one of the second
before-apart : (xs ys : List ℕ) (p q : ℕ) → among xs p ≡ true → among ys q ≡ true → before (xs ++ ys) p q ≡ true
before-apart [] ys p q h k = absurd (true-not-false h refl)
before-apart (x ∷ xs) ys p q h k =
    cond_cases (λ b. b ≡ true) (eqb p x) _ _ (λ _. among-right xs ys q k)
    (λ e. before-apart xs ys p q (rw e at h) k)

mutual
  -- the nodes of a subtree are the tree's
  subtree-in : (p q : ℕ) (t : Tree) → In q (subtree_at p t) → In q t
  subtree-in p q (leaf n) = λ i. i
  subtree-in p q (inner n s ks) =
      cond_cases (λ u. In q u → In q (inner n s ks)) (eqb p n) _ _ (λ _ i. i)
      (λ _ i. inr (subtree_children-in p q ks i))

  subtree_children-in : (p q : ℕ) (ks : Children) → In q (subtree_at_children p ks) → InChildren q ks
  subtree_children-in p q (last t) = subtree-in p q t
  subtree_children-in p q (t then ts) =
      cond_cases (λ u. In q u → InChildren q (t then ts)) (among (nodes t) p) _ _ (λ _ i. inl (subtree-in p q t i))
      (λ _ i. inr (subtree_children-in p q ts i))

-- the tree T looks at the nodes of t does
record Looks (T t : Tree) : Type 0 where
  subtrees : (p : ℕ) → In p t → subtree_at p T ≡ subtree_at p t
  links : (p : ℕ) → In p t → (p ≡ number t → ⊥) → link_in T p ≡ link_in t p
  orders : (p q : ℕ) → In p t → In q t → before (nodes T) p q ≡ before (nodes t) p q

record LooksChildren (T : Tree) (n : ℕ) (s : Side) (ks : Children) : Type 0 where
  subtrees : (p : ℕ) → InChildren p ks → subtree_at p T ≡ subtree_at_children p ks
  links : (p : ℕ) → InChildren p ks → link_in T p ≡ link_in_children n s ks p
  orders : (p q : ℕ) → InChildren p ks → InChildren q ks → before (nodes T) p q ≡ before (nodes_children ks) p q

-- p in the children is not n
other : (p n : ℕ) (ks : Children) → (InChildren n ks → ⊥) → InChildren p ks → p ≡ n → ⊥
other p n ks h i e = h (subst (λ x. InChildren x ks) e i)

looks-kids : (T : Tree) (n : ℕ) (s : Side) (ks : Children) → (InChildren n ks → ⊥) → Looks T (inner n s ks)
    → LooksChildren T n s ks
looks-kids T n s ks h l =
    record {
      subtrees = λ p i. l.subtrees p (inr i) ∙ rw (ne_eqb p n (other p n ks h i)) refl;
      links = λ p i. l.links p (inr i) (other p n ks h i) ∙ rw (ne_eqb p n (other p n ks h i)) refl;
      orders = λ p q i j. l.orders p q (inr i) (inr j) ∙ rw (ne_eqb p n (other p n ks h i)) refl;
    }

looks-last : (T : Tree) (n : ℕ) (s : Side) (t : Tree) → LooksChildren T n s (last t) → Looks T t
looks-last T n s t l =
    record {
      subtrees = λ p i. l.subtrees p i;
      links = λ p i h. l.links p i ∙ rw (ne_eqb p (number t) h) refl;
      orders = λ p q i j. l.orders p q i j;
    }

module _ (T : Tree) (n : ℕ) (s : Side) (t : Tree) (ts : Children) (d : (p : ℕ) → In p t → InChildren p ts → ⊥)
    (l : LooksChildren T n s (t then ts)) where
  out : (p : ℕ) → InChildren p ts → among (nodes t) p ≡ false
  out p i = out-nodes p t (λ j. d p j i)

  first-subtrees : (p : ℕ) → In p t → subtree_at p T ≡ subtree_at p t
  first-subtrees p i = l.subtrees p (inl i) ∙ rw (in-nodes p t i) refl

  rest-subtrees : (p : ℕ) → InChildren p ts → subtree_at p T ≡ subtree_at_children p ts
  rest-subtrees p i = l.subtrees p (inr i) ∙ rw (out p i) refl

  looks-first : Looks T t
  looks-first =
      record {
        subtrees = first-subtrees;
        links = λ p i h. l.links p (inl i) ∙ rw (ne_eqb p (number t) h, in-nodes p t i) refl;
        orders = λ p q i j.
            l.orders p q (inl i) (inl j)
            ∙ before-first (nodes t) (nodes_children ts) p q (in-nodes p t i) (out-nodes_children q ts (d q j));
      }

  not_first : (p : ℕ) → InChildren p ts → p ≡ number t → ⊥
  not_first p i e = d p (subst (λ x. In x t) (sym e) (number_in t)) i

  looks-rest : LooksChildren T n s ts
  looks-rest =
      record {
        subtrees = rest-subtrees;
        links = λ p i. l.links p (inr i) ∙ rw (ne_eqb p (number t) (not_first p i), out p i) refl;
        orders = λ p q i j.
            l.orders p q (inr i) (inr j) ∙ before-rest (nodes t) (nodes_children ts) p q (out p i);
      }

  -- no node of the first is above one of the others, nor the other way round
  apart-first : (p q : ℕ) → In p t → InChildren q ts → above_in T p q ≡ false
  apart-first p q i j =
      rw (first-subtrees p i, out-nodes q (subtree_at p t) (λ k. d q (subtree-in p q t k) j)) refl

  apart-rest : (p q : ℕ) → In p t → InChildren q ts → above_in T q p ≡ false
  apart-rest p q i j =
      rw (rest-subtrees q j, out-nodes p (subtree_at_children q ts) (λ k. d p i (subtree_children-in q p ts k))) refl

  looks-apart : Apart T t ts
  looks-apart p q i j =
      let b = l.orders p q (inl i) (inr j)
      ∙ before-apart (nodes t) (nodes_children ts) p q (in-nodes p t i) (in-nodes_children q ts j) in
      (apart-first p q i j, apart-rest p q i j, rw (b, apart-first p q i j) refl)

mutual
  -- so it answers as t says
  looks-answers : (T t : Tree) → Distinct t → Looks T t → Answers T t
  looks-answers T (leaf n) d l = l.subtrees n refl
  looks-answers T (inner n s ks) d l =
      let e : subtree_at n T ≡ inner n s ks = l.subtrees n (inl refl) ∙ rw (eq-eqb n n refl) refl in (
        e,
        λ p i. rw (e, ne_eqb p n (other p n ks d.0 i), in-nodes_children p ks i) refl,
        looks-answers_children T n s ks d.1 (looks-kids T n s ks d.0 l),
      )

  looks-answers_children : (T : Tree) (n : ℕ) (s : Side) (ks : Children) → DistinctChildren ks → LooksChildren T n s ks
      → AnswersChildren T n s ks
  looks-answers_children T n s (last t) d l = (
    l.links (number t) (number_in t) ∙ rw (eq-eqb (number t) (number t) refl) refl,
    looks-answers T t d (looks-last T n s t l),
  )
  looks-answers_children T n s (t then ts) d l = (
    l.links (number t) (inl (number_in t)) ∙ rw (eq-eqb (number t) (number t) refl) refl,
    looks-apart T n s t ts d.2 l,
    looks-answers T t d.0 (looks-first T n s t ts d.2 l),
    looks-answers_children T n s ts d.1 (looks-rest T n s t ts d.2 l),
  )

-- the root of a tree has no parent in it
pub own_root : (t : Tree) → link_in t (number t) ≡ root
own_root (leaf n) = refl
own_root (inner n s ks) = rw (eq-eqb n n refl) refl

-- a tree with distinct numbers answers as it says itself
pub own-answers : (t : Tree) → Distinct t → Answers t t
own-answers t d =
    looks-answers t t d (record { subtrees = λ p i. refl; links = λ p i h. refl; orders = λ p q i j. refl })
