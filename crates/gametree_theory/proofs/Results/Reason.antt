-- A leaf is passed over only for a reason. If a tree's value under some scores is at least v and the score of its leaf
-- k is not, then beside the path to k a Max node has a child whose value is at least v; so it is for Min with at most
-- v. Of the lows and of the highs this gives the two children of `Reason`.
use Rattle.prelude.proofs.{ℕ, ◌≤◌, arith, ◌≡◌, refl, sym, ◌∙◌, ap, ◌⊎◌, inl, inr, ⊎_elim, Bool, true, false, or-false}
use Rattle.prelude.proofs.{Option, eqb, eqb-true}
use Rattle.lists.specs.{among}
use Rattle.gametree.specs.declared.Side.{Side}
use Rattle.gametree.specs.declared.Side.TheVariants.{Max, Min}
use Rattle.gametree.specs.{Tree, leaf, inner, Children, last, ◌then◌, least, greatest, better, minimax}
use Rattle.gametree.specs.{minimax_children}
use Rattle.gametree.specs.{number, leaves, leaves_children, In, InChildren, Distinct, DistinctChildren, Proper, known}
use Rattle.gametree.specs.{low, high, Decided, under, subtree_at, link_in, above_in, Beside, Reason}
use Rattle.lists.proofs.Choice.{or_cases}
use Rattle.lists.proofs.Lists.{all-at, among-append}
use Rattle.gametree_theory.proofs.Minimax.Nodes.{leaves_in, leaves_children-in}
use Rattle.gametree_theory.proofs.Minimax.Bounds.{minimax-score}
use Rattle.gametree_theory.proofs.Certificates.Solution.{Under}
use Rattle.gametree_theory.proofs.Sss.Lookups.{Answers, AnswersChildren}
use Rattle.gametree_theory.proofs.Sss.OwnNodes.{own-answers}
use Rattle.gametree_theory.proofs.Results.MemoAt.{less-or-not}

-- if the better of two is as good as v, both are; or the side moves, and one of them is
good-parts : (p s : Side) (v a b : ℕ) → Under p v (better s a b)
    → (Under p v a × Under p v b) ⊎ ((s ≡ p) × (Under p v a ⊎ Under p v b))
good-parts Max Max v a b g =
    inr (refl, ⊎_elim (λ l. inr (omega arith)) (λ l. inl l) (less-or-not a v))
good-parts Max Min v a b g = inl (omega arith, omega arith)
good-parts Min Max v a b g = inl (omega arith, omega arith)
good-parts Min Min v a b g =
    inr (refl, ⊎_elim (λ l. inr (omega arith)) (λ l. inl l) (less-or-not v a))

-- the subtree at a part's root is that part
pub own-subtree : (T t : Tree) → Answers T t → subtree_at (number t) T ≡ t
own-subtree T (leaf n) a = a
own-subtree T (inner n s ks) a = a.0

-- a node beside the path to k, under a node of the side p, whose value is as good as v
record GoodBeside (T : Tree) (μ : ℕ → ℕ) (p : Side) (v k : ℕ) : Type 0 where
  child : ℕ
  beside : Beside T p k child
  good : Under p v (minimax μ (subtree_at child T))

module _ (T : Tree) (μ : ℕ → ℕ) (p : Side) (v k : ℕ) where
  -- a child of the node n, which is above k and of the side p, is such a node if its value is as good as v and k is not
  -- in its tree
  at-child : (n : ℕ) {s : Side} {b : Option ℕ} (t : Tree) → s ≡ p → above_in T n k ≡ true
      → link_in T (number t) ≡ under n s b → Answers T t → (In k t → ⊥) → Under p v (minimax μ t)
      → GoodBeside T μ p v k
  at-child n {b = b} t e up l a o g =
      let w = own-subtree T t a in
      record {
        child = number t;
        beside =
            record {
              parent = n;
              next = b;
              child = l ∙ ap (λ q. under n q b) e;
              above = up;
              apart = λ i. o (rw w at i);
            };
        good = rw w g;
      }

  -- so if the best of some of its children is, and k is in none of their trees
  among-children : (n : ℕ) (s : Side) (ks : Children) → s ≡ p → above_in T n k ≡ true → AnswersChildren T n s ks
      → (InChildren k ks → ⊥) → Under p v (minimax_children μ s ks) → GoodBeside T μ p v k
  among-children n s (last t) e up a o g = at-child n t e up a.0 a.1 o g
  among-children n s (t then ts) e up a o g =
      let first = at-child n t e up a.0 a.2 (λ i. o (inl i)) in
      let rest = among-children n s ts e up a.3 (λ i. o (inr i)) in
      ⊎_elim (λ h. first h.0) (λ h. ⊎_elim first rest h.1) (good-parts p s v _ _ g)

  module _ (bad : Under p v (μ k) → ⊥) where
    mutual
      -- going down to the leaf k, which is not as good as v, leaves what is as good beside the path
      find : (t : Tree) → Answers T t → Distinct t → among (leaves t) k ≡ true → Under p v (minimax μ t)
          → GoodBeside T μ p v k
      find (leaf n) a d i g = absurd (bad (rw (eqb-true k n (sym (or-false (eqb k n)) ∙ i)) g))
      find (inner n s ks) a d i g =
          find_children n s ks (a.1 k (all-at _ (leaves_children ks) (leaves_children-in ks) k i)) a.2 d.1 i g

      find_children : (n : ℕ) (s : Side) (ks : Children) → above_in T n k ≡ true → AnswersChildren T n s ks
          → DistinctChildren ks → among (leaves_children ks) k ≡ true → Under p v (minimax_children μ s ks)
          → GoodBeside T μ p v k
      find_children n s (last t) up a d i g = find t a.1 d i g
      find_children n s (t then ts) up a d i g =
          let parts = good-parts p s v (minimax μ t) (minimax_children μ s ts) g in
          let apart = d.2 k in
          ⊎_elim
          (λ j.
          let below : Under p v (minimax μ t) → GoodBeside T μ p v k = λ x. find t a.2 d.0 j x in
          let in-first = all-at _ (leaves t) (leaves_in t) k j in
          ⊎_elim (λ h. below h.0)
          (λ h. ⊎_elim below (among-children n s ts h.0 up a.3 (apart in-first)) h.1) parts)
          (λ j.
          let below : Under p v (minimax_children μ s ts) → GoodBeside T μ p v k =
          λ x. find_children n s ts up a.3 d.1 j x in
          let in_rest = all-at _ (leaves_children ts) (leaves_children-in ts) k j in
          ⊎_elim (λ h. below h.1)
          (λ h. ⊎_elim (at-child n t h.0 up a.0 a.2 (λ x. apart x in_rest)) below h.1) parts)
          (or_cases (among (leaves t) k) (among (leaves_children ts) k)
          (sym (among-append (leaves t) (leaves_children ts) k) ∙ i))

-- a leaf that is not evaluated counts with the score x
unknown : (ν : ℕ → ℕ) (E : ℕ → Bool) (x k : ℕ) → E k ≡ false → known ν E x k ≡ x
unknown ν E x k e = rw e

module _ (ν : ℕ → ℕ) (E : ℕ → Bool) (t : Tree) (r : Proper ν t) (d : Decided ν E t) (k : ℕ)
    (i : among (leaves t) k ≡ true) (e : E k ≡ false) where
  -- where the bounds meet at the root, every other leaf is passed over for a reason, and the root's value is between
  -- the two bounds of that
  pub decided-between : (x : Reason ν E t k) × (minimax ν t ≤ low ν E (subtree_at x.max_child t))
      × (high ν E (subtree_at x.min_child t) ≤ minimax ν t)
  decided-between =
      let v = minimax ν t in
      let a = own-answers t r.distinct in
      let s = minimax-score ν t r.scored in
      let x = find t (known ν E least) Max v k (λ h. omega (arith, unknown ν E least k e)) t a r.distinct i
      (omega (arith, d.low_is)) in
      let y = find t (known ν E greatest) Min v k (λ h. omega (arith, unknown ν E greatest k e)) t a r.distinct i
      (omega (arith, d.high_is)) in (
        record {
          max_child = x.child;
          min_child = y.child;
          under_max = x.beside;
          under_min = y.beside;
          crossed = omega (arith, x.good, y.good);
        },
        x.good,
        y.good,
      )

  pub decided-reason : Reason ν E t k
  decided-reason = decided-between.0
