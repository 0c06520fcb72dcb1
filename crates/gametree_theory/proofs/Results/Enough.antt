-- A reason is enough: where a leaf has a `Reason` by the bounds of some leaves, its score has no influence on the
-- root's value, also where these bounds do not meet at the root. For as long as the leaf has influence, the root's
-- values for its least and its greatest score lie between those of every node above the leaf; at the Max node of a
-- reason the first is at least the low, at the Min node the second at most the high.
use Rattle.prelude.proofs.{ℕ, ◌≤◌, ◌<◌, le_refl, arith, ◌≡◌, refl, sym, ◌∙◌, ap, subst, fun_ext, ◌⊎◌, inl, inr, ⊎_elim}
use Rattle.prelude.proofs.{Bool, true, false, cond, Option, eqb, eqb-true, eqb-false, ne_eqb}
use Rattle.lists.specs.{among}
use Rattle.gametree.specs.declared.Side.{Side}
use Rattle.gametree.specs.declared.Side.TheVariants.{Max, Min}
use Rattle.gametree.specs.{Tree, leaf, inner, Children, last, ◌then◌, least, greatest, better, minimax}
use Rattle.gametree.specs.{minimax_children}
use Rattle.gametree.specs.{number, nodes, leaves, leaves_children, In, InChildren, EveryLeaf, EveryLeafChildren}
use Rattle.gametree.specs.{Distinct, DistinctChildren, Proper, known, low, high, substituted, root, under, subtree_at}
use Rattle.gametree.specs.{subtree_at_children, link_in, link_in_children, above_in, Beside, Reason}
use Rattle.lists.proofs.Choice.{cond_cases, clash, true-not-false, or_cases}
use Rattle.lists.proofs.Lists.{all-at, among-append}
use Rattle.gametree_theory.proofs.Minimax.Nodes.{number_in, nodes-in, leaves_in, leaves_children-in}
use Rattle.gametree_theory.proofs.Minimax.Bounds.{every-leaf, known-leaf-local, low≤, ≤high}
use Rattle.gametree_theory.proofs.Minimax.Grafts.{minimax-same}
use Rattle.gametree_theory.proofs.Minimax.OneLeaf.{median}
use Rattle.gametree_theory.proofs.Certificates.Solution.{Under, under-refl, under-both}
use Rattle.gametree_theory.proofs.Tests.Subtree.{every-all}
use Rattle.gametree_theory.proofs.Sss.Lookups.{Answers, AnswersChildren}
use Rattle.gametree_theory.proofs.Sss.OwnNodes.{own-answers, own_root}
use Rattle.gametree_theory.proofs.Results.MemoAt.{less-or-not}
use Rattle.gametree_theory.proofs.Results.Reason.{own-subtree}

-- LINKS

module _ (p : ℕ) (s : Side) (b : Option ℕ) (c : ℕ) where
  mutual
    -- a node with a parent in a tree is one of its nodes
    link-in : (t : Tree) → link_in t c ≡ under p s b → In c t
    link-in (leaf n) = λ l. clash (cc)
    link-in (inner n q ks) =
        cond_cases (λ x. x ≡ under p s b → In c (inner n q ks)) (eqb c n) _ _ (λ e l. inl (eqb-true c n e))
        (λ e l. inr (link_children-in n q ks l))

    link_children-in : (n : ℕ) (q : Side) (ks : Children) → link_in_children n q ks c ≡ under p s b → InChildren c ks
    link_children-in n q (last t) =
        cond_cases (λ x. x ≡ under p s b → In c t) (eqb c (number t)) _ _
        (λ e l. subst (λ y. In y t) (sym (eqb-true c (number t) e)) (number_in t)) (λ e l. link-in t l)
    link_children-in n q (t then ts) =
        cond_cases (λ x. x ≡ under p s b → InChildren c (t then ts)) (eqb c (number t)) _ _
        (λ e l. inl (subst (λ y. In y t) (sym (eqb-true c (number t) e)) (number_in t)))
        (λ e. cond_cases (λ x. x ≡ under p s b → InChildren c (t then ts)) (among (nodes t) c) _ _
        (λ f l. inl (nodes-in c t f)) (λ f l. inr (link_children-in n q ts l)))

-- two numbers are the same, or not
same_or_not : (a b : ℕ) → (a ≡ b) ⊎ (a ≡ b → ⊥)
same_or_not a b = by (eqb a b) refl
  where
    by : (x : Bool) → eqb a b ≡ x → (a ≡ b) ⊎ (a ≡ b → ⊥)
    by true e = inl (eqb-true a b e)
    by false e = inr (eqb-false a b e)

module _ (T : Tree) (μ : ℕ → ℕ) (p : ℕ) (s : Side) (b : Option ℕ) (c : ℕ) (l : link_in T c ≡ under p s b) where
  -- the parent's value is as good for its side as the child's
  abbrev Kept : Type 0
  Kept = Under s (minimax μ (subtree_at c T)) (minimax μ (subtree_at p T))

  -- at the node n of the side q
  at-parent : (n : ℕ) (q : Side) {d : Option ℕ} (t : Tree) → link_in T (number t) ≡ under n q d → Answers T t
      → Under q (minimax μ t) (minimax μ (subtree_at n T)) → c ≡ number t → (p ≡ n) × Kept
  at-parent n q {d} t k a g e =
      let w : under n q d ≡ under p s b = sym k ∙ ap (link_in T) (sym e) ∙ l in
      let x : n ≡ p = cc in
      let y : q ≡ s = cc in
      let z = own-subtree T t a in
      (sym x, rw (e, z, ← x, ← y) g)

  mutual
    linked : (t : Tree) → Answers T t → In c t → (c ≡ number t → ⊥) → In p t × Kept
    linked (leaf n) a i o = absurd (o i)
    linked (inner n q ks) a (inl e) o = absurd (o e)
    linked (inner n q ks) a (inr i) o =
        linked_children n q ks (rw a.0 (under-refl q (minimax_children μ q ks))) a.2 i

    linked_children : (n : ℕ) (q : Side) (ks : Children) → Under q (minimax_children μ q ks)
        (minimax μ (subtree_at n T))
        → AnswersChildren T n q ks → InChildren c ks → ((p ≡ n) ⊎ InChildren p ks) × Kept
    linked_children n q (last t) g a i =
        ⊎_elim (λ e. let r = at-parent n q t a.0 a.1 g e in (inl r.0, r.1))
        (λ e. let r = linked t a.1 i e in (inr r.0, r.1)) (same_or_not c (number t))
    linked_children n q (t then ts) g a (inl i) =
        let h = (under-both q (minimax μ t) (minimax_children μ q ts) _ g).0 in
        ⊎_elim (λ e. let r = at-parent n q t a.0 a.2 h e in (inl r.0, r.1))
        (λ e. let r = linked t a.2 i e in (inr (inl r.0), r.1)) (same_or_not c (number t))
    linked_children n q (t then ts) g a (inr i) =
        let r = linked_children n q ts (under-both q (minimax μ t) (minimax_children μ q ts) _ g).1 a.3 i in
        (⊎_elim (λ e. inl e) (λ j. inr (inr j)) r.0, r.1)

-- SUBTREES

mutual
  -- what holds of each leaf holds of each leaf of a subtree
  every-subtree : (P : ℕ → Type 0) (c : ℕ) (t : Tree) → EveryLeaf P t → EveryLeaf P (subtree_at c t)
  every-subtree P c (leaf n) h = h
  every-subtree P c (inner n s ks) h =
      cond_cases (λ u. EveryLeaf P u) (eqb c n) _ _ (λ _. h) (λ _. every-subtree_children P c ks h)

  every-subtree_children : (P : ℕ → Type 0) (c : ℕ) (ks : Children) → EveryLeafChildren P ks
      → EveryLeaf P (subtree_at_children c ks)
  every-subtree_children P c (last t) h = every-subtree P c t h
  every-subtree_children P c (t then ts) h =
      cond_cases (λ u. EveryLeaf P u) (among (nodes t) c) _ _ (λ _. every-subtree P c t h.0)
      (λ _. every-subtree_children P c ts h.1)

-- INFLUENCE

-- two values of one child and one of the others: while the node's differ, the child's differ, and enclose the node's
narrower-first : (s : Side) (a b c : ℕ) → better s a c < better s b c
    → (a < b) × (a ≤ better s a c) × (better s b c ≤ b)
narrower-first Max a b c h = (omega arith, omega arith, omega arith)
narrower-first Min a b c h = (omega arith, omega arith, omega arith)

narrower-second : (s : Side) (a b c : ℕ) → better s c a < better s c b
    → (a < b) × (a ≤ better s c a) × (better s c b ≤ b)
narrower-second Max a b c h = (omega arith, omega arith, omega arith)
narrower-second Min a b c h = (omega arith, omega arith, omega arith)

own-score : (b : Bool) (x y : ℕ) → (b ≡ true → y ≡ x) → cond b x y ≡ y
own-score true x y f = sym (f refl)
own-score false x y f = refl

module _ (ν : ℕ → ℕ) (k : ℕ) where
  mutual
    -- the score of a leaf that is not in a tree does not matter for it
    elsewhere : (x : ℕ) (t : Tree) → (In k t → ⊥) → minimax (substituted ν k x) t ≡ minimax ν t
    elsewhere x (leaf n) h = rw (ne_eqb n k (λ e. h (sym e)))
    elsewhere x (inner n s ks) h = elsewhere_children x s ks (λ i. h (inr i))

    elsewhere_children : (x : ℕ) (s : Side) (ks : Children) → (InChildren k ks → ⊥)
        → minimax_children (substituted ν k x) s ks ≡ minimax_children ν s ks
    elsewhere_children x s (last t) h = elsewhere x t h
    elsewhere_children x s (t then ts) h =
        rw (elsewhere x t (λ i. h (inl i)), elsewhere_children x s ts (λ i. h (inr i)))

  -- the values for the least and the greatest score
  abbrev lo : Tree → ℕ
  lo t = minimax (substituted ν k least) t

  abbrev hi : Tree → ℕ
  hi t = minimax (substituted ν k greatest) t

  abbrev lo_of : Side → Children → ℕ
  lo_of s ks = minimax_children (substituted ν k least) s ks

  abbrev hi_of : Side → Children → ℕ
  hi_of s ks = minimax_children (substituted ν k greatest) s ks

  module _ (T : Tree) (n : ℕ) (up : above_in T n k ≡ true) where
    mutual
      -- while they differ, those of each node above the leaf enclose them
      nested : (t : Tree) → Answers T t → Distinct t → among (leaves t) k ≡ true → lo t < hi t → In n t
          → (lo (subtree_at n T) ≤ lo t) × (hi t ≤ hi (subtree_at n T))
      nested (leaf m) a d i l j = rw (j, a) (le_refl _, le_refl _)
      nested (inner m s ks) a d i l (inl j) = rw (j, a.0) (le_refl _, le_refl _)
      nested (inner m s ks) a d i l (inr j) = nested_children m s ks a.2 d.1 i l j

      nested_children : (m : ℕ) (s : Side) (ks : Children) → AnswersChildren T m s ks → DistinctChildren ks
          → among (leaves_children ks) k ≡ true → lo_of s ks < hi_of s ks → InChildren n ks
          → (lo (subtree_at n T) ≤ lo_of s ks) × (hi_of s ks ≤ hi (subtree_at n T))
      nested_children m s (last t) a d i l j = nested t a.1 d i l j
      nested_children m s (t then ts) a d i l j =
          ⊎_elim
          (λ f.
          let x = all-at _ (leaves t) (leaves_in t) k f in
          ⊎_elim
          (λ z.
          let e = elsewhere_children least s ts (d.2 k x) in
          let g = elsewhere_children greatest s ts (d.2 k x) in
          let w = narrower-first s (lo t) (hi t) (minimax_children ν s ts) (rw (e, g) at l) in
          let r = nested t a.2 d.0 f w.0 z in
          rw (e, g) (omega (arith, r), omega (arith, r)))
          (λ z. absurd (true-not-false up (a.1 k n x z).1)) j)
          (λ f.
          let x = all-at _ (leaves_children ts) (leaves_children-in ts) k f in
          ⊎_elim (λ z. absurd (true-not-false up (a.1 n k z x).0))
          (λ z.
          let e = elsewhere least t (λ y. d.2 k y x) in
          let g = elsewhere greatest t (λ y. d.2 k y x) in
          let w = narrower-second s (lo_of s ts) (hi_of s ts) (minimax ν t) (rw (e, g) at l) in
          let r = nested_children m s ts a.3 d.1 f w.0 z in
          rw (e, g) (omega (arith, r), omega (arith, r))) j)
          (or_cases (among (leaves t) k) (among (leaves_children ts) k)
          (sym (among-append (leaves t) (leaves_children ts) k) ∙ i))

  -- THE CRITERION

  module _ (E : ℕ → Bool) (t : Tree) (r : Proper ν t) (i : among (leaves t) k ≡ true) where
    -- above the leaf a node with a child beside the path: its side's value there is as good as the child's
    beside-kept : (s : Side) (c : ℕ) (x : ℕ) (w : Beside t s k c)
        → In w.parent t
        × Under s (minimax ν (subtree_at c t)) (minimax (substituted ν k x) (subtree_at w.parent t))
    beside-kept s c x w =
        let n = w.parent in
        let z = linked t (substituted ν k x) n s w.next c w.child t (own-answers t r.distinct)
        (link-in n s w.next c t w.child)
        (λ e. clash (let y : root ≡ under n s w.next = sym (own_root t) ∙ ap (link_in t) (sym e) ∙ w.child in cc)) in
        (z.0, (rw (elsewhere x (subtree_at c t) w.apart) at z).1)

    -- a leaf with a reason has no influence on the root's value
    pub reason-enough : Reason ν E t k → (x : ℕ) → x ≤ greatest → minimax (substituted ν k x) t ≡ minimax ν t
    reason-enough q x h =
        let f = beside-kept Max q.max_child least q.under_max in
        let g = beside-kept Min q.min_child greatest q.under_min in
        let m = low≤ ν E (subtree_at q.max_child t) in
        let n = ≤high ν E (subtree_at q.min_child t) (every-subtree _ q.min_child t r.scored) in
        let a = own-answers t r.distinct in
        let met : hi t ≤ lo t =
        ⊎_elim (λ l.
        let y = nested t q.under_max.parent q.under_max.above t a r.distinct i l f.0 in
        let z = nested t q.under_min.parent q.under_min.above t a r.distinct i l g.0 in
        absurd (omega (arith, f.1, g.1, q.crossed, y.0, z.1)))
        (λ l. l) (less-or-not (lo t) (hi t)) in
        let own = all-at _ (leaves t) (every-all _ t r.scored) k i in
        let kept : minimax (substituted ν k (ν k)) t ≡ minimax ν t =
        minimax-same _ ν t (every-leaf _ (λ n. own-score (eqb n k) (ν k) (ν n) (λ e. ap ν (eqb-true n k e))) t) in
        omega (arith, median ν k x h t, median ν k (ν k) (omega (arith, own.1)) t, kept)

-- a leaf has its reason whatever the leaves outside E hold
pub reason_kept : (ν μ : ℕ → ℕ) (E : ℕ → Bool) (t : Tree) (k : ℕ) → ((n : ℕ) → E n ≡ true → ν n ≡ μ n)
    → Reason ν E t k → Reason μ E t k
reason_kept ν μ E t k f q =
    let e : (x : ℕ) → known ν E x ≡ known μ E x = λ x. fun_ext (λ n. known-leaf-local (E n) (ν n) (μ n) x (f n)) in
    record {
      max_child = q.max_child;
      min_child = q.min_child;
      under_max = q.under_max;
      under_min = q.under_min;
      crossed =
          subst (λ χ. minimax χ (subtree_at q.min_child t) ≤ low μ E (subtree_at q.max_child t)) (e greatest)
          (subst (λ κ. high ν E (subtree_at q.min_child t) ≤ minimax κ (subtree_at q.max_child t)) (e least)
          q.crossed);
    }
