-- The value of a side's tree over the table's nodes is that over the leaves of the table's tree: each is the least
-- bound, in the side's order, of the scores of the leaves in the tree.
use Rattle.prelude.proofs.{ℕ, zero, suc, ◌+◌, ◌≤◌, ◌<◌, arith, dec_lt, dec_le, add-one, ◌≡◌, ◌∙◌, Bool, cond, List}
use Rattle.prelude.proofs.{eq-eqb, ne_eqb}
use Rattle.gametree.specs.declared.Side.{Side}
use Rattle.gametree.specs.declared.Side.TheVariants.{Max, Min}
use Rattle.gametree.specs.{Tree, leaf, inner, Children, last, ◌then◌, greatest, better, EveryLeaf, EveryLeafChildren}
use Rattle.gametree.specs.{Score, Scored, ScoredChildren, worst, solution_value}
use Rattle.lists.proofs.Choice.{cond_cases}
use Rattle.gametree_theory.proofs.Certificates.Leaves.{best_leaf, best_leaf_children, value-best}
use Rattle.gametree_theory.proofs.Certificates.Solution.{Under, under-refl, under-both, both_under}
use Rattle.table.specs.{frames, child_count, tree, valuation, WellFormed}
use Rattle.table.proofs.Trees.{tree-leaf}
use Rattle.table.proofs.Proper.{every-leaf, leaf-scored, tree-proper}
use Rattle.certificate_check.specs.{member, leaf_in, best_before, tree_value}
use Rattle.certificate_check.proofs.Subtrees.{Inherited, each-subtree}

under-antisym : (p : Side) (a b : ℕ) → Under p a b → Under p b a → a ≡ b
under-antisym Max a b h k = omega arith
under-antisym Min a b h k = omega arith

-- the worst score stays below
worst-score : (p : Side) (v : ℕ) → Score v → Under p (worst p) v
worst-score Max v s = omega arith
worst-score Min v s = omega arith

worst-better : (p : Side) (a b : ℕ) → Under p (worst p) a → Under p (worst p) (better p a b)
worst-better Max a b h = omega arith
worst-better Min a b h = omega arith

worst-self : (p : Side) → Under p (worst p) (worst p)
worst-self Max = omega arith
worst-self Min = omega arith

worst-last : (p : Side) (v : ℕ) → Under p (worst p) v → better p v (worst p) ≡ v
worst-last Max v h = omega arith
worst-last Min v h = omega arith

module _ (p : Side) (ν : ℕ → ℕ) (g : ℕ → Bool) where
  -- what a leaf adds to the value
  abbrev pub score_in : ℕ → ℕ
  score_in n = cond (g n) (ν n) (worst p)

  -- a solution tree's best leaf is bounded exactly if each of its leaves is
  mutual
    solution-least : (x : ℕ) (t : Tree) → EveryLeaf (λ n. Under p (score_in n) x) t → Under p (best_leaf p ν g t) x
    solution-least x (leaf n) h = h
    solution-least x (inner n q ks) h = solution_children-least x ks h

    solution_children-least : (x : ℕ) (ks : Children) → EveryLeafChildren (λ n. Under p (score_in n) x) ks
        → Under p (best_leaf_children p ν g ks) x
    solution_children-least x (last t) h = solution-least x t h
    solution_children-least x (t then ts) h =
        both_under p _ _ x (solution-least x t h.0) (solution_children-least x ts h.1)

  mutual
    least-solution : (x : ℕ) (t : Tree) → Under p (best_leaf p ν g t) x → EveryLeaf (λ n. Under p (score_in n) x) t
    least-solution x (leaf n) h = h
    least-solution x (inner n q ks) h = least-solution_children x ks h

    least-solution_children : (x : ℕ) (ks : Children) → Under p (best_leaf_children p ν g ks) x
        → EveryLeafChildren (λ n. Under p (score_in n) x) ks
    least-solution_children x (last t) h = least-solution x t h
    least-solution_children x (t then ts) h =
        let b = under-both p (best_leaf p ν g t) (best_leaf_children p ν g ts) x h in
        (least-solution x t b.0, least-solution_children x ts b.1)

  -- and it is never worse than the worst score
  mutual
    solution-worst : (t : Tree) → Scored ν t → Under p (worst p) (best_leaf p ν g t)
    solution-worst (leaf n) s =
        cond_cases (λ x. Under p (worst p) x) (g n) (ν n) (worst p) (λ e. worst-score p (ν n) s) (λ e. worst-self p)
    solution-worst (inner n q ks) s = solution_children-worst ks s

    solution_children-worst : (ks : Children) → ScoredChildren ν ks → Under p (worst p) (best_leaf_children p ν g ks)
    solution_children-worst (last t) s = solution-worst t s
    solution_children-worst (t then ts) s = worst-better p _ _ (solution-worst t s.0)

  -- so it is the tree's value
  pub value-leaf : (t : Tree) → Scored ν t → solution_value p ν g t ≡ best_leaf p ν g t
  value-leaf t s = value-best p ν g t ∙ worst-last p _ (solution-worst t s)

every-inherited : (P : ℕ → Type 0) → Inherited (EveryLeaf P) (EveryLeafChildren P)
every-inherited P = record { of_inner = λ n q ks x. x; of_last = λ t x. x; of_more = λ t ts x. x }

module _ (p : Side) (t flags : List ℕ) where
  -- the best before the next node
  pub best-more : (n a b : ℕ) → a ≡ best_before p t flags n → b ≡ leaf_in p t flags n
      → better p a b ≡ best_before p t flags (n + 1)
  unfolding best_before
  best-more n a b e f = rw (e, f, add-one n)

  -- the best before n is bounded if each leaf before n is
  best-least : (n x : ℕ) → Under p (worst p) x → ((i : ℕ) → i < n → Under p (leaf_in p t flags i) x)
      → Under p (best_before p t flags n) x
  unfolding best_before
  best-least zero x w f = w
  best-least (suc n) x w f =
      both_under p _ _ x (best-least n x w (λ i h. f i (omega arith))) (f n (omega arith))

  least-best : (n x : ℕ) → Under p (best_before p t flags n) x → (i : ℕ) → i < n → Under p (leaf_in p t flags i) x
  unfolding best_before
  least-best zero x h i l = absurd (omega arith)
  least-best (suc n) x h i l =
      let b = under-both p (best_before p t flags n) (leaf_in p t flags n) x h in
      elim (dec_lt i n) [
        | yes m ↦ least-best n x b.0 i m
        | no m ↦ (let e : i ≡ n = omega arith in rw e b.1)
      ]

  -- of a leaf it is what the leaf adds, of an inner node the worst score
  pub leaf-in : (i : ℕ) → child_count t i ≡ 0 → leaf_in p t flags i ≡ score_in p (valuation t) (member p flags) i
  leaf-in i e = rw (eq-eqb (child_count t i) 0 e)

  pub inner-in : (i : ℕ) → (child_count t i ≡ 0 → ⊥) → leaf_in p t flags i ≡ worst p
  inner-in i e = rw (ne_eqb (child_count t i) 0 e)

  -- the two values are equal
  pub tree-value-same : WellFormed t → solution_value p (valuation t) (member p flags) (tree t) ≡ tree_value p t flags
  tree-value-same wf =
      let ν = valuation t in
      let g = member p flags in
      let v = best_leaf p ν g (tree t) in
      value-leaf p ν g (tree t) (tree-proper t wf).scored ∙ under-antisym p _ _
      (solution-least p ν g _ (tree t)
      (every-leaf t wf (λ n. Under p (score_in p ν g n) (tree_value p t flags)) (λ i h e.
      rw (leaf-in i e) at (least-best (frames t) (tree_value p t flags) (under-refl p _) i h)) 0 wf.non_empty))
      (best-least (frames t) v (solution-worst p ν g (tree t) (tree-proper t wf).scored) (λ i h.
      elim (dec_le (child_count t i) 0) [
        | yes z ↦ (let e : child_count t i ≡ 0 = omega arith in
            rw (leaf-in i e)
            (rw (tree-leaf t wf i h e) at
            (each-subtree (every-inherited (λ n. Under p (score_in p ν g n) v)) t wf
            (least-solution p ν g v (tree t) (under-refl p v)) i h)))
        | no z ↦ rw (inner-in i (λ e. omega arith)) (solution-worst p ν g (tree t) (tree-proper t wf).scored)
      ]))

  -- and no greater than the greatest score
  pub value-within : WellFormed t → tree_value p t flags ≤ greatest
  unfolding best_before
  value-within wf = within (frames t) (omega arith)
    where
      worst-within : (p : Side) → worst p ≤ greatest
      worst-within Max = omega arith
      worst-within Min = omega arith

      better-within : (p : Side) (a b : ℕ) → a ≤ greatest → b ≤ greatest → better p a b ≤ greatest
      better-within Max a b h k = omega arith
      better-within Min a b h k = omega arith

      leaf-within : (i : ℕ) → i < frames t → leaf_in p t flags i ≤ greatest
      leaf-within i h =
          elim (dec_le (child_count t i) 0) [
            | yes z ↦ (let e : child_count t i ≡ 0 = omega arith in
                rw (leaf-in i e)
                (cond_cases (λ x. x ≤ greatest) (member p flags i) (valuation t i) (worst p)
                (λ _. omega (arith, leaf-scored t wf i h e)) (λ _. worst-within p)))
            | no z ↦ rw (inner-in i (λ e. omega arith)) (worst-within p)
          ]

      within : (n : ℕ) → n ≤ frames t → best_before p t flags n ≤ greatest
      within zero h = worst-within p
      within (suc n) h = better-within p _ _ (within n (omega arith)) (leaf-within n (omega arith))
