-- What the answer of a pass says of the highs that it leaves, and of what is remembered: a node that is not below has
-- its high at the test or above, and is explored; one that is below has its high below the test.
use Rattle.prelude.proofs.{ℕ, zero, suc, ◌+◌, ◌≤◌, ◌<◌, le_refl, ℕ_discrete, arith, ◌≡◌, refl, sym, ap, ◌∙◌, subst}
use Rattle.prelude.proofs.{Bool, true, false, not, List, ltb, get_or, ltb-true, ltb-false, leb-true, leb-false}
use Rattle.prelude.proofs.{not-true}
use Rattle.prelude.proofs.{not-false}
use Rattle.gametree.specs.declared.Side.{Side}
use Rattle.gametree.specs.declared.Side.TheVariants.{Max, Min}
use Rattle.gametree.specs.{Tree, leaf, inner, Children, last, ◌then◌, better, Memo, MemoChildren, memo_high}
use Rattle.gametree.specs.{memo_high_children, Pass, PassChildren, pass, pass_children}
use Rattle.lists.proofs.Choice.{cond_cases, true-not-false}
use Rattle.gametree_theory.proofs.Mtd.MemoArrays.{read-high}
use Rattle.table.specs.{frames, first_child, child_count, side_of, children_from, tree_at, valuation, WellFormed}
use Rattle.table.proofs.Nodes.{in-own}
use Rattle.table.proofs.Trees.{zero-or-suc, tree-leaf, tree-inner}
use Rattle.certificate_bounds.specs.{marked, best_in}
use Rattle.mtd_memory.specs.{Memory, memo_of, pass_of, Passed, Explored}

-- the high v after a pass with the test γ and the answer b
pub record HighBy (γ : ℕ) (b : Bool) (v : ℕ) : Type 0 where
  pub above : b ≡ true → γ ≤ v
  pub below : b ≡ false → v < γ

module _ (ν : ℕ → ℕ) (γ : ℕ) where
  leaf-high : (n : ℕ) (m : Memo (leaf n)) → let r = pass ν γ (leaf n) m in
      HighBy γ r.not_below (memo_high ν (leaf n) r.next)
  leaf-high n m =
      cond_cases (λ (r : Pass (leaf n)). HighBy γ r.not_below (memo_high ν (leaf n) r.next)) m.evaluated _ _
      (λ e. rw e (record { above = λ f. leb-true γ (ν n) f; below = λ f. leb-false γ (ν n) f }))
      (λ _. record { above = λ f. leb-true γ (ν n) f; below = λ f. leb-false γ (ν n) f })

  inner-high : (n : ℕ) (s : Side) (ks : Children) (m : Memo (inner n s ks))
      → (let q = pass_children ν γ s ks m.kids in HighBy γ q.not_below (memo_high_children ν s ks q.next))
      → let r = pass ν γ (inner n s ks) m in HighBy γ r.not_below (memo_high ν (inner n s ks) r.next)
  inner-high n s ks m q =
      let P : Pass (inner n s ks) → Type 0 = λ r. HighBy γ r.not_below (memo_high ν (inner n s ks) r.next) in
      cond_cases P (ltb (memo_high_children ν s ks m.kids) γ) _ _
      (λ e. record { above = λ f. absurd (true-not-false f refl); below = λ _. ltb-true _ γ e })
      (λ e. cond_cases P m.not_below _ _
      (λ _. record { above = λ _. ltb-false _ γ e; below = λ f. absurd (true-not-false refl f) })
      (λ _. q))

  module _ (t : Tree) (ts : Children) (m : MemoChildren (t then ts))
      (a : let r = pass ν γ t m.first in HighBy γ r.not_below (memo_high ν t r.next)) where
    max-high : (let q = pass_children ν γ Max ts m.rest in
        HighBy γ q.not_below (memo_high_children ν Max ts q.next))
        → let q = pass_children ν γ Max (t then ts) m in
        HighBy γ q.not_below (memo_high_children ν Max (t then ts) q.next)
    max-high b =
        cond_cases (λ (q : PassChildren (t then ts)).
        HighBy γ q.not_below (memo_high_children ν Max (t then ts) q.next))
        (pass ν γ t m.first).not_below _ _
        (λ e. record { above = λ f. omega (arith, a.above e); below = λ f. absurd (true-not-false e f) })
        (λ e. record { above = λ f. omega (arith, b.above f); below = λ f. omega (arith, a.below e, b.below f) })

    min-high : (let q = pass_children ν γ Min ts m.rest in
        HighBy γ q.not_below (memo_high_children ν Min ts q.next))
        → let q = pass_children ν γ Min (t then ts) m in
        HighBy γ q.not_below (memo_high_children ν Min (t then ts) q.next)
    min-high b =
        cond_cases (λ (q : PassChildren (t then ts)).
        HighBy γ q.not_below (memo_high_children ν Min (t then ts) q.next))
        (not (pass ν γ t m.first).not_below) _ _
        (λ e. record {
          above = λ f. absurd (true-not-false f (not-true _ e));
          below = λ f. omega (arith, a.below f);
        })
        (λ e. record {
          above = λ f. omega (arith, a.above (not-false _ e), b.above f);
          below = λ f. omega (arith, b.below f);
        })

  mutual
    pub pass-high : (t : Tree) (m : Memo t) → let r = pass ν γ t m in HighBy γ r.not_below (memo_high ν t r.next)
    pass-high (leaf n) m = leaf-high n m
    pass-high (inner n s ks) m = inner-high n s ks m (pass-high-kids s ks m.kids)

    pass-high-kids : (s : Side) (ks : Children) (m : MemoChildren ks) → let q = pass_children ν γ s ks m in
        HighBy γ q.not_below (memo_high_children ν s ks q.next)
    pass-high-kids s (last t) m = pass-high t m
    pass-high-kids Max (t then ts) m = max-high t ts m (pass-high t m.first) (pass-high-kids Max ts m.rest)
    pass-high-kids Min (t then ts) m = min-high t ts m (pass-high t m.first) (pass-high-kids Min ts m.rest)

  -- what was tried is remembered
  leaf-marked : (n : ℕ) (m : Memo (leaf n)) → (pass ν γ (leaf n) m).next.evaluated ≡ true
  leaf-marked n m =
      cond_cases (λ (r : Pass (leaf n)). r.next.evaluated ≡ true) m.evaluated _ _ (λ e. e) (λ _. refl)

  inner-found : (n : ℕ) (s : Side) (ks : Children) (m : Memo (inner n s ks))
      → (pass ν γ (inner n s ks) m).not_below ≡ true → (pass ν γ (inner n s ks) m).next.not_below ≡ true
  inner-found n s ks m =
      let P : Pass (inner n s ks) → Type 0 = λ r. r.not_below ≡ true → r.next.not_below ≡ true in
      cond_cases P (ltb (memo_high_children ν s ks m.kids) γ) _ _ (λ _ e. absurd (true-not-false e refl))
      (λ _. cond_cases P m.not_below _ _ (λ f _. f) (λ _ e. e))

module _ {t : List ℕ} (wf : WellFormed t) {j γ : ℕ} (inside : j < frames t) {m m' : Memory} {r : Bool}
    (p : Passed t (tree_at t j) γ m m' r) where
  -- a child that was tried
  pub tried-high : HighBy γ r (get_or m'.highs j 0)
  tried-high =
      let e : get_or m'.highs j 0 ≡ memo_high (valuation t) (tree_at t j) (pass_of t γ m (tree_at t j)).next =
      p.right j (in-own t wf j) ∙ sym (read-high (valuation t) _ (marked m'.not_below) (tree_at t j))
      ∙ ap (memo_high (valuation t) (tree_at t j)) p.memo.got in
      rw (p.answer, e) (pass-high (valuation t) γ (tree_at t j) (memo_of m (tree_at t j)))

  pub tried-explored : r ≡ true → Explored t m' j
  tried-explored a = record { leaf-is = at_leaf; inner-is = at_inner }
    where
      at_leaf : child_count t j ≡ 0 → marked m'.evaluated j ≡ true
      at_leaf z =
          let q = subst (λ T. Passed t T γ m m' r) (tree-leaf t wf j inside z) p in
          ap (λ (x : Memo (leaf j)). x.evaluated) q.memo.got
          ∙ leaf-marked (valuation t) γ j (memo_of m (leaf j))

      at_inner : 0 < child_count t j → marked m'.not_below j ≡ true
      at_inner z =
          zero-or-suc (child_count t j) (λ n. absurd (omega arith)) (λ n e.
          let T = inner j (side_of t j) (children_from (tree_at t) (first_child t j) n) in
          let q = subst (λ T. Passed t T γ m m' r) (tree-inner t wf j n inside e) p in
          ap (λ (x : Memo T). x.not_below) q.memo.got
          ∙ inner-found (valuation t) γ j (side_of t j) (children_from (tree_at t) (first_child t j) n) (memo_of m T)
          (sym q.answer ∙ a))

-- the least of the entries is at most each, is the one that no other is below
pub best-least : (f : ℕ → ℕ) (i n j : ℕ) → i ≤ j → j ≤ i + n → best_in Min f i n ≤ f j
unfolding best_in
best-least f i zero j a b = let z : i ≡ j = omega arith in rw z (le_refl (f j))
best-least f i (suc n) j a b =
    elim (ℕ_discrete i j) [
      | yes e ↦ rw e (omega arith)
      | no e ↦ omega (arith, best-least f (i + 1) n j (omega arith) (omega arith))
    ]

best-more : (f : ℕ → ℕ) (i n v : ℕ) → ((k : ℕ) → i ≤ k → k ≤ i + n → v ≤ f k) → v ≤ best_in Min f i n
unfolding best_in
best-more f i zero v h = h i (omega arith) (omega arith)
best-more f i (suc n) v h =
    omega (
      arith,
      h i (omega arith) (omega arith),
      best-more f (i + 1) n v (λ k a b. h k (omega arith) (omega arith)),
    )

pub best-is : (f : ℕ → ℕ) (i n j : ℕ) → i ≤ j → j ≤ i + n → ((k : ℕ) → i ≤ k → k ≤ i + n → f j ≤ f k)
    → best_in Min f i n ≡ f j
best-is f i n j a b h = omega (arith, best-least f i n j a b, best-more f i n (f j) h)

-- the greatest of them is at least each, is the one that no other is above
best-greatest : (f : ℕ → ℕ) (i n j : ℕ) → i ≤ j → j ≤ i + n → f j ≤ best_in Max f i n
unfolding best_in
best-greatest f i zero j a b = let z : i ≡ j = omega arith in rw z (le_refl (f j))
best-greatest f i (suc n) j a b =
    elim (ℕ_discrete i j) [
      | yes e ↦ rw e (omega arith)
      | no e ↦ omega (arith, best-greatest f (i + 1) n j (omega arith) (omega arith))
    ]

best-less : (f : ℕ → ℕ) (i n v : ℕ) → ((k : ℕ) → i ≤ k → k ≤ i + n → f k ≤ v) → best_in Max f i n ≤ v
unfolding best_in
best-less f i zero v h = h i (omega arith) (omega arith)
best-less f i (suc n) v h =
    omega (
      arith,
      h i (omega arith) (omega arith),
      best-less f (i + 1) n v (λ k a b. h k (omega arith) (omega arith)),
    )

-- so it is the greater of two where no other is above that
pub best-of-two : (f : ℕ → ℕ) (i n j l : ℕ) → i ≤ j → j ≤ i + n → i ≤ l → l ≤ i + n
    → ((k : ℕ) → i ≤ k → k ≤ i + n → f k ≤ better Max (f j) (f l)) → better Max (f j) (f l) ≡ best_in Max f i n
best-of-two f i n j l a b c d h =
    omega (arith, best-less f i n (better Max (f j) (f l)) h, best-greatest f i n j a b, best-greatest f i n l c d)
