-- The rules of a side's tree hold at each node of the table exactly if its flags are a solution tree of the table's
-- tree.
use Rattle.prelude.proofs.{ℕ, zero, suc, ◌+◌, ◌≤◌, ◌<◌, arith, ◌≡◌, refl, sym, ap₂, ◌∙◌, Bool, true, false, cond, List}
use Rattle.prelude.proofs.{eq-eqb, eqb-true}
use Rattle.gametree.specs.declared.Side.{Side}
use Rattle.gametree.specs.{Tree, Children, Rule, Rules, RulesChildren, SolutionTree}
use Rattle.gametree_theory.proofs.Certificates.Counting.{kid_count, members, required}
use Rattle.lists.specs.{count_from}
use Rattle.lists.proofs.Choice.{and_both}
use Rattle.lists.proofs.Counting.{count-first}
use Rattle.gametree_theory.proofs.Theorems.{rule-counting}
use Rattle.table.specs.{frames, first_child, child_count, side_of, children_from, tree_at, tree, WellFormed}
use Rattle.table.proofs.Parents.{bottom-up}
use Rattle.table.proofs.Trees.{kids-count, zero-or-suc, tree-leaf, tree-inner, tree-number}
use Rattle.certificate_check.specs.{member, required_of, root_member, rule_holds}
use Rattle.certificate_check.proofs.Subtrees.{Inherited, each-subtree}

module _ (p : Side) (t flags : List ℕ) where
  -- the children in the tree, counted over the table
  members-kids : (i n : ℕ)
      → members (member p flags) (children_from (tree_at t) i n) ≡ count_from (member p flags) i (suc n)
  unfolding children_from count_from
  members-kids i zero = rw (tree-number t i) (omega (arith, count-first (member p flags) i 0))
  members-kids i (suc n) =
      ap₂ (λ k m. cond (member p flags k) 1 0 + m) (tree-number t i) (members-kids (i + 1) n)
      ∙ sym (count-first (member p flags) i (suc n))

required-same : (p q : Side) (b : Bool) (ks : Children) (n : ℕ) → kid_count ks ≡ suc n
    → required p q b ks ≡ required_of p q b (suc n)
required-same p q true ks n e = rw e
required-same p q false ks n e = refl

rules-kids : (p : Side) (g : ℕ → Bool) (h : ℕ → Tree) (i n : ℕ) → ((k : ℕ) → i ≤ k → k ≤ i + n → Rules p g (h k))
    → RulesChildren p g (children_from h i n)
unfolding children_from
rules-kids p g h i zero f = f i (omega arith) (omega arith)
rules-kids p g h i (suc n) f =
    (f i (omega arith) (omega arith), rules-kids p g h (i + 1) n (λ k a b. f k (omega arith) (omega arith)))

rules-inherited : (p : Side) (g : ℕ → Bool) → Inherited (Rules p g) (RulesChildren p g)
rules-inherited p g = record { of_inner = λ n q ks x. x.1; of_last = λ t x. x; of_more = λ t ts x. x }

-- the root's part of a rule
pub root-member : (p : Side) (flags : List ℕ) (i : ℕ) → (i ≡ 0 → member p flags i ≡ true) → root_member p flags i ≡ true
root-member p flags zero f = f refl
root-member p flags (suc i) f = refl

-- of a leaf that is not the root nothing is asked
pub leaf-rule : (p : Side) (t flags : List ℕ) (i : ℕ) → 0 < i → child_count t i ≡ 0 → rule_holds p t flags i ≡ true
unfolding rule_holds count_from
leaf-rule p t flags zero h e = absurd (omega arith)
leaf-rule p t flags (suc i) h e = rw e

module _ (p : Side) (t flags : List ℕ) (wf : WellFormed t) where
  -- as many children of node i are in the tree as required
  abbrev Counted : ℕ → Type 0
  Counted i =
      count_from (member p flags) (first_child t i) (child_count t i)
      ≡ required_of p (side_of t i) (member p flags i) (child_count t i)

  -- the rule of an inner node, over the table and over the tree
  rule-count : (i n : ℕ) → child_count t i ≡ suc n
      → Rule p (side_of t i) (member p flags i) (member p flags) (children_from (tree_at t) (first_child t i) n)
      → Counted i
  rule-count i n e r =
      let ks = children_from (tree_at t) (first_child t i) n in
      rw e
      (sym (members-kids p t flags (first_child t i) n)
      ∙ (rule-counting p (side_of t i) (member p flags i) (member p flags) ks).0 r
      ∙ required-same p (side_of t i) (member p flags i) ks n (kids-count (tree_at t) (first_child t i) n))

  count-rule : (i n : ℕ) → child_count t i ≡ suc n
      → Counted i
      → Rule p (side_of t i) (member p flags i) (member p flags) (children_from (tree_at t) (first_child t i) n)
  count-rule i n e c =
      let ks = children_from (tree_at t) (first_child t i) n in
      (rule-counting p (side_of t i) (member p flags i) (member p flags) ks).1
      (members-kids p t flags (first_child t i) n ∙ rw e at c
      ∙ sym (required-same p (side_of t i) (member p flags i) ks n (kids-count (tree_at t) (first_child t i) n)))

  -- flags whose rule holds at each node are a solution tree
  pub rules-solve : ((i : ℕ) → i < frames t → rule_holds p t flags i ≡ true) → SolutionTree p (member p flags) (tree t)
  unfolding rule_holds
  rules-solve f = (
    rw (tree-number t 0) (and_both (member p flags 0) _ (f 0 wf.non_empty)).0,
    bottom-up t wf (λ i. Rules p (member p flags) (tree_at t i)) (λ i h g.
        zero-or-suc (child_count t i) (λ e. rw (tree-leaf t wf i h e) tt) (λ n e.
        rw (tree-inner t wf i n h e) (
          count-rule i n e (eqb-true _ _ (and_both (root_member p flags i) _ (f i h)).1),
          rules-kids p (member p flags) (tree_at t) (first_child t i) n (λ k a b.
              g k (record { from = a; to = omega arith })),
        ))) 0 wf.non_empty,
  )

  -- and the rule of a solution tree holds at each node
  pub solved-rules : SolutionTree p (member p flags) (tree t) → (i : ℕ) → i < frames t → rule_holds p t flags i ≡ true
  unfolding rule_holds count_from
  solved-rules s i h =
      let x = each-subtree (rules-inherited p (member p flags)) t wf s.1 i h in
      rw (root-member p flags i (λ z. rw z (rw (tree-number t 0) at s.0)))
      (eq-eqb _ _ (zero-or-suc (child_count t i) (λ e. rw e refl)
      (λ n e. rule-count i n e (rw (tree-inner t wf i n h e) at x).0)))
