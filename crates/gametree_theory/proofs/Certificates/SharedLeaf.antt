-- A max and a min solution tree of one tree share exactly one leaf: of a node in both exactly one child is in both, of
-- any other node none. So the leaves of a pair are those of both trees together, less one.
use Rattle.prelude.proofs.{ℕ, ◌+◌, arith, ◌≡◌, refl, ap₂, ◌∙◌, Bool, true, false, cond, ◌&&◌, ◌||◌, and-true, and-false}
use Rattle.gametree.specs.declared.Side.{Side}
use Rattle.gametree.specs.declared.Side.TheVariants.{Max, Min}
use Rattle.gametree.specs.{Tree, leaf, inner, Children, last, ◌then◌, number, leaf_count, leaf_count_children, Each}
use Rattle.gametree.specs.{NoneOf, Rule, Rules, RulesChildren, SolutionTree, pair_leaves}
use Rattle.gametree_theory.proofs.Certificates.Leaves.{pair-count}
use Rattle.gametree_theory.proofs.Certificates.Counting.{members}
use Rattle.gametree_theory.proofs.Certificates.Solution.{rule-counted}

-- in both sets
abbrev both : (g h : ℕ → Bool) → ℕ → Bool
both g h n = g n && h n

either-or-both : (a b : Bool) → cond (a || b) 1 0 + cond (a && b) 1 0 ≡ cond a 1 0 + cond b 1 0
either-or-both true true = refl
either-or-both true false = refl
either-or-both false true = refl
either-or-both false false = refl

-- the leaves in one of two sets and those in both are as many as the leaves of each
mutual
  pair-both : (g h : ℕ → Bool) (t : Tree)
      → leaf_count (λ n. g n || h n) t + leaf_count (both g h) t ≡ leaf_count g t + leaf_count h t
  pair-both g h (leaf n) = either-or-both (g n) (h n)
  pair-both g h (inner n s ks) = pair_children-both g h ks

  pair_children-both : (g h : ℕ → Bool) (ks : Children)
      → leaf_count_children (λ n. g n || h n) ks + leaf_count_children (both g h) ks
      ≡ leaf_count_children g ks + leaf_count_children h ks
  pair_children-both g h (last t) = pair-both g h t
  pair_children-both g h (t then ts) = omega (arith, pair-both g h t, pair_children-both g h ts)

-- where each child is in the one set, those in both are those in the other; where none is, none is in both
each_left : (g h : ℕ → Bool) (ks : Children) → Each g ks → members (both g h) ks ≡ members h ks
each_left g h (last t) e = rw e
each_left g h (t then ts) e = rw (e.0, each_left g h ts e.1)

each_right : (g h : ℕ → Bool) (ks : Children) → Each h ks → members (both g h) ks ≡ members g ks
each_right g h (last t) e = rw (e, and-true (g (number t)))
each_right g h (t then ts) e = rw (e.0, and-true (g (number t)), each_right g h ts e.1)

none_left : (g h : ℕ → Bool) (ks : Children) → NoneOf g ks → members (both g h) ks ≡ 0
none_left g h (last t) e = rw e
none_left g h (t then ts) e = rw (e.0, none_left g h ts e.1)

none_right : (g h : ℕ → Bool) (ks : Children) → NoneOf h ks → members (both g h) ks ≡ 0
none_right g h (last t) e = rw (e, and-false (g (number t)))
none_right g h (t then ts) e = rw (e.0, and-false (g (number t)), none_right g h ts e.1)

-- of a node in both trees one child is in both, of another none
rule-both : (q : Side) (a b : Bool) (g h : ℕ → Bool) (ks : Children) → Rule Max q a g ks → Rule Min q b h ks
    → members (both g h) ks ≡ cond (a && b) 1 0
rule-both Max true true g h ks x y = each_left g h ks x ∙ rule-counted Min Max true h ks y
rule-both Min true true g h ks x y = each_right g h ks y ∙ rule-counted Max Min true g ks x
rule-both q true false g h ks x y = none_right g h ks y
rule-both q false b g h ks x y = none_left g h ks x

mutual
  both-leaves : (g h : ℕ → Bool) (t : Tree) → Rules Max g t → Rules Min h t
      → leaf_count (both g h) t ≡ cond (both g h (number t)) 1 0
  both-leaves g h (leaf n) x y = refl
  both-leaves g h (inner n q ks) x y =
      both_children-leaves g h ks x.1 y.1 ∙ rule-both q (g n) (h n) g h ks x.0 y.0

  both_children-leaves : (g h : ℕ → Bool) (ks : Children) → RulesChildren Max g ks → RulesChildren Min h ks
      → leaf_count_children (both g h) ks ≡ members (both g h) ks
  both_children-leaves g h (last t) x y = both-leaves g h t x y
  both_children-leaves g h (t then ts) x y = ap₂ ◌+◌ (both-leaves g h t x.0 y.0)
      (both_children-leaves g h ts x.1 y.1)

-- a pair's leaves, the shared one counted once
pub pair-shares-one : (g h : ℕ → Bool) (t : Tree) → SolutionTree Max g t → SolutionTree Min h t
    → pair_leaves g h t + 1 ≡ leaf_count g t + leaf_count h t
pair-shares-one g h t x y =
    let e : leaf_count (both g h) t ≡ 1 = both-leaves g h t x.1 y.1 ∙ rw (x.0, y.0) in
    omega (arith, pair-count g h t, pair-both g h t)
