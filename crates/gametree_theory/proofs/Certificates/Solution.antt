-- Solution trees: their value is a bound of the minimax value, and two of equal value certify it.
use Rattle.prelude.proofs.{ℕ, suc, ◌+◌, ◌≤◌, le_refl, le_trans, arith, ◌≡◌, refl, ◌⊎◌, inl, inr, ⊎_elim, Bool, true}
use Rattle.prelude.proofs.{false, cond}
use Rattle.gametree.specs.declared.Side.{Side}
use Rattle.gametree.specs.declared.Side.TheVariants.{Max, Min}
use Rattle.gametree.specs.{Tree, leaf, inner, Children, last, ◌then◌, better, minimax, minimax_children, number, Each}
use Rattle.gametree.specs.{NoneOf, OneOf, Rule, RulesChildren, SolutionTree, worst, solution_value, Certifies, same}
use Rattle.gametree_theory.proofs.Certificates.Leaves.{best_leaf, best_leaf_children, value-best}
use Rattle.gametree_theory.proofs.Certificates.Counting.{kid_count, members, required}
use Rattle.lists.proofs.Choice.{cond_cases, true-not-false}

-- b is at least as good as a for the side
abbrev pub Under : Side → ℕ → ℕ → Type 0
Under Max a b = a ≤ b
Under Min a b = b ≤ a

-- each score is at least as good as itself
pub under-refl : (p : Side) (a : ℕ) → Under p a a
under-refl Max a = le_refl a
under-refl Min a = le_refl a

-- c is at least as good as a if b is and c is at least as good as b
pub under-trans : (p : Side) (a b c : ℕ) → Under p a b → Under p b c → Under p a c
under-trans Max a b c h k = le_trans h k
under-trans Min a b c h k = le_trans k h

-- a side's choice grows, for that side, with what it chooses from
under-better : (p : Side) (a b c d : ℕ) → Under p a c → Under p b d → Under p (better p a b) (better p c d)
under-better Max a b c d h k = omega arith
under-better Min a b c d h k = omega arith

-- a side's choice is at least as good for it as each of the two
under-own : (p : Side) (a b : ℕ) → Under p a (better p a b) × Under p b (better p a b)
under-own Max a b = omega arith
under-own Min a b = omega arith

-- what bounds it bounds each of the two
pub under-both : (p : Side) (a b x : ℕ) → Under p (better p a b) x → Under p a x × Under p b x
under-both Max a b x h = omega arith
under-both Min a b x h = omega arith

-- and what bounds each of the two bounds it
pub both_under : (p : Side) (a b x : ℕ) → Under p a x → Under p b x → Under p (better p a b) x
both_under Max a b x h k = omega arith
both_under Min a b x h k = omega arith

-- and for the other side at most
under-other : (p q : Side) → same p q ≡ false → (a b : ℕ) → Under p (better q a b) a × Under p (better q a b) b
under-other Max Max e a b = absurd (true-not-false refl e)
under-other Max Min e a b = omega arith
under-other Min Max e a b = omega arith
under-other Min Min e a b = absurd (true-not-false refl e)

-- the best leaf of a solution tree of side p is at least as good for p as the minimax value
mutual
  best-bound : (p : Side) (ν : ℕ → ℕ) (g : ℕ → Bool) (t : Tree) → SolutionTree p g t
      → Under p (minimax ν t) (best_leaf p ν g t)
  best-bound p ν g (leaf n) r = rw r.0 (under-refl p (ν n))
  best-bound Max ν g (inner n Max ks) r = each-bound Max ν g ks r.1.1 (rw r.0 at r.1.0)
  best-bound Max ν g (inner n Min ks) r = one-bound Max Min refl ν g ks r.1.1 (rw r.0 at r.1.0)
  best-bound Min ν g (inner n Max ks) r = one-bound Min Max refl ν g ks r.1.1 (rw r.0 at r.1.0)
  best-bound Min ν g (inner n Min ks) r = each-bound Min ν g ks r.1.1 (rw r.0 at r.1.0)

  each-bound : (p : Side) (ν : ℕ → ℕ) (g : ℕ → Bool) (ks : Children) → RulesChildren p g ks → Each g ks
      → Under p (minimax_children ν p ks) (best_leaf_children p ν g ks)
  each-bound p ν g (last t) r m = best-bound p ν g t (m, r)
  each-bound p ν g (t then ts) r m =
      under-better p _ _ _ _ (best-bound p ν g t (m.0, r.0)) (each-bound p ν g ts r.1 m.1)

  one-bound : (p q : Side) → same p q ≡ false → (ν : ℕ → ℕ) (g : ℕ → Bool) (ks : Children) → RulesChildren p g ks
      → OneOf g ks
      → Under p (minimax_children ν q ks) (best_leaf_children p ν g ks)
  one-bound p q e ν g (last t) r m = best-bound p ν g t (m, r)
  one-bound p q e ν g (t then ts) r (inl m) =
      let a = minimax ν t in
      let c = best_leaf p ν g t in
      under-trans p _ a _ (under-other p q e a _).0
      (under-trans p a c _ (best-bound p ν g t (m.0, r.0)) (under-own p c _).0)
  one-bound p q e ν g (t then ts) r (inr m) =
      let b = minimax_children ν q ts in
      let d = best_leaf_children p ν g ts in
      under-trans p _ b _ (under-other p q e _ b).1
      (under-trans p b d _ (one-bound p q e ν g ts r.1 m.1) (under-own p _ d).1)

-- and so is the tree's value
pub solution-bound : (p : Side) (ν : ℕ → ℕ) (g : ℕ → Bool) (t : Tree) → SolutionTree p g t
    → Under p (minimax ν t) (solution_value p ν g t)
solution-bound p ν g t r =
    rw (value-best p ν g t)
    (under-trans p _ (best_leaf p ν g t) _ (best-bound p ν g t r) (under-own p (best_leaf p ν g t) (worst p)).0)

-- what a certificate certifies is the minimax value
pub certified : (ν : ℕ → ℕ) (t : Tree) (g h : ℕ → Bool) (v : ℕ) → Certifies ν t g h v → v ≡ minimax ν t
certified ν t g h v c =
    omega (
      arith,
      c.max_value,
      c.min_value,
      solution-bound Max ν g t c.max_tree,
      solution-bound Min ν h t c.min_tree,
    )

members≤ : (g : ℕ → Bool) (ks : Children) → members g ks ≤ kid_count ks
members≤ g (last t) = cond_cases (λ x. x ≤ 1) (g (number t)) 1 0 (λ _. omega arith) (λ _. omega arith)
members≤ g (t then ts) =
    let h = members≤ g ts in
    cond_cases (λ x. x + members g ts ≤ suc (kid_count ts)) (g (number t)) 1 0 (λ _. omega arith) (λ _. omega arith)

-- a set's count of children says what a rule says
none-count : (g : ℕ → Bool) (ks : Children) → NoneOf g ks → members g ks ≡ 0
none-count g (last t) h = rw h refl
none-count g (t then ts) h = rw (h.0, none-count g ts h.1) refl

each-count : (g : ℕ → Bool) (ks : Children) → Each g ks → members g ks ≡ kid_count ks
each-count g (last t) h = rw h refl
each-count g (t then ts) h = rw (h.0, each-count g ts h.1) (omega arith)

one-count : (g : ℕ → Bool) (ks : Children) → OneOf g ks → members g ks ≡ 1
one-count g (last t) h = rw h refl
one-count g (t then ts) (inl h) = rw (h.0, none-count g ts h.1) refl
one-count g (t then ts) (inr h) = rw (h.0, one-count g ts h.1) refl

none-split : (b : Bool) (m : ℕ) → cond b 1 0 + m ≡ 0 → (b ≡ false) × (m ≡ 0)
none-split true m e = absurd (omega arith)
none-split false m e = (refl, omega arith)

count_none : (g : ℕ → Bool) (ks : Children) → members g ks ≡ 0 → NoneOf g ks
count_none g (last t) e = (none-split (g (number t)) 0 (omega arith)).0
count_none g (t then ts) e = let k = none-split (g (number t)) (members g ts) e in (k.0, count_none g ts k.1)

each-split : (b : Bool) (m s : ℕ) → cond b 1 0 + m ≡ suc s → m ≤ s → (b ≡ true) × (m ≡ s)
each-split true m s e h = (refl, omega arith)
each-split false m s e h = absurd (omega arith)

count-each : (g : ℕ → Bool) (ks : Children) → members g ks ≡ kid_count ks → Each g ks
count-each g (last t) e = (each-split (g (number t)) 0 0 (omega arith) (omega arith)).0
count-each g (t then ts) e =
    let k = each-split (g (number t)) (members g ts) (kid_count ts) e (members≤ g ts) in
    (k.0, count-each g ts k.1)

one_split : (b : Bool) (m : ℕ) → cond b 1 0 + m ≡ 1 → ((b ≡ true) × (m ≡ 0)) ⊎ ((b ≡ false) × (m ≡ 1))
one_split true m e = inl (refl, omega arith)
one_split false m e = inr (refl, omega arith)

count-one : (g : ℕ → Bool) (ks : Children) → members g ks ≡ 1 → OneOf g ks
count-one g (last t) e = (each-split (g (number t)) 0 0 (omega arith) (omega arith)).0
count-one g (t then ts) e =
    ⊎_elim (λ k. inl (k.0, count_none g ts k.1)) (λ k. inr (k.0, count-one g ts k.1))
    (one_split (g (number t)) (members g ts) e)

-- the rule of a node gives the count
pub rule-counted : (p q : Side) (b : Bool) (g : ℕ → Bool) (ks : Children) → Rule p q b g ks
    → members g ks ≡ required p q b ks
rule-counted p q false g ks r = none-count g ks r
rule-counted Max Max true g ks r = each-count g ks r
rule-counted Max Min true g ks r = one-count g ks r
rule-counted Min Max true g ks r = one-count g ks r
rule-counted Min Min true g ks r = each-count g ks r

-- and the count the rule
pub counted-rule : (p q : Side) (b : Bool) (g : ℕ → Bool) (ks : Children) → members g ks ≡ required p q b ks
    → Rule p q b g ks
counted-rule p q false g ks e = count_none g ks e
counted-rule Max Max true g ks e = count-each g ks e
counted-rule Max Min true g ks e = count-one g ks e
counted-rule Min Max true g ks e = count-one g ks e
counted-rule Min Min true g ks e = count-each g ks e
