-- The memory of MTD in closed form: `memo_at` gives what is remembered after the passes with tests of at least c, of a
-- node that is first tried with the test β, from minimax values alone. A node whose value is reached stays as it is;
-- one whose value is not reached has its high below the tests made; and tests above a node's high change nothing.
use Rattle.prelude.proofs.{ℕ, suc, ◌≤◌, ◌<◌, min, max, le_trans, lt_of_lt_of_le, arith, ◌≡◌, refl, sym, ◌∙◌, ap, ap₂}
use Rattle.prelude.proofs.{subst, ◌⊎◌, inl, inr, ⊎_elim, Bool, true, false, ◌&&◌, and-false, leb, leb-true, leb-false}
use Rattle.prelude.proofs.{le-leb, lt-leb}
use Rattle.gametree.specs.declared.Side.{Side}
use Rattle.gametree.specs.declared.Side.TheVariants.{Max, Min}
use Rattle.gametree.specs.{Tree, leaf, inner, Children, last, ◌then◌, greatest, minimax, minimax_children, Scored}
use Rattle.gametree.specs.{ScoredChildren, lower, Memo, MemoChildren, memo_high, memo_high_children, fresh}
use Rattle.gametree.specs.{fresh_children}
use Rattle.gametree_theory.proofs.Mtd.Sound.{minimax-memo_high, minimax_children-memo_high_children}
use Rattle.gametree_theory.proofs.Mtd.Value.{fresh_children-memo_high}

-- the least test with which a first child is tried: under Max no younger sibling may reach more, y being the best of
-- theirs
abbrev pub first_floor : Side → (c β y : ℕ) → ℕ
first_floor Max c β y = max c (min β y)
first_floor Min c β y = c

-- and with which its younger siblings are: under Max more than its own value v
abbrev pub rest_floor : Side → (c v : ℕ) → ℕ
rest_floor Max c v = max c (suc v)
rest_floor Min c v = c

-- the memory
abbrev mutual
  pub memo_at : (ℕ → ℕ) → (c β : ℕ) → (t : Tree) → Memo t
  memo_at ν c β (leaf n) = record { evaluated = leb c β }
  memo_at ν c β (inner n s ks) =
      record { not_below = leb c β && leb c (minimax_children ν s ks); kids = memo_at_children ν s c β ks }

  pub memo_at_children : (ℕ → ℕ) → Side → (c β : ℕ) → (ks : Children) → MemoChildren ks
  memo_at_children ν s c β (last t) = memo_at ν c β t
  memo_at_children ν s c β (t then ts) =
      record {
        first = memo_at ν (first_floor s c β (minimax_children ν s ts)) β t;
        rest = memo_at_children ν s (rest_floor s c (minimax ν t)) (lower s β (minimax ν t)) ts;
      }

-- a number is below another, or not
pub less-or-not : (a b : ℕ) → (a < b) ⊎ (b ≤ a)
less-or-not a b = go (leb b a) refl
  where
    go : (t : Bool) → leb b a ≡ t → (a < b) ⊎ (b ≤ a)
    go true e = inr (leb-true b a e)
    go false e = inl (leb-false b a e)

-- two memories of children are the same if their parts are
pub kids-path : (t : Tree) (ts : Children) {a b : Memo t} {x y : MemoChildren ts} → a ≡ b → x ≡ y
    → ◌≡◌ {A = MemoChildren (t then ts)} (record { first = a; rest = x }) (record { first = b; rest = y })
kids-path t ts p q = ap₂ {C = MemoChildren (t then ts)} (λ x y. record { first = x; rest = y }) p q

-- so are two of an inner node
pub inner-path : (n : ℕ) (s : Side) (ks : Children) {a b : Bool} {x y : MemoChildren ks} → a ≡ b → x ≡ y
    → ◌≡◌ {A = Memo (inner n s ks)} (record { not_below = a; kids = x }) (record { not_below = b; kids = y })
inner-path n s ks p q = ap₂ {C = Memo (inner n s ks)} (λ x y. record { not_below = x; kids = y }) p q

-- NODES THAT ARE NOT TRIED

-- where the first test is below the floor, so are those of the children
floors-above : (s : Side) (c β y v : ℕ) → β < c → (β < first_floor s c β y) × (lower s β v < rest_floor s c v)
floors-above Max c β y v h = omega arith
floors-above Min c β y v h = omega arith

mutual
  -- a node whose first test is below the floor is untouched
  pub at-fresh : (ν : ℕ → ℕ) (c β : ℕ) (t : Tree) → β < c → memo_at ν c β t ≡ fresh t
  at-fresh ν c β (leaf n) h = rw (lt-leb c β h) refl
  at-fresh ν c β (inner n s ks) h = rw (lt-leb c β h, at_children-fresh ν s c β ks h) refl

  pub at_children-fresh : (ν : ℕ → ℕ) (s : Side) (c β : ℕ) (ks : Children) → β < c
      → memo_at_children ν s c β ks ≡ fresh_children ks
  at_children-fresh ν s c β (last t) h = at-fresh ν c β t h
  at_children-fresh ν s c β (t then ts) h =
      let f = floors-above s c β (minimax_children ν s ts) (minimax ν t) h in
      kids-path t ts (at-fresh ν _ β t f.0) (at_children-fresh ν s _ _ ts f.1)

-- NODES WHOSE VALUE IS REACHED

-- a floor under Max either does not depend on c, or lies where the value is reached
max-first : (c d β u y : ℕ) → c ≤ d → d ≤ β → d ≤ max u y
    → (max c (min β y) ≡ max d (min β y)) ⊎ (max d (min β y) ≤ u)
max-first c d β u y h k l = ⊎_elim (λ q. inr (omega arith)) (λ q. inl (omega arith)) (less-or-not (min β y) d)

max-rest : (c d β u y : ℕ) → c ≤ d → d ≤ β → d ≤ max u y
    → (max c (suc u) ≡ max d (suc u)) ⊎ ((max d (suc u) ≤ β) × (max d (suc u) ≤ y))
max-rest c d β u y h k l = ⊎_elim (λ q. inr (omega arith)) (λ q. inl (omega arith)) (less-or-not (suc u) d)

-- the flag of a node whose value v is reached with the test d
reached-flag : (c d β v : ℕ) → c ≤ d → d ≤ β → d ≤ v → leb c β && leb c v ≡ leb d β && leb d v
reached-flag c d β v h k l = rw (le-leb c β (le_trans h k), le-leb d β k, le-leb c v (le_trans h l), le-leb d v l) refl

mutual
  -- once its value is reached a node stays as it is
  pub frozen : (ν : ℕ → ℕ) (c d β : ℕ) (t : Tree) → c ≤ d → d ≤ β → d ≤ minimax ν t → memo_at ν c β t ≡ memo_at ν d β t
  frozen ν c d β (leaf n) h k l = rw (le-leb c β (le_trans h k), le-leb d β k) refl
  frozen ν c d β (inner n s ks) h k l =
      inner-path n s ks (reached-flag c d β (minimax_children ν s ks) h k l) (frozen_children ν s c d β ks h k l)

  frozen_children : (ν : ℕ → ℕ) (s : Side) (c d β : ℕ) (ks : Children) → c ≤ d → d ≤ β → d ≤ minimax_children ν s ks
      → memo_at_children ν s c β ks ≡ memo_at_children ν s d β ks
  frozen_children ν s c d β (last t) h k l = frozen ν c d β t h k l
  frozen_children ν Max c d β (t then ts) h k l =
      let u = minimax ν t in
      let y = minimax_children ν Max ts in
      kids-path t ts
      (⊎_elim (λ p. ap (λ x. memo_at ν x β t) p)
      (λ q. frozen ν (max c (min β y)) (max d (min β y)) β t (omega arith) (omega arith) q) (max-first c d β u y h k l))
      (⊎_elim (λ p. ap (λ x. memo_at_children ν Max x β ts) p)
      (λ q. frozen_children ν Max (max c (suc u)) (max d (suc u)) β ts (omega arith) q.0 q.1)
      (max-rest c d β u y h k l))
  frozen_children ν Min c d β (t then ts) h k l =
      kids-path t ts (frozen ν c d β t h k (omega arith))
      (frozen_children ν Min c d (min β (minimax ν t)) ts h (omega arith) (omega arith))

-- NODES WHOSE VALUE IS NOT REACHED

mutual
  -- a node that was tried and whose value is not reached has its high below the tests made
  pub at-below : (ν : ℕ → ℕ) (c β : ℕ) (t : Tree) → c ≤ β → minimax ν t < c → memo_high ν t (memo_at ν c β t) < c
  at-below ν c β (leaf n) h l = rw (le-leb c β h) l
  at-below ν c β (inner n s ks) h l = at_children-below ν s c β ks h l

  at_children-below : (ν : ℕ → ℕ) (s : Side) (c β : ℕ) (ks : Children) → c ≤ β → minimax_children ν s ks < c
      → memo_high_children ν s ks (memo_at_children ν s c β ks) < c
  at_children-below ν s c β (last t) h l = at-below ν c β t h l
  at_children-below ν Max c β (t then ts) h l =
      let e : c ≡ max c (min β (minimax_children ν Max ts)) = omega arith in
      let f : c ≡ max c (suc (minimax ν t)) = omega arith in
      let a = subst (λ x. memo_high ν t (memo_at ν x β t) < c) e (at-below ν c β t h (omega arith)) in
      let b =
      subst (λ x. memo_high_children ν Max ts (memo_at_children ν Max x β ts) < c) f
      (at_children-below ν Max c β ts h (omega arith)) in
      omega arith
  at_children-below ν Min c β (t then ts) h l =
      ⊎_elim (λ q. let a = at-below ν c β t h q in omega arith)
      (λ q. let b = at_children-below ν Min c (min β (minimax ν t)) ts (omega arith) (omega arith) in omega arith)
      (less-or-not (minimax ν t) c)

-- the flag of a node whose value v is not reached with the test d
unreached-flag : (c d β v : ℕ) → v < d → d ≤ c → leb d β && leb d v ≡ leb c β && leb c v
unreached-flag c d β v h k =
    rw (lt-leb d v h, lt-leb c v (lt_of_lt_of_le h k)) (and-false (leb d β) ∙ sym (and-false (leb c β)))

mutual
  -- tests above a node's high change nothing
  pub at_same : (ν : ℕ → ℕ) (c d β : ℕ) (t : Tree) → Scored ν t → d ≤ c → d ≤ greatest
      → memo_high ν t (memo_at ν c β t) < d → memo_at ν d β t ≡ memo_at ν c β t
  at_same ν c d β (leaf n) i h g l =
      ⊎_elim (λ q. absurd (let z : greatest < d = rw (lt-leb c β q) at l in omega arith))
      (λ q. rw (le-leb c β q, le-leb d β (le_trans h q)) refl)
      (less-or-not β c)
  at_same ν c d β (inner n s ks) i h g l =
      let v = minimax-memo_high ν (inner n s ks) (memo_at ν c β (inner n s ks)) i in
      inner-path n s ks (unreached-flag c d β _ (omega arith) h) (at_children-same ν s c d β ks i h g l)

  at_children-same : (ν : ℕ → ℕ) (s : Side) (c d β : ℕ) (ks : Children) → ScoredChildren ν ks → d ≤ c → d ≤ greatest
      → memo_high_children ν s ks (memo_at_children ν s c β ks) < d
      → memo_at_children ν s d β ks ≡ memo_at_children ν s c β ks
  at_children-same ν s c d β (last t) i h g l = at_same ν c d β t i h g l
  at_children-same ν Max c d β (t then ts) i h g l =
      let y = minimax_children ν Max ts in
      let u = minimax ν t in
      let m = memo_at_children ν Max c β (t then ts) in
      let a = minimax-memo_high ν t m.first i.0 in
      let b = minimax_children-memo_high_children ν Max ts m.rest i.1 in
      let e : max c (min β y) ≡ c = omega arith in
      let f : max c (suc u) ≡ c = omega arith in
      let j : max d (min β y) ≡ d = omega arith in
      let k : max d (suc u) ≡ d = omega arith in
      let x : memo_high ν t (memo_at ν c β t) < d = subst (λ z. memo_high ν t (memo_at ν z β t) < d) e (omega arith) in
      let w : memo_high_children ν Max ts (memo_at_children ν Max c β ts) < d =
      subst (λ z. memo_high_children ν Max ts (memo_at_children ν Max z β ts) < d) f (omega arith) in
      kids-path t ts (ap (λ z. memo_at ν z β t) j ∙ at_same ν c d β t i.0 h g x ∙ sym (ap (λ z. memo_at ν z β t) e))
      (ap (λ z. memo_at_children ν Max z β ts) k ∙ at_children-same ν Max c d β ts i.1 h g w ∙ sym
      (ap (λ z. memo_at_children ν Max z β ts) f))
  at_children-same ν Min c d β (t then ts) i h g l =
      let u = minimax ν t in
      ⊎_elim
      (λ q.
      let a = minimax-memo_high ν t (memo_at ν c β t) i.0 in
      kids-path t ts (at_same ν c d β t i.0 h g q)
      (at_children-fresh ν Min d (min β u) ts (omega arith) ∙ sym
      (at_children-fresh ν Min c (min β u) ts (omega arith))))
      (λ q.
      let r : memo_high_children ν Min ts (memo_at_children ν Min c (min β u) ts) < d = omega arith in
      kids-path t ts
      (⊎_elim
      (λ p.
      let x = ap (memo_high_children ν Min ts) (at_children-fresh ν Min c (min β u) ts p)
      ∙ fresh_children-memo_high ν Min ts in
      absurd (omega arith))
      (λ p. frozen ν d c β t h (omega arith) (omega arith)) (less-or-not (min β u) c))
      (at_children-same ν Min c d (min β u) ts i.1 h g r))
      (less-or-not (memo_high ν t (memo_at ν c β t)) d)
