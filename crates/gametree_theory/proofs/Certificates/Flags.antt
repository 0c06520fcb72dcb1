-- Where the bounds of the evaluated leaves meet, the flags read off them are a certificate made of evaluated leaves.
use Rattle.prelude.proofs.{ℕ, ◌+◌, ◌≤◌, le_refl, arith, ◌≡◌, refl, sym, ◌∙◌, ap, ap₂, Bool, true, false, cond}
use Rattle.gametree.specs.declared.Side.{Side}
use Rattle.gametree.specs.declared.Side.TheVariants.{Max, Min}
use Rattle.gametree.specs.{Tree, leaf, inner, Children, last, ◌then◌, greatest, better, other, minimax}
use Rattle.gametree.specs.{EveryLeafChildren, Score, Proper, known, Decided, Certifies, SolutionTree, worst}
use Rattle.gametree.specs.{solution_value, inside, same, solution_of, flag, LeavesIn}
use Rattle.gametree_theory.proofs.Minimax.Bounds.{every_map, minimax-score, known-capped}
use Rattle.gametree_theory.proofs.Certificates.Leaves.{best_leaf, best_leaf_children, value-best}
use Rattle.gametree_theory.proofs.Certificates.ReadOff.{ReadOff, Finite, read-solution, fits}

-- the flags read off the bounds of the evaluated leaves E certify the minimax value, and flag evaluated leaves only
pub record FlagsCertify (ν : ℕ → ℕ) (E : ℕ → Bool) (t : Tree) : Type 0 where
  pub certifies : Certifies ν t (λ k. inside Max (flag ν E t k)) (λ k. inside Min (flag ν E t k)) (minimax ν t)
  pub max_leaves : LeavesIn (λ k. inside Max (flag ν E t k)) E t
  pub min_leaves : LeavesIn (λ k. inside Min (flag ν E t k)) E t

-- a side's bound: where it is finite, at a leaf and at a tree with real scores; and where the bounds meet
finite-known : (p : Side) (b : Bool) (v : ℕ) → Finite p (cond b v (worst (other p))) → b ≡ true
finite-known p true v h = refl
finite-known Max false v h = absurd (omega arith)
finite-known Min false v h = absurd (omega arith)

score-finite : (p : Side) (v : ℕ) → Score v → Finite p v
score-finite Max v h = h.1
score-finite Min v h = h.0

other-worst≤ : (p : Side) → worst (other p) ≤ greatest
other-worst≤ Max = le_refl greatest
other-worst≤ Min = omega arith

decided-fill : (p : Side) (ν : ℕ → ℕ) (E : ℕ → Bool) (t : Tree) → Decided ν E t
    → minimax (known ν E (worst (other p))) t ≡ minimax ν t
decided-fill Max ν E t d = d.high_is
decided-fill Min ν E t d = d.low_is

-- an evaluated leaf's score is known
known-leaf : (b c : Bool) (v x w : ℕ) → (b ≡ true → c ≡ true) → cond b (cond c v x) w ≡ cond b v w
known-leaf true c v x w f = rw (f refl) refl
known-leaf false c v x w f = refl

-- the value of a solution tree of evaluated leaves does not depend on the others
mutual
  known-solution : (p : Side) (ν : ℕ → ℕ) (E : ℕ → Bool) (x : ℕ) (g : ℕ → Bool) (t : Tree) → LeavesIn g E t
      → best_leaf p (known ν E x) g t ≡ best_leaf p ν g t
  known-solution p ν E x g (leaf n) h = known-leaf (g n) (E n) (ν n) x (worst p) h
  known-solution p ν E x g (inner n q ks) h = known-solution_children p ν E x g ks h

  known-solution_children : (p : Side) (ν : ℕ → ℕ) (E : ℕ → Bool) (x : ℕ) (g : ℕ → Bool) (ks : Children)
      → EveryLeafChildren (λ n. g n ≡ true → E n ≡ true) ks
      → best_leaf_children p (known ν E x) g ks ≡ best_leaf_children p ν g ks
  known-solution_children p ν E x g (last t) h = known-solution p ν E x g t h
  known-solution_children p ν E x g (t then ts) h =
      ap₂ (better p) (known-solution p ν E x g t h.0) (known-solution_children p ν E x g ts h.1)

-- a side's tree that is read off its bounds
pub read-bounds : (p : Side) (ν : ℕ → ℕ) (E : ℕ → Bool) (t : Tree) → Proper ν t → Decided ν E t → (g : ℕ → Bool)
    → ReadOff p (known ν E (worst (other p))) g true t
    → SolutionTree p g t × (solution_value p ν g t ≡ minimax ν t) × LeavesIn g E t
read-bounds p ν E t h d g r =
    let x = worst (other p) in
    let e = decided-fill p ν E t d in
    let k =
    read-solution p (known ν E x) g t (known-capped ν E x (other-worst≤ p) t h.scored)
    (rw e (score-finite p (minimax ν t) (minimax-score ν t h.scored))) r in
    let i : LeavesIn g E t =
    every_map (λ n. g n ≡ true → Finite p (known ν E x n)) _ (λ n f j. finite-known p (E n) (ν n) (f j)) t k.2 in
    let v = value-best p ν g t ∙ ap (λ y. better p y (worst p)) (sym (known-solution p ν E x g t i))
    ∙ sym (value-best p (known ν E x) g t) in
    (k.0, v ∙ k.1 ∙ e, i)

-- a flag made of two memberships gives each of them back
flag-parts : (p : Side) (a b : Bool) → inside p (cond a 1 0 + cond b 2 0) ≡ cond (same p Max) a b
flag-parts Max true true = refl
flag-parts Max true false = refl
flag-parts Max false true = refl
flag-parts Max false false = refl
flag-parts Min true true = refl
flag-parts Min true false = refl
flag-parts Min false true = refl
flag-parts Min false false = refl

-- a node's flag says which of the two trees it is in
pub flag-inside : (p : Side) (ν : ℕ → ℕ) (E : ℕ → Bool) (t : Tree) (k : ℕ)
    → inside p (flag ν E t k) ≡ solution_of p ν E t k
flag-inside Max ν E t k = flag-parts Max (solution_of Max ν E t k) (solution_of Min ν E t k)
flag-inside Min ν E t k = flag-parts Min (solution_of Max ν E t k) (solution_of Min ν E t k)

-- where the bounds meet, the flags are a certificate
pub decided-certify : (ν : ℕ → ℕ) (E : ℕ → Bool) (t : Tree) → Proper ν t → Decided ν E t → FlagsCertify ν E t
decided-certify ν E t h d =
    let x = read-bounds Max ν E t h d _ (fits Max _ _ t h.distinct (λ k i. flag-inside Max ν E t k)) in
    let y = read-bounds Min ν E t h d _ (fits Min _ _ t h.distinct (λ k i. flag-inside Min ν E t k)) in
    record {
      certifies = record { max_tree = x.0; min_tree = y.0; max_value = x.1; min_value = y.1 };
      max_leaves = x.2;
      min_leaves = y.2;
    }
