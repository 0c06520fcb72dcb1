-- Where the bounds of the evaluated leaves meet, the move that they show leads to a child with the root's value.
use Rattle.prelude.proofs.{ℕ, arith, ◌≡◌, refl, ◌⊎◌, inl, inr, Bool, true, false, cond, eqb, eqb-true, eqb-false}
use Rattle.prelude.proofs.{eq-eqb}
use Rattle.gametree.specs.declared.Side.{Side}
use Rattle.gametree.specs.declared.Side.TheVariants.{Max, Min}
use Rattle.gametree.specs.{Tree, leaf, inner, Children, last, ◌then◌, better, minimax, minimax_children, number, Scored}
use Rattle.gametree.specs.{ScoredChildren, known, Decided, worst, first_with, bound_move}
use Rattle.gametree_theory.proofs.Minimax.Bounds.{low≤, ≤high}
use Rattle.gametree_theory.proofs.Certificates.Solution.{Under, under-refl, under-both}

-- k is the number of a child of the value v
abbrev pub ChildOfValue : (ℕ → ℕ) → ℕ → ℕ → Children → Type 0
ChildOfValue ν v k (last t) = (number t ≡ k) × (minimax ν t ≡ v)
ChildOfValue ν v k (t then ts) = ((number t ≡ k) × (minimax ν t ≡ v)) ⊎ ChildOfValue ν v k ts

-- k is the number of a best move: of a child with the root's value, 0 where the root is a leaf
abbrev pub BestMove : (ℕ → ℕ) → Tree → ℕ → Type 0
BestMove ν (leaf n) k = k ≡ 0
BestMove ν (inner n s ks) k = ChildOfValue ν (minimax_children ν s ks) k ks

-- a child whose own side's bound is the value v, which no child exceeds, has it
bound-exact : (p : Side) (ν : ℕ → ℕ) (E : ℕ → Bool) (t : Tree) (v : ℕ) → Scored ν t
    → minimax (known ν E (worst p)) t ≡ v
    → Under p (minimax ν t) v → minimax ν t ≡ v
bound-exact Max ν E t v h e u = omega (arith, low≤ ν E t)
bound-exact Min ν E t v h e u = omega (arith, ≤high ν E t h)

-- of two scores one is the better
better-other : (s : Side) (a b v : ℕ) → better s a b ≡ v → (a ≡ v → ⊥) → b ≡ v
better-other Max a b v e f = omega arith
better-other Min a b v e f = omega arith

-- the first child whose bound is the node's has the node's value
first-best : (p : Side) (ν : ℕ → ℕ) (E : ℕ → Bool) (v : ℕ) (ks : Children) → ScoredChildren ν ks
    → minimax_children (known ν E (worst p)) p ks ≡ v
    → Under p (minimax_children ν p ks) v → ChildOfValue ν v (first_with (minimax (known ν E (worst p))) v ks) ks
first-best p ν E v (last t) h e u = (rw (eq-eqb _ _ e) refl, bound-exact p ν E t v h e u)
first-best p ν E v (t then ts) h e u =
    let w = under-both p (minimax ν t) (minimax_children ν p ts) v u in
    at (λ i. bound-exact p ν E t v h.0 i w.0)
    (λ i. first-best p ν E v ts h.1 (better-other p (minimax (known ν E (worst p)) t) _ v e i) w.1) _ refl
  where
    at : (minimax (known ν E (worst p)) t ≡ v → minimax ν t ≡ v)
        → ((minimax (known ν E (worst p)) t ≡ v → ⊥)
        → ChildOfValue ν v (first_with (minimax (known ν E (worst p))) v ts) ts)
        → (b : Bool) → eqb (minimax (known ν E (worst p)) t) v ≡ b
        → ChildOfValue ν v (cond b (number t) (first_with (minimax (known ν E (worst p))) v ts)) (t then ts)
    at f g true i = inl (refl, f (eqb-true _ _ i))
    at f g false i = inr (g (eqb-false _ _ i))

-- the move by the bounds of leaves that decide the root is a best one
pub decided-best : (ν : ℕ → ℕ) (E : ℕ → Bool) (t : Tree) → Scored ν t → Decided ν E t → BestMove ν t (bound_move ν E t)
decided-best ν E (leaf n) h d = refl
decided-best ν E (inner n Max ks) h d =
    rw d.low_is (first-best Max ν E (minimax_children ν Max ks) ks h d.low_is (under-refl Max _))
decided-best ν E (inner n Min ks) h d =
    rw d.high_is (first-best Min ν E (minimax_children ν Min ks) ks h d.high_is (under-refl Min _))
