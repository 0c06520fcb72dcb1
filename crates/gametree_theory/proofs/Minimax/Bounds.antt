-- The bounds of a set of evaluated leaves: their clauses, that they enclose the minimax value, and that more leaves
-- bring them closer.
use Rattle.prelude.proofs.{ℕ, ◌≤◌, ◌<◌, arith, ◌≡◌, refl, ap, fun_ext, Bool, true, false, cond, List, []}
use Rattle.lists.specs.{All, among}
use Rattle.gametree.specs.declared.Side.{Side}
use Rattle.gametree.specs.declared.Side.TheVariants.{Max, Min}
use Rattle.gametree.specs.{Tree, leaf, inner, Children, last, ◌then◌, least, greatest, better, minimax}
use Rattle.gametree.specs.{minimax_children}
use Rattle.gametree.specs.{EveryLeaf, EveryLeafChildren, Score, Scored, known, low, high, best_of}
use Rattle.lists.proofs.Lists.{all-at}

-- the better of two scores rises with both
pub better-mono : (s : Side) {a b c d : ℕ} → a ≤ b → c ≤ d → better s a c ≤ better s b d
better-mono Max h k = omega arith
better-mono Min h k = omega arith

-- what follows from a fact of each leaf
mutual
  pub every_map : (P Q : ℕ → Type 0) → ((n : ℕ) → P n → Q n) → (t : Tree) → EveryLeaf P t → EveryLeaf Q t
  every_map P Q f (leaf n) h = f n h
  every_map P Q f (inner n s ks) h = every-map-kids P Q f ks h

  pub every-map-kids : (P Q : ℕ → Type 0) → ((n : ℕ) → P n → Q n) → (ks : Children) → EveryLeafChildren P ks
      → EveryLeafChildren Q ks
  every-map-kids P Q f (last t) h = every_map P Q f t h
  every-map-kids P Q f (t then ts) h = (every_map P Q f t h.0, every-map-kids P Q f ts h.1)

-- a fact of each number is one of each leaf
mutual
  pub every-leaf : (P : ℕ → Type 0) → ((n : ℕ) → P n) → (t : Tree) → EveryLeaf P t
  every-leaf P f (leaf n) = f n
  every-leaf P f (inner n s ks) = every-leaf-kids P f ks

  every-leaf-kids : (P : ℕ → Type 0) → ((n : ℕ) → P n) → (ks : Children) → EveryLeafChildren P ks
  every-leaf-kids P f (last t) = every-leaf P f t
  every-leaf-kids P f (t then ts) = (every-leaf P f t, every-leaf-kids P f ts)

-- the minimax value rises with the scores
mutual
  pub minimax-mono : (μ ν : ℕ → ℕ) (t : Tree) → EveryLeaf (λ n. μ n ≤ ν n) t → minimax μ t ≤ minimax ν t
  minimax-mono μ ν (leaf n) h = h
  minimax-mono μ ν (inner n s ks) h = minimax_children-mono μ ν s ks h

  pub minimax_children-mono : (μ ν : ℕ → ℕ) (s : Side) (ks : Children) → EveryLeafChildren (λ n. μ n ≤ ν n) ks
      → minimax_children μ s ks ≤ minimax_children ν s ks
  minimax_children-mono μ ν s (last t) h = minimax-mono μ ν t h
  minimax_children-mono μ ν s (t then ts) h = better-mono s (minimax-mono μ ν t h.0)
      (minimax_children-mono μ ν s ts h.1)

-- the minimax value is within what holds the scores
better-within : (s : Side) (l u : ℕ) {a b : ℕ} → (l ≤ a) × (a ≤ u) → (l ≤ b) × (b ≤ u)
    → (l ≤ better s a b) × (better s a b ≤ u)
better-within Max l u h k = omega arith
better-within Min l u h k = omega arith

mutual
  pub minimax-within : (l u : ℕ) (ν : ℕ → ℕ) (t : Tree) → EveryLeaf (λ n. (l ≤ ν n) × (ν n ≤ u)) t
      → (l ≤ minimax ν t) × (minimax ν t ≤ u)
  minimax-within l u ν (leaf n) h = h
  minimax-within l u ν (inner n s ks) h = minimax_children-within l u ν s ks h

  pub minimax_children-within : (l u : ℕ) (ν : ℕ → ℕ) (s : Side) (ks : Children)
      → EveryLeafChildren (λ n. (l ≤ ν n) × (ν n ≤ u)) ks
      → (l ≤ minimax_children ν s ks) × (minimax_children ν s ks ≤ u)
  minimax_children-within l u ν s (last t) h = minimax-within l u ν t h
  minimax_children-within l u ν s (t then ts) h =
      better-within s l u (minimax-within l u ν t h.0) (minimax_children-within l u ν s ts h.1)

-- the minimax value of a tree with real scores is a real score
pub minimax-score : (ν : ℕ → ℕ) (t : Tree) → Scored ν t → Score (minimax ν t)
minimax-score ν t h =
    let w = minimax-within 1 64001 ν t (every_map _ _ (λ n i. (omega arith, omega arith)) t h) in
    (omega arith, omega arith)

-- a leaf outside the evaluated ones is taken too low or too high
known-least : (b : Bool) (v : ℕ) → cond b v least ≤ v
known-least true v = omega arith
known-least false v = omega arith

known-greatest : (b : Bool) (v : ℕ) → v < greatest → v ≤ cond b v greatest
known-greatest true v h = omega arith
known-greatest false v h = omega arith

-- the low bound is at most the minimax value
pub low≤ : (ν : ℕ → ℕ) (E : ℕ → Bool) (t : Tree) → low ν E t ≤ minimax ν t
low≤ ν E t = minimax-mono (known ν E least) ν t (every-leaf _ (λ n. known-least (E n) (ν n)) t)

-- and `least` where no leaf is evaluated
pub low-none : (ν : ℕ → ℕ) (t : Tree) → low ν (among []) t ≡ least
low-none ν t =
    let w = minimax-within least least (known ν (among []) least) t
    (every-leaf (λ n. (least ≤ least) × (least ≤ least)) (λ n. (omega arith, omega arith)) t) in
    omega arith

-- the minimax value is at most the high bound
pub ≤high : (ν : ℕ → ℕ) (E : ℕ → Bool) (t : Tree) → Scored ν t → minimax ν t ≤ high ν E t
≤high ν E t h = minimax-mono ν (known ν E greatest) t (every_map _ _ (λ n i. known-greatest (E n) (ν n) i.1) t h)

-- a valuation that knows some leaves gives no score above `greatest`
known≤ : (b : Bool) (v x : ℕ) → v < greatest → x ≤ greatest → cond b v x ≤ greatest
known≤ true v x h k = omega arith
known≤ false v x h k = k

-- no known score exceeds `greatest`
pub known-capped : (ν : ℕ → ℕ) (E : ℕ → Bool) (x : ℕ) → x ≤ greatest → (t : Tree) → Scored ν t
    → EveryLeaf (λ n. known ν E x n ≤ greatest) t
known-capped ν E x k t h = every_map _ _ (λ n i. known≤ (E n) (ν n) x i.1 k) t h

-- the minimax value of children is the best of theirs
pub minimax_children-best : (ν : ℕ → ℕ) (s : Side) (ks : Children) → minimax_children ν s ks ≡ best_of s (minimax ν) ks
minimax_children-best ν s (last t) = refl
minimax_children-best ν s (t then ts) = ap (better s (minimax ν t)) (minimax_children-best ν s ts)

pub known-leaf-local : (b : Bool) (x y z : ℕ) → (b ≡ true → x ≡ y) → cond b x z ≡ cond b y z
known-leaf-local true x y z f = f refl
known-leaf-local false x y z f = refl

-- valuations that agree on the evaluated leaves give the same bounds
pub known-local : (ν μ : ℕ → ℕ) (w : List ℕ) → All (λ k. ν k ≡ μ k) w → (x : ℕ)
    → known ν (among w) x ≡ known μ (among w) x
known-local ν μ w a x = fun_ext (λ n. known-leaf-local (among w n) (ν n) (μ n) x (all-at (λ k. ν k ≡ μ k) w a n))
