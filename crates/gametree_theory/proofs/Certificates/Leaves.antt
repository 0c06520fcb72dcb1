-- The value of a solution tree and the leaves of a pair, child by child.
use Rattle.prelude.proofs.{ℕ, suc, ◌+◌, arith, ◌≡◌, refl, ◌∙◌, ap, Bool, true, false, cond, ◌||◌, foldr, foldr-append}
use Rattle.prelude.proofs.{map, map-append}
use Rattle.gametree.specs.declared.Side.{Side}
use Rattle.gametree.specs.declared.Side.TheVariants.{Max, Min}
use Rattle.gametree.specs.{Tree, leaf, inner, Children, last, ◌then◌, better, leaves, leaves_children, leaf_count}
use Rattle.gametree.specs.{leaf_count_children, known, worst, solution_value, pair_leaves}

-- the best for side p of a tree's leaves in the set g
abbrev mutual
  pub best_leaf : Side → (ℕ → ℕ) → (ℕ → Bool) → Tree → ℕ
  best_leaf p ν g (leaf n) = cond (g n) (ν n) (worst p)
  best_leaf p ν g (inner n q ks) = best_leaf_children p ν g ks

  pub best_leaf_children : Side → (ℕ → ℕ) → (ℕ → Bool) → Children → ℕ
  best_leaf_children p ν g (last t) = best_leaf p ν g t
  best_leaf_children p ν g (t then ts) = better p (best_leaf p ν g t) (best_leaf_children p ν g ts)

better-assoc : (p : Side) (a b c : ℕ) → better p a (better p b c) ≡ better p (better p a b) c
better-assoc Max a b c = omega arith
better-assoc Min a b c = omega arith

module _ (p : Side) (ν : ℕ → ℕ) (g : ℕ → Bool) where
  mutual
    fold-best : (x : ℕ) (t : Tree)
        → foldr (better p) x (map (known ν g (worst p)) (leaves t)) ≡ better p (best_leaf p ν g t) x
    fold-best x (leaf n) = refl
    fold-best x (inner n q ks) = fold-best_children x ks

    fold-best_children : (x : ℕ) (ks : Children)
        → foldr (better p) x (map (known ν g (worst p)) (leaves_children ks)) ≡ better p (best_leaf_children p ν g ks) x
    fold-best_children x (last t) = fold-best x t
    fold-best_children x (t then ts) =
        let κ = known ν g (worst p) in
        ap (foldr (better p) x) (map-append κ (leaves t) (leaves_children ts))
        ∙ foldr-append (better p) x (map κ (leaves t)) (map κ (leaves_children ts))
        ∙ fold-best (foldr (better p) x (map κ (leaves_children ts))) t
        ∙ ap (better p (best_leaf p ν g t)) (fold-best_children x ts)
        ∙ better-assoc p (best_leaf p ν g t) (best_leaf_children p ν g ts) x

  -- so it is the solution tree's value, unless it is beyond the worst score
  pub value-best : (t : Tree) → solution_value p ν g t ≡ better p (best_leaf p ν g t) (worst p)
  value-best t = fold-best (worst p) t

leaf-count : (b : Bool) (k : ℕ) → cond b (suc k) k ≡ cond b 1 0 + k
leaf-count true k = omega arith
leaf-count false k = omega arith

module _ (g h : ℕ → Bool) where
  mutual
    fold-count : (k : ℕ) (t : Tree)
        → foldr (λ n k. cond (g n || h n) (suc k) k) k (leaves t) ≡ leaf_count (λ n. g n || h n) t + k
    fold-count k (leaf n) = leaf-count (g n || h n) k
    fold-count k (inner n q ks) = fold-count_children k ks

    fold-count_children : (k : ℕ) (ks : Children)
        → foldr (λ n k. cond (g n || h n) (suc k) k) k (leaves_children ks)
        ≡ leaf_count_children (λ n. g n || h n) ks + k
    fold-count_children k (last t) = fold-count k t
    fold-count_children k (t then ts) =
        let f : ℕ → ℕ → ℕ = λ n k. cond (g n || h n) (suc k) k in
        let a = fold-count (foldr f k (leaves_children ts)) t in
        let b = fold-count_children k ts in
        foldr-append f k (leaves t) (leaves_children ts) ∙ a ∙ omega arith

  -- a pair's leaves are those that are in one of its sets
  pub pair-count : (t : Tree) → pair_leaves g h t ≡ leaf_count (λ n. g n || h n) t
  pair-count t = let e = fold-count 0 t in omega arith
