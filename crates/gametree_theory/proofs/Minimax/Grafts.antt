-- A tree in the place of a leaf counts as a leaf with the tree's value; other numbers change neither value nor size.
use Rattle.prelude.proofs.{ℕ, suc, ◌+◌, ◌≤◌, arith, ◌≡◌, refl, sym, ◌∙◌, ap, ap₂, Bool, true, false, cond, eqb}
use Rattle.gametree.specs.declared.Side.{Side}
use Rattle.gametree.specs.{Tree, leaf, inner, Children, last, ◌then◌, better, minimax, minimax_children, size}
use Rattle.gametree.specs.{size_children, EveryLeaf, substituted, grafted, grafted_children, relabelled}
use Rattle.gametree.specs.{relabelled_children}
use Rattle.gametree_theory.proofs.Minimax.Bounds.{every_map, minimax-mono}
use Rattle.gametree_theory.proofs.Minimax.Nodes.{size-then}

mutual
  -- the value of a graft is that of the tree with the leaf's score replaced by the grafted tree's value
  pub graft-value : (ν : ℕ → ℕ) (k : ℕ) (v t : Tree)
      → minimax ν (grafted k v t) ≡ minimax (substituted ν k (minimax ν v)) t
  graft-value ν k v (leaf n) = at (eqb n k)
    where
      at : (b : Bool) → minimax ν (cond b v (leaf n)) ≡ cond b (minimax ν v) (ν n)
      at true = refl
      at false = refl
  graft-value ν k v (inner n s ks) = graft-value_children ν k v s ks

  graft-value_children : (ν : ℕ → ℕ) (k : ℕ) (v : Tree) (s : Side) (ks : Children)
      → minimax_children ν s (grafted_children k v ks) ≡ minimax_children (substituted ν k (minimax ν v)) s ks
  graft-value_children ν k v s (last t) = graft-value ν k v t
  graft-value_children ν k v s (t then ts) = ap₂ (better s) (graft-value ν k v t) (graft-value_children ν k v s ts)

mutual
  -- other numbers, with the scores going with them
  pub relabelled-value : (ν f : ℕ → ℕ) (t : Tree) → minimax ν (relabelled f t) ≡ minimax (λ n. ν (f n)) t
  relabelled-value ν f (leaf n) = refl
  relabelled-value ν f (inner n s ks) = relabelled-value_children ν f s ks

  relabelled-value_children : (ν f : ℕ → ℕ) (s : Side) (ks : Children)
      → minimax_children ν s (relabelled_children f ks) ≡ minimax_children (λ n. ν (f n)) s ks
  relabelled-value_children ν f s (last t) = relabelled-value ν f t
  relabelled-value_children ν f s (t then ts) = ap₂ (better s) (relabelled-value ν f t)
      (relabelled-value_children ν f s ts)

mutual
  pub relabelled-size : (f : ℕ → ℕ) (t : Tree) → size (relabelled f t) ≡ size t
  relabelled-size f (leaf n) = refl
  relabelled-size f (inner n s ks) = ap suc (relabelled-size_children f ks)

  relabelled-size_children : (f : ℕ → ℕ) (ks : Children) → size_children (relabelled_children f ks) ≡ size_children ks
  relabelled-size_children f (last t) = relabelled-size f t
  relabelled-size_children f (t then ts) =
      size-then (relabelled f t) (relabelled_children f ts)
      ∙ ap₂ ◌+◌ (relabelled-size f t) (relabelled-size_children f ts) ∙ sym (size-then t ts)

-- the same scores at the leaves, the same value
pub minimax-same : (μ ν : ℕ → ℕ) (t : Tree) → EveryLeaf (λ n. μ n ≡ ν n) t → minimax μ t ≡ minimax ν t
minimax-same μ ν t e =
    let a = minimax-mono μ ν t (every_map _ (λ n. μ n ≤ ν n) (λ n h. omega arith) t e) in
    let b = minimax-mono ν μ t (every_map _ (λ n. ν n ≤ μ n) (λ n h. omega arith) t e) in
    omega arith
