-- The ranks that a table holds after the filling stand in blocks, whatever its leaves held before.
use Rattle.prelude.proofs.{ℕ, ◌+◌, ◌*◌, ◌≤◌, ◌<◌, arith, ◌≡◌, refl, ap₂, inl, inr, List, length, get_or}
use Rattle.gametree.specs.declared.Side.{Side}
use Rattle.gametree.specs.declared.Side.TheVariants.{Max, Min}
use Rattle.gametree.specs.{Tree, leaf, inner, Children, last, ◌then◌, leaves, leaves_children, EveryLeaf}
use Rattle.gametree.specs.{EveryLeafChildren, In, InChildren, Distinct, DistinctChildren}
use Rattle.gametree_theory.proofs.Minimax.Bounds.{every_map, every-map-kids}
use Rattle.gametree_theory.proofs.Alphabeta.WorstCase.{Blocks, BlocksChildren, blocks_more}
use Rattle.table.specs.{frame_size, frames, byte_of, value_bytes}
use Rattle.worst_fill.specs.{ranked, ranked_children}
use Rattle.worst_fill.proofs.Ranks.{off-other, rank-value, ranked-length, ranked-other}

mutual
  -- the leaves of a tree are nodes of it
  every_in : (T : Tree) → EveryLeaf (λ n. In n T) T
  every_in (leaf n) = refl
  every_in (inner n s ks) = every-map-kids _ _ (λ k i. inr i) ks (every-in-kids ks)

  every-in-kids : (ks : Children) → EveryLeafChildren (λ n. InChildren n ks) ks
  every-in-kids (last v) = every_in v
  every-in-kids (v then vs) =
      (every_map _ _ (λ k i. inl i) v (every_in v), every-map-kids _ _ (λ k i. inr i) vs (every-in-kids vs))

-- ranks at other leaves keep a value
value-kept : (r n : ℕ) (t : List ℕ) (T : Tree) → EveryLeaf (λ m. n ≡ m → ⊥) T
    → value_bytes (ranked r T t) n ≡ value_bytes t n
value-kept r n t T d =
    let o : (k : ℕ) → k < frame_size → get_or (ranked r T t) (frame_size * n + k) 0 ≡ byte_of t n k =
    λ k l. ranked-other r T t (frame_size * n + k) (every_map _ _ (λ m e. off-other n k m l e) T d) in
    ap₂ (λ x y. x * 256 + y) (o 4 (omega arith)) (o 5 (omega arith))

-- values that stay keep their blocks
blocks-kept : (ν μ : ℕ → ℕ) (b : ℕ) (T : Tree) → EveryLeaf (λ n. μ n ≡ ν n) T → Blocks ν b T → Blocks μ b T
blocks-kept ν μ b T e f =
    let z : b + 0 ≡ b = omega arith in
    rw z at (blocks_more ν μ 0 b T (every_map _ _ (λ n q. omega arith) T e) f)

mutual
  -- the ranks from r on stand in blocks at the leaves of a tree, whose numbers are below m
  pub ranked-blocks : (m r : ℕ) (T : Tree) (t : List ℕ) → m ≤ frames t → EveryLeaf (λ n. n < m) T → Distinct T
      → Blocks (value_bytes (ranked r T t)) r T
  ranked-blocks m r (leaf i) t h l d = rank-value i r t (omega arith)
  ranked-blocks m r (inner i s ks) t h l d = ranked_children-blocks m r s ks t h l d.1

  ranked_children-blocks : (m r : ℕ) (s : Side) (ks : Children) (t : List ℕ) → m ≤ frames t
      → EveryLeafChildren (λ n. n < m) ks
      → DistinctChildren ks → BlocksChildren (value_bytes (ranked_children r s ks t)) s r ks
  ranked_children-blocks m r s (last v) t h l d = ranked-blocks m r v t h l d
  ranked_children-blocks m r Max (v then vs) t h l d =
      let q = r + length (leaves v) in
      let rest = inner 0 Max vs in
      let t₁ = ranked r v t in (
        blocks-kept (value_bytes t₁) (value_bytes (ranked q rest t₁)) r v
            (every_map _ _
            (λ n i. value-kept q n t₁ rest (every-map-kids _ _ (λ m j e. d.2 n i (rw e j)) vs (every-in-kids vs))) v
            (every_in v))
            (ranked-blocks m r v t h l.0 d.0),
        ranked_children-blocks m q Max vs t₁ (omega (arith, ranked-length r v t)) l.1 d.1,
      )
  ranked_children-blocks m r Min (v then vs) t h l d =
      let q = r + length (leaves_children vs) in
      let rest = inner 0 Min vs in
      let t₁ = ranked r rest t in (
        ranked-blocks m q v t₁ (omega (arith, ranked-length r rest t)) l.0 d.0,
        blocks-kept (value_bytes t₁) (value_bytes (ranked q v t₁)) r rest
            (every-map-kids _ _
            (λ n i. value-kept q n t₁ v (every_map _ _ (λ m j e. d.2 n (rw e j) i) v (every_in v))) vs
            (every-in-kids vs))
            (ranked_children-blocks m r Min vs t h l.1 d.1),
      )
