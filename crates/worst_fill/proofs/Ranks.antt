-- What the ranks change in a table: bytes 4 and 5 of the leaves, and nothing else.
use Rattle.prelude.proofs.{ℕ, ◌+◌, ◌*◌, ◌/◌, ◌%◌, ◌≤◌, ◌<◌, arith, dec_lt, ℕ_discrete, ◌≡◌, refl, sym, ◌∙◌, List}
use Rattle.prelude.proofs.{length}
use Rattle.prelude.proofs.{get_or, set, length-set, length-append, get_or-set_same, get_or-set_other, set_out}
use Rattle.lists.specs.{All}
use Rattle.lists.proofs.Lists.{all_append, all_map}
use Rattle.gametree.specs.declared.Side.{Side}
use Rattle.gametree.specs.declared.Side.TheVariants.{Max, Min}
use Rattle.gametree.specs.{Tree, leaf, inner, Children, last, ◌then◌, leaves, leaves_children, EveryLeaf}
use Rattle.gametree.specs.{EveryLeafChildren}
use Rattle.gametree_theory.proofs.Minimax.Bounds.{every-leaf}
use Rattle.table.specs.{frame_size, frames, byte_of, value_bytes, AgreeOn}
use Rattle.worst_fill.specs.{with_rank, ranked, ranked_children}

-- position p holds no byte of leaf n's value
pub record Off (p n : ℕ) : Type 0 where
  pub high : p ≡ frame_size * n + 4 → ⊥
  pub low : p ≡ frame_size * n + 5 → ⊥

-- so do the first four bytes of a frame, of whatever leaf
pub off-front : (i k n : ℕ) → k < 4 → Off (frame_size * i + k) n
off-front i k n h = record { high = λ e. omega arith; low = λ e. omega arith }

-- and all bytes of another frame
pub off-other : (i k n : ℕ) → k < frame_size → (i ≡ n → ⊥) → Off (frame_size * i + k) n
off-other i k n h d = record { high = λ e. d (omega arith); low = λ e. d (omega arith) }

-- one rank
module _ (i r : ℕ) where
  pub rank-length : (t : List ℕ) → length (with_rank i r t) ≡ length t
  unfolding with_rank
  rank-length t = simp length-set

  pub rank-other : (t : List ℕ) (p : ℕ) → Off p i → get_or (with_rank i r t) p 0 ≡ get_or t p 0
  unfolding with_rank
  rank-other t p o =
      get_or-set_other (set t (frame_size * i + 4) (r / 256)) (frame_size * i + 5) p (r % 256) 0 o.low
      ∙ get_or-set_other t (frame_size * i + 4) p (r / 256) 0 o.high

  rank-high : (t : List ℕ) → i < frames t → byte_of (with_rank i r t) i 4 ≡ r / 256
  unfolding with_rank
  rank-high t h =
      get_or-set_other (set t (frame_size * i + 4) (r / 256)) (frame_size * i + 5) (frame_size * i + 4) (r % 256) 0
      (λ e. omega arith)
      ∙ get_or-set_same t (frame_size * i + 4) (r / 256) 0 (omega arith)

  rank-low : (t : List ℕ) → i < frames t → byte_of (with_rank i r t) i 5 ≡ r % 256
  unfolding with_rank
  rank-low t h =
      get_or-set_same (set t (frame_size * i + 4) (r / 256)) (frame_size * i + 5) (r % 256) 0
      (simp length-set (omega arith))

  -- the leaf's value bytes hold it
  pub rank-value : (t : List ℕ) → i < frames t → value_bytes (with_rank i r t) i ≡ r
  rank-value t h = rw (rank-high t h, rank-low t h) (omega arith)

-- a store at one position keeps two lists alike
set-alike : (t u : List ℕ) → length t ≡ length u → (q v p : ℕ) → get_or t p 0 ≡ get_or u p 0
    → get_or (set t q v) p 0 ≡ get_or (set u q v) p 0
set-alike t u l q v p e =
    elim (ℕ_discrete p q) [
      | yes d ↦ rw d
          (elim (dec_lt q (length t)) [
            | yes h ↦ get_or-set_same t q v 0 h ∙ sym (get_or-set_same u q v 0 (omega arith))
            | no h ↦ rw (set_out t q v (omega arith), set_out u q v (omega arith), ← d) e
          ])
      | no d ↦ get_or-set_other t q p v 0 d ∙ e ∙ sym (get_or-set_other u q p v 0 d)
    ]

-- so does a rank
rank-alike : (i r : ℕ) (t u : List ℕ) → length t ≡ length u → (p : ℕ) → get_or t p 0 ≡ get_or u p 0
    → get_or (with_rank i r t) p 0 ≡ get_or (with_rank i r u) p 0
unfolding with_rank
rank-alike i r t u l p e =
    set-alike (set t (frame_size * i + 4) (r / 256)) (set u (frame_size * i + 4) (r / 256)) (simp length-set l)
    (frame_size * i + 5) (r % 256) p (set-alike t u l (frame_size * i + 4) (r / 256) p e)

-- what a rank below m, at a leaf of which Q holds, keeps of two tables, the ranks of a tree keep
module _ (R : List ℕ → List ℕ → Type 0) (Q : ℕ → Type 0) (m : ℕ)
    (keeps : (i r : ℕ) (t u : List ℕ) → Q i → r < m → R t u → R (with_rank i r t) (with_rank i r u)) where
  mutual
    pub ranked-keeps : (r : ℕ) (T : Tree) (t u : List ℕ) → EveryLeaf Q T → r + length (leaves T) ≤ m → R t u
        → R (ranked r T t) (ranked r T u)
    ranked-keeps r (leaf i) t u q h k = keeps i r t u q (omega arith) k
    ranked-keeps r (inner i s ks) t u q h k = ranked_children-keeps r s ks t u q h k

    ranked_children-keeps : (r : ℕ) (s : Side) (ks : Children) (t u : List ℕ) → EveryLeafChildren Q ks
        → r + length (leaves_children ks) ≤ m → R t u → R (ranked_children r s ks t) (ranked_children r s ks u)
    ranked_children-keeps r s (last v) t u q h k = ranked-keeps r v t u q h k
    ranked_children-keeps r Max (v then vs) t u q h k =
        let w = length-append (leaves v) (leaves_children vs) in
        ranked_children-keeps (r + length (leaves v)) Max vs (ranked r v t) (ranked r v u) q.1 (omega arith)
        (ranked-keeps r v t u q.0 (omega arith) k)
    ranked_children-keeps r Min (v then vs) t u q h k =
        let w = length-append (leaves v) (leaves_children vs) in
        ranked-keeps (r + length (leaves_children vs)) v (ranked_children r Min vs t) (ranked_children r Min vs u) q.0
        (omega arith) (ranked_children-keeps r Min vs t u q.1 (omega arith) k)

-- the table's length stays
pub ranked-length : (r : ℕ) (T : Tree) (t : List ℕ) → length (ranked r T t) ≡ length t
ranked-length r T t =
    ranked-keeps (λ a b. length a ≡ length t) (λ i. Unit) (r + length (leaves T))
    (λ i q a b f l e. rank-length i q a ∙ e) r T t t (every-leaf _ (λ n. tt) T) (omega arith) refl

-- a position that holds no byte of a leaf's value keeps what it held
pub ranked-other : (r : ℕ) (T : Tree) (t : List ℕ) (p : ℕ) → EveryLeaf (Off p) T
    → get_or (ranked r T t) p 0 ≡ get_or t p 0
ranked-other r T t p o =
    ranked-keeps (λ a b. get_or a p 0 ≡ get_or t p 0) (Off p) (r + length (leaves T))
    (λ i q a b f l e. rank-other i q a p f ∙ e) r T t t o (omega arith) refl

-- where two tables are alike, they stay so
pub ranked-alike : (r : ℕ) (T : Tree) (t u : List ℕ) → length t ≡ length u → (p : ℕ) → get_or t p 0 ≡ get_or u p 0
    → get_or (ranked r T t) p 0 ≡ get_or (ranked r T u) p 0
ranked-alike r T t u l p e =
    (ranked-keeps (λ a b. (length a ≡ length b) × (get_or a p 0 ≡ get_or b p 0)) (λ i. Unit) (r + length (leaves T))
    (λ i q a b f h k. (rank-length i q a ∙ k.0 ∙ sym (rank-length i q b), rank-alike i q a b k.0 p k.1))
    r T t u (every-leaf _ (λ n. tt) T) (omega arith) (l, e)).1

agree-kept : (r : ℕ) (T : Tree) (t u : List ℕ) → length t ≡ length u → (n : ℕ) → AgreeOn t u n
    → AgreeOn (ranked r T t) (ranked r T u) n
agree-kept r T t u l n a =
    record {
      same_high = ranked-alike r T t u l (frame_size * n + 4) a.same_high;
      same_low = ranked-alike r T t u l (frame_size * n + 5) a.same_low;
    }

-- two tables of one length hold the same bytes at the leaves of a tree, whose numbers are below m
mutual
  pub ranked-same : (m r : ℕ) (T : Tree) (t u : List ℕ) → length t ≡ length u → m ≤ frames t → EveryLeaf (λ n. n < m) T
      → All (AgreeOn (ranked r T t) (ranked r T u)) (leaves T)
  ranked-same m r (leaf i) t u e h l = (
    record {
      same_high = rank-high i r t (omega arith) ∙ sym (rank-high i r u (omega arith));
      same_low = rank-low i r t (omega arith) ∙ sym (rank-low i r u (omega arith));
    },
    tt,
  )
  ranked-same m r (inner i s ks) t u e h l = ranked_children-same m r s ks t u e h l

  ranked_children-same : (m r : ℕ) (s : Side) (ks : Children) (t u : List ℕ) → length t ≡ length u → m ≤ frames t
      → EveryLeafChildren (λ n. n < m) ks → All (AgreeOn (ranked_children r s ks t) (ranked_children r s ks u))
      (leaves_children ks)
  ranked_children-same m r s (last v) t u e h l = ranked-same m r v t u e h l
  ranked_children-same m r Max (v then vs) t u e h l =
      let q = r + length (leaves v) in
      let d = ranked-length r v t ∙ e ∙ sym (ranked-length r v u) in
      all_append _ (leaves v) (leaves_children vs)
      (all_map _ _ (agree-kept q (inner 0 Max vs) (ranked r v t) (ranked r v u) d) (leaves v)
      (ranked-same m r v t u e h l.0))
      (ranked_children-same m q Max vs (ranked r v t) (ranked r v u) d (omega (arith, ranked-length r v t)) l.1)
  ranked_children-same m r Min (v then vs) t u e h l =
      let q = r + length (leaves_children vs) in
      let rest = inner 0 Min vs in
      let d = ranked-length r rest t ∙ e ∙ sym (ranked-length r rest u) in
      all_append _ (leaves v) (leaves_children vs)
      (ranked-same m q v (ranked r rest t) (ranked r rest u) d (omega (arith, ranked-length r rest t)) l.0)
      (all_map _ _ (agree-kept q v (ranked r rest t) (ranked r rest u) d) (leaves_children vs)
      (ranked_children-same m r Min vs t u e h l.1))
