-- Filling keeps a table's shape, and keeps it well-formed: a rank is a value in range.
use Rattle.prelude.proofs.{ℕ, ◌+◌, ◌*◌, ◌%◌, ◌≤◌, ◌<◌, arith, ℕ_discrete, ◌≡◌, refl, sym, ap₂, ◌∙◌, List, length}
use Rattle.gametree.specs.{Tree, zero_score, leaves, EveryLeaf, Score}
use Rattle.gametree_theory.proofs.Minimax.Bounds.{every-leaf}
use Rattle.table.specs.{frame_size, max_nodes, two_bytes, frames, byte_of, value_bytes, stored_score, WellFormed}
use Rattle.table.specs.{SameShape}
use Rattle.table.proofs.OtherValues.{same-formed}
use Rattle.worst_fill.specs.{with_rank, ranked}
use Rattle.worst_fill.proofs.Ranks.{off-front, off-other, rank-length, rank-value, rank-other}
use Rattle.worst_fill.proofs.Ranks.{ranked-keeps, ranked-length, ranked-other}

-- u is t with other values, and well-formed
pub record Kept (t u : List ℕ) : Type 0 where
  pub formed : WellFormed u
  pub long : length u ≡ length t
  pub shape : SameShape t u

pub kept_self : (t : List ℕ) → WellFormed t → Kept t t
kept_self t wf =
    record { formed = wf; long = refl; shape = record { same_frames = refl; same_bytes = λ i k h l. refl } }

pub kept_then : (t u w : List ℕ) → Kept t u → Kept u w → Kept t w
kept_then t u w k l =
    record {
      formed = l.formed;
      long = l.long ∙ k.long;
      shape =
          record {
            same_frames = k.shape.same_frames ∙ l.shape.same_frames;
            same_bytes = λ i b h m.
                k.shape.same_bytes i b h m ∙ l.shape.same_bytes i b (omega (arith, k.shape.same_frames)) m;
          };
    }

-- a rank at leaf i leaves each score in range
rank-scored : (i r : ℕ) (t : List ℕ) (j : ℕ) → i < frames t → r < max_nodes → Score (stored_score t j)
    → Score (stored_score (with_rank i r t) j)
rank-scored i r t j h k s =
    elim (ℕ_discrete j i) [
      | yes e ↦ (let v : value_bytes (with_rank i r t) j ≡ r = rw e (rank-value i r t h) in (omega arith, omega arith))
      | no e ↦
          (let a = rank-other i r t (frame_size * j + 4) (off-other j 4 i (omega arith) e) in
          let b = rank-other i r t (frame_size * j + 5) (off-other j 5 i (omega arith) e) in
          let v : stored_score (with_rank i r t) j ≡ stored_score t j =
          ap₂ (λ x y. (x * 256 + y + zero_score) % two_bytes) a b in
          rw v s)
    ]

ranked-scored : (m r : ℕ) (T : Tree) (t : List ℕ) (j : ℕ) → m ≤ frames t → EveryLeaf (λ n. n < m) T
    → r + length (leaves T) ≤ max_nodes → Score (stored_score t j) → Score (stored_score (ranked r T t) j)
ranked-scored m r T t j h l f s =
    (ranked-keeps (λ a b. (m ≤ frames a) × Score (stored_score a j)) (λ n. n < m) max_nodes
    (λ i q a b k w z. (omega (arith, rank-length i q a), rank-scored i q a j (omega arith) w z.1))
    r T t t l f (h, s)).1

module _ (r : ℕ) (T : Tree) (t : List ℕ) where
  -- bytes 0 to 3 stay
  pub ranked-front : (i k : ℕ) → k < 4 → byte_of (ranked r T t) i k ≡ byte_of t i k
  ranked-front i k h = ranked-other r T t (frame_size * i + k) (every-leaf _ (λ n. off-front i k n h) T)

  -- so the shape stays
  pub ranked-shape : SameShape t (ranked r T t)
  ranked-shape =
      record {
        same_frames = omega (arith, ranked-length r T t);
        same_bytes = λ i k h l. sym (ranked-front i k l);
      }

  -- and the table stays well-formed
  pub ranked-kept : WellFormed t → EveryLeaf (λ n. n < frames t) T → r + length (leaves T) ≤ max_nodes
      → Kept t (ranked r T t)
  ranked-kept wf l f =
      record {
        formed =
            same-formed t (ranked r T t) ranked-shape wf
            (λ i h z. ranked-scored (frames t) r T t i (omega arith) l f (wf.scored i h z));
        long = ranked-length r T t;
        shape = ranked-shape;
      }
