-- Numbers stored in the first two bytes of frames: each is read back as the frame's first child, and what is before the
-- bytes that are written, or behind them, stays.
use Rattle.prelude.proofs.{ℕ, suc, ◌+◌, ◌*◌, ◌-◌, ◌/◌, ◌%◌, ◌≤◌, ◌<◌, arith, dec_lt, add-one, ◌≡◌, refl, sym, ap, ap₂}
use Rattle.prelude.proofs.{◌∙◌, List, [], ◌∷◌, ◌++◌, length, get_or, take, drop, set, length-append, length-set}
use Rattle.prelude.proofs.{take-set-le, drop-set-lt, get_or-set_same, get_or-set_other, get_or-take, get_or-drop}
use Rattle.prelude.proofs.{drop-drop}
use Rattle.prelude.proofs.{length-take-le, take_at, sets, length-sets, sets-eq}
use Rattle.table.specs.{frame_size, byte_of, first_child}
use Rattle.graft.specs.{with_first, Queued}

-- stores change nothing before them, and nothing behind them
take-sets : (vs b : List ℕ) (i n : ℕ) → n ≤ i → take n (sets b i vs) ≡ take n b
take-sets [] b i n h = refl
take-sets (v ∷ vs) b i n h = take-sets vs (set b i v) (suc i) n (omega arith) ∙ take-set-le n b i v h

pub drop-sets : (vs b : List ℕ) (i n : ℕ) → i + length vs ≤ n → drop n (sets b i vs) ≡ drop n b
drop-sets [] b i n h = refl
drop-sets (v ∷ vs) b i n h =
    drop-sets vs (set b i v) (suc i) n (omega arith) ∙ drop-set-lt n b i v (omega arith)

-- up to their end stand what was before them and what they stored
pub take-stored : (vs b : List ℕ) (i : ℕ) → i + length vs ≤ length b
    → take (i + length vs) (sets b i vs) ≡ take i b ++ vs
take-stored vs b i h =
    ap (take (i + length vs)) (sets-eq vs b i h)
    ∙ take_at (take i b ++ vs) (drop (i + length vs) b) (i + length vs)
    (length-append (take i b) vs ∙ ap (λ n. n + length vs) (length-take-le i b (omega arith)))

-- lists that agree from one place on agree from each later one on
pub drop_more : (b c : List ℕ) (m n : ℕ) → m ≤ n → drop m b ≡ drop m c → drop n b ≡ drop n c
drop_more b c m n h e =
    let q : m + (n - m) ≡ n = omega arith in
    rw (← q, ← drop-drop (n - m) m b, ← drop-drop (n - m) m c) (ap (drop (n - m)) e)

module _ (b c : List ℕ) (m j : ℕ) where
  -- a frame that is before what was written, or behind it, has the first child that it had
  pub first-before : take (frame_size * m) b ≡ take (frame_size * m) c → j < m → first_child b j ≡ first_child c j
  first-before e h = ap₂ (λ x y. x * 256 + y) (same 0 (omega arith)) (same 1 (omega arith))
    where
      same : (i : ℕ) → i < frame_size → byte_of b j i ≡ byte_of c j i
      same i l =
          sym (get_or-take (frame_size * m) b (frame_size * j + i) 0 (omega arith))
          ∙ ap (λ l. get_or l (frame_size * j + i) 0) e
          ∙ get_or-take (frame_size * m) c (frame_size * j + i) 0 (omega arith)

  pub first-behind : drop (frame_size * m) b ≡ drop (frame_size * m) c → m ≤ j → first_child b j ≡ first_child c j
  first-behind e h = ap₂ (λ x y. x * 256 + y) (same 0) (same 1)
    where
      same : (i : ℕ) → byte_of b j i ≡ byte_of c j i
      same i =
          let q : frame_size * m + (frame_size * (j - m) + i) ≡ frame_size * j + i = omega arith in
          rw (← q, ← get_or-drop (frame_size * m) b _ 0, ← get_or-drop (frame_size * m) c _ 0)
          (ap (λ l. get_or l (frame_size * (j - m) + i) 0) e)

-- a stored number is read back
pub first-stored : (b : List ℕ) (j v : ℕ) → frame_size * j + 2 ≤ length b
    → first_child (with_first j v b) j ≡ v
first-stored b j v h =
    let i = frame_size * j in
    let z : i + 0 ≡ i = omega arith in
    let high : get_or (set (set b i (v / 256)) (suc i) (v % 256)) (i + 0) 0 ≡ v / 256 =
    rw z (get_or-set_other (set b i (v / 256)) (suc i) i (v % 256) 0 (λ e. omega arith)
    ∙ get_or-set_same b i (v / 256) 0 (omega arith)) in
    let low : get_or (set (set b i (v / 256)) (suc i) (v % 256)) (i + 1) 0 ≡ v % 256 =
    rw (add-one i) (get_or-set_same (set b i (v / 256)) (suc i) (v % 256) 0
    (omega (arith, length-set b i (v / 256)))) in
    omega (arith, high, low)

module _ (f : ℕ → ℕ) (at : ℕ) where
  -- none are queued yet
  pub queued-none : (b : List ℕ) → Queued f at 0 b b
  queued-none b =
      record { long = refl; before = refl; entries = λ m h. absurd (omega arith); behind = refl }

  -- one more
  pub queued-more : {n : ℕ} {b₀ b : List ℕ} → Queued f at n b₀ b → (v : ℕ) → v ≡ f n → (b' : List ℕ)
      → b' ≡ with_first (at + n) v b → frame_size * (at + n) + 2 ≤ length b
      → Queued f at (n + 1) b₀ b'
  queued-more {n} {b₀} {b} q v e b' s h =
      let vs = v / 256 ∷ v % 256 ∷ [] in
      let i = frame_size * (at + n) in
      record {
        long = ap length s ∙ length-sets b i vs ∙ q.long;
        before = ap (take (frame_size * at)) s ∙ take-sets vs b i (frame_size * at) (omega arith) ∙ q.before;
        entries = λ m l.
            elim (dec_lt m n) [
              | yes z ↦ first-before b' b (at + n) (at + m) (ap (take i) s ∙ take-sets vs b i i (omega arith))
                  (omega arith)
                  ∙ q.entries m z
              | no z ↦ (let p : m ≡ n = omega arith in rw (p, s) (first-stored b (at + n) v h ∙ e))
            ];
        behind = ap (drop (frame_size * (at + (n + 1)))) s
            ∙ drop-sets vs b i (frame_size * (at + (n + 1))) (omega arith)
            ∙ drop_more b b₀ i (frame_size * (at + (n + 1))) (omega arith) q.behind;
      }
