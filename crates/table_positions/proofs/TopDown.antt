-- Loops that fill an array from the root down: before node i is visited, the entries of all nodes below `next t i` are
-- filled, node i's among them, and its children are the next to come. Once `next t i` is the number of frames, each
-- entry is filled, and the nodes from i on are leaves.
use Rattle.prelude.proofs.{ℕ, ◌+◌, ◌-◌, ◌≤◌, ◌<◌, arith, dec_lt, ◌≡◌, refl, sym, ap, ◌∙◌, List, length, get_or, set}
use Rattle.prelude.proofs.{length-set, set-set}
use Rattle.table.specs.{frames, child_count, next, WellFormed, ChildOf}
use Rattle.table.proofs.Next.{next_more, next-within, next-child, waits}
use Rattle.table_positions.specs.{written, stored}
use Rattle.table_positions.proofs.Buffers.{written_none, written_next, written_at, written_over}
use Rattle.table_positions.proofs.Runs.{stored-length, stored_same, stored-written}

-- the loop before node i, with `at` the number of its first child, and the array b, which was b₀
pub record Visit (t b₀ b : List ℕ) (at i : ℕ) : Type 0 where
  pub room : frames t ≤ length b
  pub long : length b ≡ length b₀
  pub inside : i ≤ frames t
  pub here : at ≡ next t i

module _ (t : List ℕ) where
  pub visit-root : {b : List ℕ} → frames t ≤ length b → Visit t b b 1 0
  unfolding next
  visit-root h = record { room = h; long = refl; inside = omega arith; here = refl }

  -- while some node is not filled, there is a node to visit
  pub visit-goes : {b₀ b : List ℕ} {at i : ℕ} → Visit t b₀ b at i → WellFormed t → at < frames t → i < frames t
  visit-goes {i = i} r wf h =
      elim (dec_lt i (frames t)) [
        | yes l ↦ l
        | no l ↦ (let e : i ≡ frames t = omega (arith, r.inside) in
            absurd (omega (arith, r.here, ap (next t) e, wf.total)))
      ]

  module _ {b₀ b : List ℕ} {at i : ℕ} (r : Visit t b₀ b at i) (h : i < frames t) (n : ℕ) (e : n ≡ child_count t i) where
    -- the node's children lie within the table
    pub visit-within : WellFormed t → at + n ≤ frames t
    visit-within wf = omega (arith, r.here, next_more t i, next-within t wf (i + 1) (omega arith))

    -- their entries are stored
    pub visit-step : (g : ℕ → ℕ) (b' : List ℕ) → b' ≡ stored g at (at + n - at) b → Visit t b₀ b' (at + n) (i + 1)
    visit-step g b' s =
        let l = ap length s ∙ stored-length g at (at + n - at) b in
        record {
          room = omega (arith, r.room);
          long = l ∙ r.long;
          inside = omega arith;
          here = omega (arith, r.here, next_more t i);
        }

-- the entries below `at` are f, the others as they were
pub record Filled (t : List ℕ) (f : ℕ → ℕ) (b₀ b : List ℕ) (at i : ℕ) : Type 0 where
  pub visit : Visit t b₀ b at i
  pub entries : b ≡ written f at b₀

module _ (t : List ℕ) (wf : WellFormed t) (f : ℕ → ℕ) where
  -- the root's entry is stored
  pub filled-root : (b : List ℕ) (v : ℕ) → v ≡ f 0 → frames t ≤ length b → Filled t f (set b 0 v) (set b 0 v) 1 0
  filled-root b v e h =
      record {
        visit = visit-root t (omega (arith, length-set b 0 v));
        entries =
            rw e
            (sym (set-set b 0 (f 0) (f 0)) ∙ ap (λ l. set l 0 (f 0)) (sym (written_none f (set b 0 (f 0))))
            ∙ written_next f 0 (set b 0 (f 0)) (omega (arith, wf.non_empty, length-set b 0 (f 0))));
      }

  module _ {b₀ b : List ℕ} {at i : ℕ} (r : Filled t f b₀ b at i) (h : i < frames t) where
    -- the node's own entry is filled
    pub filled_at : get_or b i 0 ≡ f i
    filled_at =
        ap (λ l. get_or l i 0) r.entries ∙ written_at f at i b₀ (omega (arith, r.visit.here, waits t wf i h))

    -- its children's entries are stored
    pub filled-step : (n : ℕ) → n ≡ child_count t i → (g : ℕ → ℕ) → ((k : ℕ) → ChildOf t i k → g k ≡ f k)
        → (b' : List ℕ) → b' ≡ stored g at (at + n - at) b → Filled t f b₀ b' (at + n) (i + 1)
    filled-step n e g same b' s =
        let v = r.visit in
        let c : at + n - at ≡ n = omega arith in
        record {
          visit = visit-step t v h n e g b' s;
          entries =
              rw c at s
              ∙ stored_same g f at n b
              (λ k l m. same k (next-child t wf h (omega (arith, v.here)) (omega (arith, v.here, next_more t i))))
              ∙ ap (stored f at n) r.entries
              ∙ stored-written f at n b₀ (omega (arith, v.room, v.long, visit-within t v h n e wf));
        }

  -- all entries are filled
  pub filled-all : (b : List ℕ) (v : ℕ) {b' : List ℕ} {at i : ℕ} → Filled t f (set b 0 v) b' at i → frames t ≤ at
      → b' ≡ written f (frames t) b
  filled-all b v {b'} {at} {i} r h =
      let n : at ≡ frames t = omega (arith, r.visit.here, next-within t wf i r.visit.inside) in
      r.entries ∙ ap (λ m. written f m (set b 0 v)) n ∙ written_over f (frames t) 0 v b wf.non_empty
