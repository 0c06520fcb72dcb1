-- Loops that fill an array from the last entry to the first: before entry i - 1 is stored, the entries from i on are
-- filled.
use Rattle.prelude.proofs.{ℕ, ◌+◌, ◌-◌, ◌≤◌, ◌<◌, arith, ◌≡◌, refl, sym, ap, ◌∙◌, List, length, get_or, set, length-set}
use Rattle.table_positions.specs.{written}
use Rattle.table_positions.proofs.Buffers.{written_none, written_at, written-past, written_behind}

-- the loop before entry i - 1 of n: with the first i entries written too, the array b is b₀ with all n of them written
pub record Rising (f : ℕ → ℕ) (n : ℕ) (b₀ b : List ℕ) (i : ℕ) : Type 0 where
  pub room : n ≤ length b
  pub long : length b ≡ length b₀
  pub inside : i ≤ n
  pub whole : written f i b ≡ written f n b₀

pub rising-begins : (f : ℕ → ℕ) {n : ℕ} {b : List ℕ} → n ≤ length b → Rising f n b b n
rising-begins f h = record { room = h; long = refl; inside = omega arith; whole = refl }

module _ (f : ℕ → ℕ) {n : ℕ} {b₀ b : List ℕ} {i : ℕ} (r : Rising f n b₀ b i) where
  -- the entries from i on are filled
  pub rising-at : (k : ℕ) → i ≤ k → k < n → get_or b k 0 ≡ f k
  rising-at k h l =
      sym (written-past f i k b h (omega (arith, r.inside, r.room))) ∙ ap (λ x. get_or x k 0) r.whole
      ∙ written_at f n k b₀ l

  -- the one before them is stored
  pub rising_step : 0 < i → (v : ℕ) → v ≡ f (i - 1) → Rising f n b₀ (set b (i - 1) v) (i - 1)
  rising_step h v e =
      let l : i - 1 + 1 ≡ i = omega arith in
      record {
        room = omega (arith, r.room, length-set b (i - 1) v);
        long = length-set b (i - 1) v ∙ r.long;
        inside = omega (arith, r.inside);
        whole = rw e (written_behind f (i - 1) b (omega (arith, r.room, r.inside)) ∙ rw l r.whole);
      }

  -- all entries are filled
  pub rising-ends : i ≤ 0 → b ≡ written f n b₀
  rising-ends h =
      let z : 0 ≡ i = omega arith in
      sym (written_none f b) ∙ ap (λ j. written f j b) z ∙ r.whole
