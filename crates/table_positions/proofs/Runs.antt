-- Entries that are stored one after the other, at consecutive numbers.
use Rattle.prelude.proofs.{ℕ, zero, suc, ◌+◌, ◌-◌, ◌≤◌, ◌<◌, arith, ◌≡◌, refl, sym, ap, ◌∙◌, subst, List, length, set}
use Rattle.prelude.proofs.{length-set}
use Rattle.table_positions.specs.{written, stored}
use Rattle.table_positions.proofs.Buffers.{written_next}

module _ {A : Type 0} (f : ℕ → A) where
  -- none are left to be stored
  stored-end : (i : ℕ) (b : List A) → stored f i (i - i) b ≡ b
  unfolding stored
  stored-end i b = let e : i - i ≡ 0 = omega arith in rw e

  -- the first of those that are left
  stored-step : (i n : ℕ) (b : List A) → i < n → stored f (i + 1) (n - (i + 1)) (set b i (f i)) ≡ stored f i (n - i) b
  unfolding stored
  stored-step i n b h = let e : n - i ≡ suc (n - (i + 1)) = omega arith in rw e

  -- the length stays
  pub stored-length : (i n : ℕ) (b : List A) → length (stored f i n b) ≡ length b
  unfolding stored
  stored-length i zero b = refl
  stored-length i (suc n) b = stored-length (i + 1) n (set b i (f i)) ∙ length-set b i (f i)

-- the same entries, the same buffer
pub stored_same : (f g : ℕ → ℕ) (i n : ℕ) (b : List ℕ) → ((k : ℕ) → i ≤ k → k < i + n → f k ≡ g k)
    → stored f i n b ≡ stored g i n b
unfolding stored
stored_same f g i zero b e = refl
stored_same f g i (suc n) b e =
    ap (λ v. stored f (i + 1) n (set b i v)) (e i (omega arith) (omega arith))
    ∙ stored_same f g (i + 1) n (set b i (g i)) (λ k l m. e k (omega arith) (omega arith))

-- stored behind those written
pub stored-written : (f : ℕ → ℕ) (i n : ℕ) (b : List ℕ) → i + n ≤ length b
    → stored f i n (written f i b) ≡ written f (i + n) b
unfolding stored
stored-written f i zero b h = let e : i + 0 ≡ i = omega arith in rw e
stored-written f i (suc n) b h =
    let e : i + suc n ≡ i + 1 + n = omega arith in
    rw (written_next f i b (omega arith), e) (stored-written f (i + 1) n b (omega arith))

module _ {A : Type 0} (f : ℕ → A) (from to : ℕ) where
  -- a loop that stores f at the numbers from `from` up to `to`, before number i: what is left makes of b what all of it
  -- makes of b₀
  pub record Run (b₀ b : List A) (i : ℕ) : Type 0 where
    pub inside : i ≤ to
    pub long : length b ≡ length b₀
    pub left : stored f i (to - i) b ≡ stored f from (to - from) b₀

  pub run-begins : (b : List A) → from ≤ to → Run b b from
  run-begins b h = record { inside = h; long = refl; left = refl }

  pub run_step : (b₀ b : List A) (i : ℕ) (v : A) (b' : List A) → i < to → v ≡ f i → b' ≡ set b i v
      → Run b₀ b i → Run b₀ b' (i + 1)
  run_step b₀ b i v b' h e s r =
      record {
        inside = omega arith;
        long = ap length s ∙ length-set b i v ∙ r.long;
        left = rw (s, e) (stored-step f i to b h ∙ r.left);
      }

  pub run_ends : (b₀ b : List A) (i : ℕ) → to ≤ i → Run b₀ b i → b ≡ stored f from (to - from) b₀
  run_ends b₀ b i h r =
      let e : i ≡ to = omega (arith, r.inside) in
      sym (stored-end f to b) ∙ subst (λ j. stored f j (to - j) b ≡ stored f from (to - from) b₀) e r.left
