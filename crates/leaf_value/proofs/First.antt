-- The first of consecutive numbers that passes a test.
use Rattle.prelude.proofs.{ℕ, zero, suc, ◌+◌, ◌≤◌, ◌<◌, arith, dec_lt, ◌≡◌, refl, Bool, true, false, cond, none, some}
use Rattle.lists.proofs.Choice.{clash}
use Rattle.leaf_value.specs.{first_from}

-- s is the first of the n numbers from i on that passes the test f
pub record First (f : ℕ → Bool) (i n s : ℕ) : Type 0 where
  pub from : i ≤ s
  pub within : s < i + n
  pub passes : f s ≡ true
  pub before : (k : ℕ) → i ≤ k → k < s → f k ≡ false

-- none of them passes
abbrev pub NoneFrom : (ℕ → Bool) → (i n : ℕ) → Type 0
NoneFrom f i n = (k : ℕ) → i ≤ k → k < i + n → f k ≡ false

module _ (f : ℕ → Bool) where
  -- the first that passes is found
  pub first_found : (i n s : ℕ) → First f i n s → first_from f i n ≡ some s
  unfolding first_from
  first_found i zero s h = absurd (omega (arith, h.from, h.within))
  first_found i (suc n) s h =
      elim (dec_lt i s) [
        | yes l ↦
            rw (h.before i (omega arith) l)
            (first_found (i + 1) n s (record {
              from = omega arith;
              within = omega (arith, h.within);
              passes = h.passes;
              before = λ k a b. h.before k (omega arith) b;
            }))
        | no l ↦ (let e : i ≡ s = omega (arith, h.from) in rw (e, h.passes))
      ]

  -- and none where none passes
  pub none_found : (i n : ℕ) → NoneFrom f i n → first_from f i n ≡ none
  unfolding first_from
  none_found i zero h = refl
  none_found i (suc n) h =
      rw (h i (omega arith) (omega arith)) (none_found (i + 1) n (λ k a b. h k (omega arith) (omega arith)))

  -- tests that agree on these numbers find the same
  pub first-same : (g : ℕ → Bool) (i n : ℕ) → ((k : ℕ) → i ≤ k → k < i + n → f k ≡ g k)
      → first_from f i n ≡ first_from g i n
  unfolding first_from
  first-same g i zero h = refl
  first-same g i (suc n) h =
      rw (h i (omega arith) (omega arith), first-same g (i + 1) n (λ k a b. h k (omega arith) (omega arith)))

  -- nothing else is found
  pub found_first : (i n s : ℕ) → first_from f i n ≡ some s → First f i n s
  unfolding first_from
  found_first i zero s e = clash (cc)
  found_first i (suc n) s e = at (f i) refl e (found_first (i + 1) n s)
    where
      at : (b : Bool) → f i ≡ b → cond b (some i) (first_from f (i + 1) n) ≡ some s
          → (first_from f (i + 1) n ≡ some s → First f (i + 1) n s) → First f i (suc n) s
      at true p q g =
          let z : i ≡ s = cc in
          record {
            from = omega arith;
            within = omega arith;
            passes = rw z at p;
            before = λ k a b. absurd (omega arith);
          }
      at false p q g =
          let r = g q in
          record {
            from = omega (arith, r.from);
            within = omega (arith, r.within);
            passes = r.passes;
            before = λ k a b.
                elim (dec_lt i k) [
                  | yes l ↦ r.before k (omega arith) b
                  | no l ↦ (let z : i ≡ k = omega arith in rw z at p)
                ];
          }

  pub found_none : (i n : ℕ) → first_from f i n ≡ none → NoneFrom f i n
  unfolding first_from
  found_none i zero e k a b = absurd (omega arith)
  found_none i (suc n) e k a b = at (f i) refl e (found_none (i + 1) n)
    where
      at : (c : Bool) → f i ≡ c → cond c (some i) (first_from f (i + 1) n) ≡ none
          → (first_from f (i + 1) n ≡ none → NoneFrom f (i + 1) n) → f k ≡ false
      at true p q g = clash (cc)
      at false p q g =
          elim (dec_lt i k) [
            | yes l ↦ g q k (omega arith) (omega arith)
            | no l ↦ (let z : i ≡ k = omega arith in rw z at p)
          ]
