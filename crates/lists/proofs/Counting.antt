-- How many numbers of a range are in a set, counted from the left, one after the other.
use Rattle.std.specs.Prelude.{count_by}
use Rattle.std.specs.List.{filter, range_with_len}
use Rattle.std.proofs.lemmas.List.Sums.{count_by_more_yes, count_by_more_no, length-filter, sum_by-cons}
use Rattle.prelude.proofs.{ℕ, zero, suc, ◌+◌, ◌-◌, ◌≤◌, ◌<◌, arith, ◌≡◌, refl, sym, ap, ◌∙◌, Bool, true, false, cond}
use Rattle.prelude.proofs.{List, length, get_or, take, drop, length-drop, get_or-drop}
use Rattle.lists.specs.{count_from}

-- a choice of 1 or 0 is at most 1
pub one-most : (b : Bool) → cond b 1 0 ≤ 1
one-most true = omega arith
one-most false = omega arith

-- m of the numbers from i up to k are in the set, and k lies among the n numbers from i on or right behind them
pub record Counted (E : ℕ → Bool) (i n k m : ℕ) : Type 0 where
  pub from : i ≤ k
  pub within : k ≤ i + n
  pub at_most : m ≤ k - i
  pub counted : m ≡ count_from E i (k - i)

-- no more numbers are in the set than there are
pub count_most : (E : ℕ → Bool) (i n : ℕ) → count_from E i n ≤ n
unfolding count_from
count_most E i zero = omega arith
count_most E i (suc n) = omega (arith, count_most E i n, one-most (E (i + n)))

-- the numbers below n, and n
pub count_next : (E : ℕ → Bool) (n : ℕ) → count_from E 0 (suc n) ≡ count_from E 0 n + cond (E n) 1 0
unfolding count_from
count_next E n = let e : 0 + n ≡ n = omega arith in rw e

-- the first number of a range, and the others
pub count-first : (E : ℕ → Bool) (i n : ℕ) → count_from E i (suc n) ≡ cond (E i) 1 0 + count_from E (i + 1) n
unfolding count_from
count-first E i zero = let e : i + 0 ≡ i = omega arith in rw e (omega arith)
count-first E i (suc n) =
    let e : i + suc n ≡ i + 1 + n = omega arith in rw e (omega (arith, count-first E i n))

module _ (E : ℕ → Bool) (i n : ℕ) where
  -- nothing is counted
  pub counted_none : Counted E i n i 0
  unfolding count_from
  counted_none =
      let e : i - i ≡ 0 = omega arith in
      record { from = omega arith; within = omega arith; at_most = omega arith; counted = rw e }

  module _ (k m : ℕ) (c : Counted E i n k m) where
    -- k is counted too
    pub counted-more : (j : ℕ) → k < i + n → j ≡ m + cond (E k) 1 0 → Counted E i n (k + 1) j
    unfolding count_from
    counted-more j h e =
        let d : k + 1 - i ≡ suc (k - i) = omega (arith, c.from) in
        let r : i + (k - i) ≡ k = omega (arith, c.from) in
        record {
          from = omega (arith, c.from);
          within = omega arith;
          at_most = omega (arith, one-most (E k), c.from, c.at_most);
          counted = e ∙ rw (d, r, ← c.counted);
        }

    -- all are counted
    pub counted-all : i + n ≤ k → m ≡ count_from E i n
    counted-all h = let e : k - i ≡ n = omega (arith, c.from, c.within) in c.counted ∙ ap (count_from E i) e

-- one entry more of a list
count-entry : (f : ℕ → Bool) (l : List ℕ) (n : ℕ) (b : Bool) → n < length l → f (get_or l n 0) ≡ b
    → count_by f (take (n + 1) l) ≡ count_by f (take n l) + cond b 1 0
count-entry f l n true h e = count_by_more_yes f l n 0 h e
count-entry f l n false h e = omega (arith, count_by_more_no f l n 0 h e)

-- how many entries of a part of a list are in a set, counted by their places
pub count-part : (f : ℕ → Bool) (l : List ℕ) (n i : ℕ) → i + n ≤ length l
    → count_from (λ k. f (get_or l k 0)) i n ≡ count_by f (take n (drop i l))
unfolding count_from
count-part f l zero i h = refl
count-part f l (suc n) i h =
    let inside : n < length (drop i l) = rw (length-drop i l) (omega arith) in
    let one-more : take (suc n) (drop i l) ≡ take (n + 1) (drop i l) =
    let e : suc n ≡ n + 1 = omega arith in ap (λ m. take m (drop i l)) e in
    rw (count-part f l n i (omega arith), one-more, count-entry f (drop i l) n _ inside refl, get_or-drop i l n 0) refl

-- the numbers of a range that pass a test are as many as are in its set
count-range : (E : ℕ → Bool) (i n : ℕ) → count_by E (range_with_len i n) ≡ count_from E i n
unfolding count_from
count-range E i zero = refl
count-range E i (suc n) =
    sum_by-cons (λ k. cond (E k) 1 0) i (range_with_len (i + 1) n)
    ∙ ap (λ m. cond (E i) 1 0 + m) (count-range E (i + 1) n) ∙ sym (count-first E i n)

pub count-filter : (E : ℕ → Bool) (i n : ℕ) → length (filter E (range_with_len i n)) ≡ count_from E i n
count-filter E i n = length-filter E (range_with_len i n) ∙ count-range E i n
