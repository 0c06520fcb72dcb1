-- The turns of the loop over a node's children: each puts the ranks of one child, and together they put those of the
-- node.
use Rattle.prelude.proofs.{ℕ, zero, suc, ◌+◌, ◌-◌, ◌≤◌, arith, ◌≡◌, refl, ap, ap₂, ◌∙◌, List, length, length-append}
use Rattle.gametree.specs.declared.Side.{Side}
use Rattle.gametree.specs.declared.Side.TheVariants.{Max, Min}
use Rattle.gametree.specs.{Tree, leaves, leaves_children}
use Rattle.table.specs.{children_from}
use Rattle.worst_fill.specs.{ranked, ranked_children, nth_child}

-- the next rank, and the table
pub record Filling : Type 0 where
  pub next : ℕ
  pub table : List ℕ

module _ (g : ℕ → Tree) where
  -- after n turns from turn m on, in which the children come in the order c, from the rank r on
  unfoldable pub turns_from : (c : ℕ → ℕ) (r : ℕ) (t : List ℕ) (m n : ℕ) → Filling
  turns_from c r t m zero = record { next = r; table = t }
  turns_from c r t m (suc n) = turns_from c (r + length (leaves (g (c m)))) (ranked r (g (c m)) t) (m + 1) n

  -- no turn gives a rank back
  pub next_grows : (c : ℕ → ℕ) (r : ℕ) (t : List ℕ) (m n : ℕ) → r ≤ (turns_from c r t m n).next
  unfolding turns_from
  next_grows c r t m zero = omega arith
  next_grows c r t m (suc n) =
      omega (arith, next_grows c (r + length (leaves (g (c m)))) (ranked r (g (c m)) t) (m + 1) n)

  -- what the n + 1 children from number i on are to be given
  abbrev pub given : (s : Side) (r : ℕ) (t : List ℕ) (i n : ℕ) → Filling
  given s r t i n =
      record {
        next = r + length (leaves_children (children_from g i n));
        table = ranked_children r s (children_from g i n) t;
      }

  -- from left to right
  rising : (i r : ℕ) (t : List ℕ) (m n : ℕ) → turns_from (λ k. i + k) r t m (suc n) ≡ given Max r t (i + m) n
  unfolding turns_from children_from
  rising i r t m zero = refl
  rising i r t m (suc n) =
      let v = g (i + m) in
      let vs = children_from g (i + m + 1) n in
      let a : i + (m + 1) ≡ i + m + 1 = omega arith in
      rising i (r + length (leaves v)) (ranked r v t) (m + 1) n
      ∙ rw a
      (ap (λ x. record { next = x; table = ranked_children (r + length (leaves v)) Max vs (ranked r v t) })
      (omega (arith, length-append (leaves v) (leaves_children vs))))

  -- the last of the children comes first
  last-first : (r : ℕ) (t : List ℕ) (i n : ℕ)
      → given Min (r + length (leaves (g (i + suc n)))) (ranked r (g (i + suc n)) t) i n ≡ given Min r t i (suc n)
  unfolding children_from
  last-first r t i zero =
      let a : i + suc zero ≡ i + 1 = omega arith in
      rw a
      (ap (λ x. record { next = x; table = ranked (r + length (leaves (g (i + 1)))) (g i) (ranked r (g (i + 1)) t) })
      (omega (arith, length-append (leaves (g i)) (leaves (g (i + 1))))))
  last-first r t i (suc n) =
      let w = g (i + suc (suc n)) in
      let a : i + suc (suc n) ≡ i + 1 + suc n = omega arith in
      let q = rw (← a) at (last-first r t (i + 1) n) in
      let x : r + length (leaves w) + length (leaves_children (children_from g (i + 1) n))
      ≡ r + length (leaves_children (children_from g (i + 1) (suc n))) = ap (λ f. f.next) q in
      ap₂ (λ y u. record { next = y; table = u })
      (omega (
        arith,
        length-append (leaves (g i)) (leaves_children (children_from g (i + 1) n)),
        length-append (leaves (g i)) (leaves_children (children_from g (i + 1) (suc n))),
      ))
      (ap₂ (λ y u. ranked y (g i) u) x (ap (λ f. f.table) q))

  -- from right to left
  falling : (i k r : ℕ) (t : List ℕ) (m n : ℕ) → m + suc n ≡ k
      → turns_from (nth_child Min i k) r t m (suc n) ≡ given Min r t i n
  unfolding turns_from children_from
  falling i k r t m zero e = let a : i + (k - 1 - m) ≡ i = omega arith in rw a
  falling i k r t m (suc n) e =
      let a : i + (k - 1 - m) ≡ i + suc n = omega arith in
      rw a
      (falling i k (r + length (leaves (g (i + suc n)))) (ranked r (g (i + suc n)) t) (m + 1) n (omega arith)
      ∙ last-first r t i n)

  -- all turns together give the children what they are to be given
  pub all-turns : (s : Side) (i r : ℕ) (t : List ℕ) (n : ℕ)
      → turns_from (nth_child s i (suc n)) r t 0 (suc n) ≡ given s r t i n
  all-turns Max i r t n = let a : i + 0 ≡ i = omega arith in rising i r t 0 n ∙ rw a
  all-turns Min i r t n = falling i (suc n) r t 0 n (omega arith)
