-- Leaves that are marked, counted and listed one by one: the count is that of the marks, so that a leaf without a mark
-- has an entry in the list.
use Rattle.prelude.proofs.{ℕ, zero, suc, ◌+◌, ◌≤◌, ◌<◌, arith, dec_lt, ◌≡◌, refl, sym, ap, ap₂, ◌∙◌, false, cond, List}
use Rattle.prelude.proofs.{[], ◌∷◌, ◌++◌, length, set, drop, length-append, get_or-set_same, sets, sets-eq}
use Rattle.lists.specs.{count_from}
use Rattle.lists.proofs.Counting.{one-most, count_most, count_next}
use Rattle.table_positions.specs.{written}
use Rattle.table.specs.{max_nodes, frames}
use Rattle.certificate_bounds.specs.{marked, ones, mark_all, Progress, progress, evaluate_all, Listable, Evaluable}
use Rattle.certificate_bounds.proofs.Marking.{marked_other, mark_all-append, cleared-unmarked}

-- fewer marks than nodes where a node has none
pub ones-fewer : (e : List ℕ) (n k : ℕ) → k < n → marked e k ≡ false → ones e n < n
ones-fewer e zero k h u = absurd (omega arith)
ones-fewer e (suc n) k h u =
    rw (count_next (marked e) n)
    (elim (dec_lt k n) [
      | yes l ↦ omega (arith, ones-fewer e n k l u, one-most (marked e n))
      | no l ↦ (let z : k ≡ n = omega arith in rw (rw z at u) (omega (arith, count_most (marked e) 0 n)))
    ])

-- where no node is marked the count is 0
pub ones_none : (e : List ℕ) (n : ℕ) → ((k : ℕ) → k < n → marked e k ≡ false) → ones e n ≡ 0
unfolding count_from
ones_none e zero u = refl
ones_none e (suc n) u =
    count_next (marked e) n ∙ rw (u n (omega arith)) (omega (arith, ones_none e n (λ k h. u k (omega arith))))

-- a mark behind the nodes is not counted
ones-behind : (e : List ℕ) (n k : ℕ) → n ≤ k → ones (set e k 1) n ≡ ones e n
unfolding count_from
ones-behind e zero k h = refl
ones-behind e (suc n) k h =
    rw (count_next (marked (set e k 1)) n, count_next (marked e) n)
    (ap₂ (λ x b. x + cond b 1 0) (ones-behind e n k (omega arith)) (marked_other e k n 1 (λ q. omega arith)))

-- a new mark is one more
pub ones-set : (e : List ℕ) (n k : ℕ) → k < n → k < length e → marked e k ≡ false → ones (set e k 1) n ≡ ones e n + 1
ones-set e zero k h r u = absurd (omega arith)
ones-set e (suc n) k h r u =
    rw (count_next (marked (set e k 1)) n, count_next (marked e) n)
    (elim (dec_lt k n) [
      | yes l ↦ rw (marked_other e k n 1 (λ q. omega arith)) (omega (arith, ones-set e n k l r u))
      | no l ↦ (let z : n ≡ k = omega arith in
          rw (z, u, get_or-set_same e k 1 0 r) (omega (arith, ones-behind e k k (omega arith))))
    ])

-- the leaves w, then the leaves v
sets-append : (o : List ℕ) (n : ℕ) (w v : List ℕ) → sets o n (w ++ v) ≡ sets (sets o n w) (n + length w) v
sets-append o n [] v = ap (λ m. sets o m v) (omega arith)
sets-append o n (k ∷ w) v =
    sets-append (set o n k) (suc n) w v ∙ ap (λ m. sets (sets (set o n k) (suc n) w) m v) (omega arith)

pub evaluate_all-append : (p : Progress) (w v : List ℕ)
    → evaluate_all p (w ++ v) ≡ evaluate_all (evaluate_all p w) v
evaluate_all-append p w v =
    let a : p.leaves + length (w ++ v) ≡ p.leaves + length w + length v = simp length-append (omega arith) in
    rw (a, mark_all-append p.marks w v, sets-append p.order p.leaves w v)

-- one leaf more
pub one-evaluated : (n k : ℕ) (e o : List ℕ) {n' : ℕ} {e' o' : List ℕ} → n' ≡ n + 1 → e' ≡ set e k 1
    → o' ≡ set o n k → progress n' e' o' ≡ evaluate_all (progress n e o) (k ∷ [])
unfolding mark_all
one-evaluated n k e o a b d = rw (a, b, d)

-- no leaf
pub none-evaluated : (n : ℕ) (e o : List ℕ) {w : List ℕ} → w ≡ []
    → progress n e o ≡ evaluate_all (progress n e o) w
unfolding mark_all
none-evaluated n e o z =
    let a : n ≡ n + 0 = omega arith in rw z (ap (λ m. progress m e o) a)

-- a list that is filled from its first entry on holds the leaves, and then what it held before
pub sets_first : (o w : List ℕ) → length w ≤ length o → sets o 0 w ≡ w ++ drop (length w) o
sets_first o w h =
    let z : 0 + length w ≡ length w = omega arith in
    sets-eq w o 0 (omega arith) ∙ ap (λ n. w ++ drop n o) z

-- the leaves w, evaluated from the first on: they are counted, marked and listed
pub first-evaluated : (n m : ℕ) (e e' o o' w : List ℕ) → progress n e' o' ≡ evaluate_all (progress 0 e o) w
    → n ≡ ones e' m → m ≤ length o
    → (n ≡ length w) × ((e' ≡ mark_all e w) × (o' ≡ w ++ drop (length w) o))
first-evaluated n m e e' o o' w d c r =
    let a : n ≡ length w = omega (arith, ap (λ p. p.leaves) d) in
    (a, (ap (λ p. p.marks) d, ap (λ p. p.order) d ∙ sets_first o w (omega (arith, count_most (marked e') 0 m))))

-- before the first leaf is evaluated
pub listable-first : (t e e₁ o : List ℕ) (n : ℕ) → e₁ ≡ written (λ k. 0) n e → n ≡ frames t → frames t ≤ max_nodes
    → frames t ≤ length o → Listable t (progress 0 e₁ o)
listable-first t e e₁ o n c q at_most room =
    record {
      at_most = at_most;
      room = room;
      counted = sym (ones_none e₁ (frames t) (λ k h. cleared-unmarked n e c k (omega arith)));
    }

module _ (t : List ℕ) {p : Progress} (l : Listable t p) {i d : ℕ} (u : Evaluable t p.marks i d) where
  -- a leaf without a mark has an entry in the list
  pub next_fits : p.leaves < frames t
  next_fits = omega (arith, l.counted, ones-fewer p.marks (frames t) i u.inside u.unmarked)

  -- after its evaluation the count is that of the marks again
  pub next-counted : p.leaves + 1 ≡ ones (set p.marks i 1) (frames t)
  next-counted =
      omega (arith, l.counted, ones-set p.marks (frames t) i u.inside u.room u.unmarked)
