-- The memory: its lengths, what is evaluated in it, and what has not changed.
use Rattle.prelude.proofs.{ℕ, ◌+◌, ◌<◌, arith, add-one, ℕ_discrete, ◌≡◌, refl, sym, ap, ◌∙◌, true, or-false, List, []}
use Rattle.prelude.proofs.{◌∷◌, ◌++◌, append-nil, append_assoc, length, set, take-suc-set, eq-eqb, ne_eqb}
use Rattle.lists.specs.{among}
use Rattle.lists.proofs.Lists.{among-append, among-right}
use Rattle.table.specs.{frames}
use Rattle.certificate_bounds.specs.{marked, mark_all, evaluate_all, Listable, Evaluable}
use Rattle.certificate_bounds.proofs.Marking.{marked_other}
use Rattle.certificate_bounds.proofs.Listing.{none-evaluated, evaluate_all-append, next-counted}
use Rattle.mtd_memory.proofs.Arrays.{marked-same}
use Rattle.mtdf_visits.specs.{Memory, progress_of, so_far, MemoryRoom, Long, Counted, Evaluated, Same}

-- so there is room in them as before
pub room-kept : {n : ℕ} {m m' : Memory} → MemoryRoom n m → Long m m' → MemoryRoom n m'
room-kept r l =
    record {
      evaluated = omega (arith, r.evaluated, l.evaluated);
      order = omega (arith, r.order, l.order);
      lows = omega (arith, r.lows, l.lows);
      highs = omega (arith, r.highs, l.highs);
    }

-- they are still as long after more
pub long-more : {m m' m'' : Memory} → Long m m' → Long m' m'' → Long m m''
long-more a b =
    record {
      evaluated = b.evaluated ∙ a.evaluated;
      order = b.order ∙ a.order;
      lows = b.lows ∙ a.lows;
      highs = b.highs ∙ a.highs;
    }

-- nothing was evaluated
pub evaluated-none : (m : Memory) → Evaluated m m []
evaluated-none m =
    record {
      all = none-evaluated m.leaves m.evaluated m.order refl;
      listed = sym (append-nil (so_far m));
    }

-- more leaves were evaluated behind the first
pub evaluated-more : {m m' m'' : Memory} {v w : List ℕ} → Evaluated m m' v → Evaluated m' m'' w → Evaluated m m''
    (v ++ w)
evaluated-more {m} {m'} {m''} {v} {w} a b =
    record {
      all = b.all ∙ ap (λ p. evaluate_all p w) a.all ∙ sym (evaluate_all-append (progress_of m) v w);
      listed = b.listed ∙ ap (λ l. l ++ w) a.listed ∙ append_assoc (so_far m) v w;
    }

-- nothing has changed at a node, twice
pub same_more : {m m' m'' : Memory} {k : ℕ} → Same m m' k → Same m' m'' k → Same m m'' k
same_more a b =
    record {
      evaluated = b.evaluated ∙ a.evaluated;
      low = b.low ∙ a.low;
      high = b.high ∙ a.high;
    }

-- among the leaves w and i
pub among-other : (w : List ℕ) (i k : ℕ) → (k ≡ i → ⊥) → among (w ++ (i ∷ [])) k ≡ among w k
among-other w i k h = among-append w (i ∷ []) k ∙ rw (ne_eqb k i h) (or-false (among w k))

pub among-own : (w : List ℕ) (i : ℕ) → among (w ++ (i ∷ [])) i ≡ true
among-own w i = among-right w (i ∷ []) i (rw (eq-eqb i i refl))

-- the marks after the leaf i was evaluated
marks-more : (e w : List ℕ) (i k : ℕ) → i < length e → marked e k ≡ among w k
    → marked (set e i 1) k ≡ among (w ++ (i ∷ [])) k
marks-more e w i k h d =
    elim (ℕ_discrete k i) [
      | yes p ↦ rw p (marked-same e i true h ∙ sym (among-own w i))
      | no p ↦ marked_other e i k 1 p ∙ d ∙ sym (among-other w i k p)
    ]

-- the leaf i is evaluated: it is counted, marked and listed, and its bounds are stored
module _ (t : List ℕ) (m m' : Memory) (i d : ℕ) (room : MemoryRoom (frames t) m) (counted : Counted t m)
    (u : Evaluable t m.evaluated i d) (listable : Listable t (progress_of m))
    (all : progress_of m' ≡ evaluate_all (progress_of m) (i ∷ [])) (fits : m.leaves < length m.order) where
  n : m'.leaves ≡ m.leaves + 1
  n = ap (λ p. p.leaves) all

  leaf-listed : so_far m' ≡ so_far m ++ (i ∷ [])
  leaf-listed =
      let o : m'.order ≡ set m.order m.leaves i = ap (λ p. p.order) all in
      rw (n, o, add-one) (take-suc-set m.order m.leaves i fits)

  pub leaf-evaluated : Evaluated m m' (i ∷ [])
  leaf-evaluated = record { all = all; listed = leaf-listed }

  pub leaf-counted : Counted t m'
  unfolding mark_all
  leaf-counted =
      let e : m'.evaluated ≡ set m.evaluated i 1 = ap (λ p. p.marks) all in
      record {
        number = rw (n, e) (next-counted t listable u);
        marks = λ k l.
            rw (e, leaf-listed) (marks-more m.evaluated (so_far m) i k u.room (counted.marks k l));
      }
