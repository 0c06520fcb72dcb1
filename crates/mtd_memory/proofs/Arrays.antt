-- Marks, flags and highs in arrays of numbers: what is stored and read, and the bounds that the marks give.
use Rattle.prelude.proofs.{ℕ, suc, ◌+◌, ◌/◌, ◌≤◌, ◌<◌, arith, ◌≡◌, refl, sym, ap, ap₂, ◌∙◌, inl, inr, Bool, true, false}
use Rattle.prelude.proofs.{cond, List, [], ◌∷◌, ◌++◌, eqb, length, get_or, set, get_or-set_same, set-get_or}
use Rattle.gametree.specs.declared.Side.{Side}
use Rattle.gametree.specs.{Tree, leaf, inner, Children, last, ◌then◌, better, minimax, minimax_children, In, InChildren}
use Rattle.gametree.specs.{known, Bits}
use Rattle.certificate_bounds.specs.{marked, progress, evaluate_all}
use Rattle.certificate_bounds.proofs.Listing.{none-evaluated, one-evaluated, evaluate_all-append}
use Rattle.table.specs.{first_child, child_count}
use Rattle.mtd_memory.specs.declared.Memory.{Memory as Lent}
use Rattle.mtd_memory.specs.{Memory, Long, SameArrays, progress_of, MemoryRoom, Evaluated, Explored, NamesTwo, Skips}

-- what stands there already is stored
pub set_same : (l : List ℕ) (i v : ℕ) → get_or l i 0 ≡ v → set l i v ≡ l
set_same l i v e = ap (set l i) (sym e) ∙ set-get_or l i 0

-- a small entry names no children
pub no-leads : {h : List ℕ} {first end x : ℕ} → x < 256 → NamesTwo h first end x
no-leads few =
    record {
      lead = λ n. absurd (omega arith);
      second = λ n. absurd (omega arith);
      apart = λ n. absurd (omega arith);
      others = λ n. absurd (omega arith);
    }

-- the entry names the same children where the highs of all but the leading one are the same
pub leads-others : {h h' : List ℕ} {first end x : ℕ}
    → ((j : ℕ) → first ≤ j → j < end → (j + 1 ≡ first + x / 256 → ⊥) → get_or h' j 0 ≡ get_or h j 0)
    → NamesTwo h first end x → NamesTwo h' first end x
leads-others {x = x} same l =
    record {
      lead = l.lead;
      second = l.second;
      apart = l.apart;
      others = λ n j a b c.
          omega (
            arith,
            l.others n j a b c,
            same j a b c,
            same _ (omega arith) (l.second n) (λ e. l.apart n (omega (arith, e))),
          );
    }

-- a node that skips no child and names none
pub no-skips : (t : List ℕ) (m : Memory) (k : ℕ) → get_or m.not_below k 0 ≤ 1 → Skips t m k
no-skips t m k e =
    record {
      few = λ w h. absurd (omega (arith, e));
      explored = λ w j a b. absurd (omega (arith, e));
      leads = λ w. no-leads (omega (arith, e));
    }

-- what is explored stays so where the entries are the same
pub explored-same : {t : List ℕ} {m m' : Memory} {j : ℕ} → marked m'.evaluated j ≡ marked m.evaluated j
    → marked m'.not_below j ≡ marked m.not_below j → Explored t m j → Explored t m' j
explored-same e f s = record { leaf-is = λ n. e ∙ s.leaf-is n; inner-is = λ n. f ∙ s.inner-is n }

-- and so do the children to skip or to try
pub skips-same : {t : List ℕ} {m m' : Memory} {k : ℕ} → get_or m'.not_below k 0 ≡ get_or m.not_below k 0
    → ((j : ℕ) → first_child t k ≤ j → j < first_child t k + child_count t k
    → (marked m'.evaluated j ≡ marked m.evaluated j) × (marked m'.not_below j ≡ marked m.not_below j)
    × (get_or m'.highs j 0 ≡ get_or m.highs j 0))
    → Skips t m k → Skips t m' k
skips-same e f s =
    record {
      few = λ w h. omega (arith, e, s.few w (omega (arith, e)));
      explored = λ w j a b.
          let x = f j a (omega (arith, e, s.few w (omega (arith, e)))) in
          explored-same x.0 x.1 (s.explored w j a (omega (arith, e)));
      leads = λ w. rw e (leads-others (λ j a b _. (f j a b).2) (s.leads w));
    }

-- a flag that is stored is read
pub marked-same : (l : List ℕ) (i : ℕ) (b : Bool) → i < length l → marked (set l i (cond b 1 0)) i ≡ b
marked-same l i true h = ap (λ x. eqb x 1) (get_or-set_same l i 1 0 h)
marked-same l i false h = ap (λ x. eqb x 1) (get_or-set_same l i 0 0 h)

mutual
  -- a bound of a tree depends on the marks of its nodes only
  pub bound-local : (ν : ℕ → ℕ) (M N : Bits) (x : ℕ) (T : Tree) → ((p : ℕ) → In p T → M p ≡ N p)
      → minimax (known ν M x) T ≡ minimax (known ν N x) T
  bound-local ν M N x (leaf n) e = ap (λ b. cond b (ν n) x) (e n refl)
  bound-local ν M N x (inner n s ks) e = bound-local-kids ν M N x s ks (λ p i. e p (inr i))

  bound-local-kids : (ν : ℕ → ℕ) (M N : Bits) (x : ℕ) (s : Side) (ks : Children)
      → ((p : ℕ) → InChildren p ks → M p ≡ N p)
      → minimax_children (known ν M x) s ks ≡ minimax_children (known ν N x) s ks
  bound-local-kids ν M N x s (last T) e = bound-local ν M N x T e
  bound-local-kids ν M N x s (T then ts) e =
      ap₂ (better s) (bound-local ν M N x T (λ p i. e p (inl i))) (bound-local-kids ν M N x s ts (λ p i. e p (inr i)))

-- where the arrays keep their lengths, there is room in them as before
pub room-kept : {n : ℕ} {m m' : Memory} → MemoryRoom n m → Long m m' → MemoryRoom n m'
room-kept r l =
    record {
      evaluated = omega (arith, r.evaluated, l.evaluated);
      order = omega (arith, r.order, l.order);
      highs = omega (arith, r.highs, l.highs);
      not_below = omega (arith, r.not_below, l.not_below);
    }

-- and room for one of the nodes
pub room_at : {n i : ℕ} {m : Memory} → MemoryRoom n m → i < n → MemoryRoom (suc i) m
room_at r h =
    record {
      evaluated = omega (arith, r.evaluated);
      order = omega (arith, r.order);
      highs = omega (arith, r.highs);
      not_below = omega (arith, r.not_below);
    }

-- what keeps its lengths twice keeps them
long-on : {m m' m'' : Memory} → Long m m' → Long m' m'' → Long m m''
long-on x y =
    record {
      evaluated = y.evaluated ∙ x.evaluated;
      order = y.order ∙ x.order;
      highs = y.highs ∙ x.highs;
      not_below = y.not_below ∙ x.not_below;
    }

-- what stays in the same buffers twice stays in them
pub same-arrays : {a b c : Lent} → SameArrays a b → SameArrays b c → SameArrays a c
same-arrays x y =
    record {
      evaluations = y.evaluations ∙ x.evaluations;
      buffers = (y.buffers.0 ∙ x.buffers.0, y.buffers.1 ∙ x.buffers.1);
      highs = y.highs ∙ x.highs;
      not_below = y.not_below ∙ x.not_below;
      long = long-on x.long y.long;
    }

-- what is not written stays in the same buffers
pub same-at-once : (a : Lent) → SameArrays a a
same-at-once a =
    record {
      evaluations = refl;
      buffers = (refl, refl);
      highs = refl;
      not_below = refl;
      long = record { evaluated = refl; order = refl; highs = refl; not_below = refl };
    }

-- nothing was evaluated
pub evaluated-none : (m : Memory) → Evaluated m m []
evaluated-none m = record { all = none-evaluated m.leaves m.evaluated m.order refl }

-- more leaves were evaluated behind the first
pub evaluated-more : {m m' m'' : Memory} {v w : List ℕ} → Evaluated m m' v → Evaluated m' m'' w → Evaluated m m''
    (v ++ w)
evaluated-more {m} {m'} {m''} {v} {w} a b =
    record { all = b.all ∙ ap (λ p. evaluate_all p w) a.all ∙ sym (evaluate_all-append (progress_of m) v w) }

-- a leaf with a mark is not evaluated again, and one without is
pub leaf-again : (n i : ℕ) (e o : List ℕ) → marked e i ≡ true
    → progress n e o ≡ evaluate_all (progress n e o) (cond (marked e i) [] (i ∷ []))
leaf-again n i e o h = rw h (none-evaluated n e o refl)

pub leaf_first : (n n' i : ℕ) (e e' o o' : List ℕ) → marked e i ≡ false → n' ≡ n + 1 → e' ≡ set e i 1 → o' ≡ set o n i
    → progress n' e' o' ≡ evaluate_all (progress n e o) (cond (marked e i) [] (i ∷ []))
leaf_first n n' i e e' o o' h p q r = rw h (one-evaluated n i e o p q r)
