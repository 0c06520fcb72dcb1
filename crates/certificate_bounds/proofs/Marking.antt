-- Marks that are set one by one.
use Rattle.prelude.proofs.{ℕ, ◌<◌, ◌≡◌, refl, ap, ◌∙◌, Bool, true, false, cond, ◌||◌, List, [], ◌∷◌, ◌++◌, eqb, length}
use Rattle.prelude.proofs.{set, length-set, get_or-set_other}
use Rattle.lists.specs.{All, among}
use Rattle.table_positions.specs.{written}
use Rattle.table_positions.proofs.Buffers.{written_at, written_same, put, written-set}
use Rattle.certificate_bounds.specs.{mark, marked, mark_all}

pub mark_all-append : (b v w : List ℕ) → mark_all b (v ++ w) ≡ mark_all (mark_all b v) w
unfolding mark_all
mark_all-append b [] w = refl
mark_all-append b (k ∷ v) w = mark_all-append (set b k 1) v w

-- a node's mark stays as it is where another's is set, and where it is not among those that are
pub marked_other : (l : List ℕ) (i p v : ℕ) → (p ≡ i → ⊥) → marked (set l i v) p ≡ marked l p
marked_other l i p v h = ap (λ x. eqb x 1) (get_or-set_other l i p v 0 h)

pub mark_all-other : (b w : List ℕ) (n : ℕ) → All (λ k. n ≡ k → ⊥) w → marked (mark_all b w) n ≡ marked b n
unfolding mark_all
mark_all-other b [] n a = refl
mark_all-other b (k ∷ w) n a =
    mark_all-other (set b k 1) w n a.1 ∙ marked_other b k n 1 a.0

pub mark_all-length : (b w : List ℕ) → length (mark_all b w) ≡ length b
unfolding mark_all
mark_all-length b [] = refl
mark_all-length b (k ∷ w) = mark_all-length (set b k 1) w ∙ length-set b k 1

-- marks of E with the leaves w evaluated are the marks of both
mark_all-written : (E : ℕ → Bool) (n : ℕ) (b w : List ℕ) → All (λ k. k < n) w
    → mark_all (written (mark E) n b) w ≡ written (mark (λ k. among w k || E k)) n b
unfolding mark_all
mark_all-written E n b [] a = refl
mark_all-written E n b (k ∷ w) a =
    ap (λ l. mark_all l w)
    (written-set (mark E) n k 1 b a.0
    ∙ written_same (put (mark E) k 1) (mark (λ j. eqb j k || E j)) n b (λ j h. one (eqb j k) (E j)))
    ∙ mark_all-written (λ j. eqb j k || E j) n b w a.1
    ∙ written_same _ (mark (λ j. among (k ∷ w) j || E j)) n b (λ j h. two (among w j) (eqb j k) (E j))
  where
    one : (p q : Bool) → ◌≡◌ {A = ℕ} (cond p 1 (cond q 1 0)) (cond (p || q) 1 0)
    one true q = refl
    one false q = refl

    two : (p q r : Bool) → ◌≡◌ {A = ℕ} (cond (p || (q || r)) 1 0) (cond ((q || p) || r) 1 0)
    two true true r = refl
    two true false r = refl
    two false true r = refl
    two false false r = refl

or-false : (b : Bool) → b || false ≡ b
or-false true = refl
or-false false = refl

-- after the clearing none of the n nodes has a mark
pub cleared-unmarked : (n : ℕ) (e : List ℕ) {e₁ : List ℕ} → e₁ ≡ written (λ k. 0) n e → (k : ℕ) → k < n
    → marked e₁ k ≡ false
cleared-unmarked n e p k l = ap (λ x. marked x k) p ∙ ap (λ x. eqb x 1) (written_at (λ k. 0) n k e l)

-- the marks of the leaves w, from a cleared buffer
pub marks-from-clear : (n : ℕ) (b w : List ℕ) → All (λ k. k < n) w
    → mark_all (written (λ k. 0) n b) w ≡ written (mark (among w)) n b
marks-from-clear n b w a =
    mark_all-written (λ k. false) n b w a
    ∙ written_same (mark (λ k. among w k || false)) (mark (among w)) n b
    (λ k h. ap (λ x. cond x 1 0) (or-false (among w k)))
