-- Facts of every element of a list, and the set of a list's elements.
use Rattle.prelude.proofs.{ℕ, suc, ◌≤◌, arith, ◌≡◌, refl, sym, ◌∙◌, ap, subst, ⊎_elim, Bool, true, false, cond, ◌||◌}
use Rattle.prelude.proofs.{or_assoc, List, [], ◌∷◌, ◌++◌, eqb, length, eqb-true, eq-eqb, ne_eqb}
use Rattle.lists.specs.{All, among, Once, Subsequence, end, skip, keep}
use Rattle.lists.proofs.Choice.{true-not-false, or_left, or_right, or_cases}

module _ {ℓ κ} {A : Type ℓ} (P : A → Type κ) where
  -- of two lists, one after the other
  pub all_append : (xs ys : List A) → All P xs → All P ys → All P (xs ++ ys)
  all_append [] ys h k = k
  all_append (x ∷ xs) ys h k = (h.0, all_append xs ys h.1 k)

  -- of the first of them
  pub all_left : (xs ys : List A) → All P (xs ++ ys) → All P xs
  all_left [] ys h = tt
  all_left (x ∷ xs) ys h = (h.0, all_left xs ys h.1)

  -- of the second
  pub all_right : (xs ys : List A) → All P (xs ++ ys) → All P ys
  all_right [] ys h = h
  all_right (x ∷ xs) ys h = all_right xs ys h.1

-- what follows from a fact of every element
pub all_map {ℓ κ μ} : {A : Type ℓ} (P : A → Type κ) (Q : A → Type μ) → ((x : A) → P x → Q x) → (xs : List A)
    → All P xs → All Q xs
all_map P Q f [] h = tt
all_map P Q f (x ∷ xs) h = (f x h.0, all_map P Q f xs h.1)

-- two facts of every element give a third
pub all-zip {ℓ κ μ ν} : {A : Type ℓ} (P : A → Type κ) (Q : A → Type μ) (S : A → Type ν) → ((x : A) → P x → Q x → S x)
    → (xs : List A) → All P xs → All Q xs → All S xs
all-zip P Q S f [] h k = tt
all-zip P Q S f (x ∷ xs) h k = (f x h.0 k.0, all-zip P Q S f xs h.1 k.1)

-- each element of a list is among its elements
pub all_among : (xs : List ℕ) → All (λ n. among xs n ≡ true) xs
all_among [] = tt
all_among (x ∷ xs) = (
  or_left (eqb x x) (among xs x) (eq-eqb x x refl),
  all_map (λ n. among xs n ≡ true) _ (λ n h. or_right (eqb n x) (among xs n) h) xs (all_among xs),
)

-- what holds of each element holds of a number among them
pub all-at : (P : ℕ → Type 0) (xs : List ℕ) → All P xs → (n : ℕ) → among xs n ≡ true → P n
all-at P [] h n e = absurd (true-not-false e refl)
all-at P (x ∷ xs) h n e =
    ⊎_elim (λ d. subst P (sym (eqb-true n x d)) h.0) (λ d. all-at P xs h.1 n d)
    (or_cases (eqb n x) (among xs n) e)

-- what is among two lists, one after the other
pub among-append : (xs ys : List ℕ) (n : ℕ) → among (xs ++ ys) n ≡ among xs n || among ys n
among-append [] ys n = refl
among-append (x ∷ xs) ys n = rw (among-append xs ys n) (sym (or_assoc (eqb n x) (among xs n) (among ys n)))

-- so is what is among the first
pub among-left : (xs ys : List ℕ) (n : ℕ) → among xs n ≡ true → among (xs ++ ys) n ≡ true
among-left xs ys n e = among-append xs ys n ∙ or_left (among xs n) (among ys n) e

-- or among the second
pub among-right : (xs ys : List ℕ) (n : ℕ) → among ys n ≡ true → among (xs ++ ys) n ≡ true
among-right xs ys n e = among-append xs ys n ∙ or_right (among xs n) (among ys n) e

-- a number that differs from each element is not among them
pub among-out : (xs : List ℕ) (n : ℕ) → All (λ x. x ≡ n → ⊥) xs → among xs n ≡ false
among-out [] n h = refl
among-out (x ∷ xs) n h = rw (ne_eqb n x (λ e. h.0 (sym e))) (among-out xs n h.1)

-- a list of which each element has a fact that none of another's has, and no repetition in either
pub once-append : (P Q : ℕ → Type 0) → ((k : ℕ) → P k → Q k → ⊥) → (v w : List ℕ) → Once v → Once w → All P v
    → All Q w → Once (v ++ w)
once-append P Q f [] w a b p q = b
once-append P Q f (k ∷ v) w a b p q = (
  all_append (λ j. k ≡ j → ⊥) v w a.0 (all_map Q (λ j. k ≡ j → ⊥) (λ j y e. f j (subst P e p.0) y) w q),
  once-append P Q f v w a.1 b p.1 q,
)

-- the first part of a list without repetition has none
pub once-left : (v w : List ℕ) → Once (v ++ w) → Once v
once-left [] w o = tt
once-left (k ∷ v) w o = (all_left (λ j. k ≡ j → ⊥) v w o.0, once-left v w o.1)

-- a list without the first place of k
abbrev without : ℕ → List ℕ → List ℕ
without k [] = []
without k (x ∷ xs) = cond (eqb k x) xs (x ∷ without k xs)

without-length : (k : ℕ) (xs : List ℕ) → among xs k ≡ true → length xs ≡ suc (length (without k xs))
without-length k [] e = absurd (true-not-false e refl)
without-length k (x ∷ xs) e = at (without-length k xs) (eqb k x) refl e
  where
    at : (among xs k ≡ true → length xs ≡ suc (length (without k xs))) → (b : Bool) → eqb k x ≡ b
        → b || among xs k ≡ true
        → suc (length xs) ≡ suc (length (cond b xs (x ∷ without k xs)))
    at i true d e = refl
    at i false d e = ap suc (i e)

without_other : (k j : ℕ) (xs : List ℕ) → (k ≡ j → ⊥) → among xs j ≡ true → among (without k xs) j ≡ true
without_other k j [] d e = e
without_other k j (x ∷ xs) d e = at (without_other k j xs d) (eqb k x) refl
  where
    at : (among xs j ≡ true → among (without k xs) j ≡ true) → (b : Bool) → eqb k x ≡ b
        → among (cond b xs (x ∷ without k xs)) j ≡ true
    at i true f =
        ⊎_elim (λ z. absurd (d (eqb-true k x f ∙ sym (eqb-true j x z)))) (λ z. z) (or_cases (eqb j x) (among xs j) e)
    at i false f =
        ⊎_elim (λ z. or_left (eqb j x) _ z) (λ z. or_right (eqb j x) _ (i z)) (or_cases (eqb j x) (among xs j) e)

-- a list without repetition, of numbers that are among another's, is no longer than that one
pub once-length : (w v : List ℕ) → Once w → All (λ k. among v k ≡ true) w → length w ≤ length v
once-length [] v o a = omega arith
once-length (k ∷ w) v o a =
    let b = all-zip _ _ (λ j. among (without k v) j ≡ true) (λ j x y. without_other k j v x y) w o.0 a.1 in
    omega (arith, without-length k v a.0, once-length w (without k v) o.1 b)

-- what holds of a list holds of a subsequence
pub sub-all : (P : ℕ → Type 0) {xs ys : List ℕ} → Subsequence xs ys → All P ys → All P xs
sub-all P end h = tt
sub-all P (skip s) h = sub-all P s h.1
sub-all P (keep s) h = (h.0, sub-all P s h.1)

-- and a subsequence of a list without repetition has none
pub sub_once : {xs ys : List ℕ} → Subsequence xs ys → Once ys → Once xs
sub_once end h = tt
sub_once (skip s) h = sub_once s h.1
sub_once (keep {y = y} s) h = (sub-all (λ x. y ≡ x → ⊥) s h.0, sub_once s h.1)

-- some elements of a list are no more than all
pub sub-length : {xs ys : List ℕ} → Subsequence xs ys → length xs ≤ length ys
sub-length end = omega arith
sub-length (skip s) = omega (arith, sub-length s)
sub-length (keep s) = omega (arith, sub-length s)
