-- An outcome, taken apart: what an answer says of the questions, and of the memory that is left.
use Rattle.prelude.proofs.{◌≡◌, refl, sym, ap, Option, none, some}
use Rattle.table.specs.declared.Rejection.{Rejection}
use Rattle.table.specs.{unless, Outcome, ◌leaving◌}

-- the outcome o follows questions q, whose first "no" is answered by `refuse` and leaves l as it was
module _ {A B : Type 0} (refuse : Rejection → A) (o : Outcome A B) (l : B) where
  abbrev asked : Option Rejection → Outcome A B
  asked q = unless q (λ r. refuse r leaving l) o

  -- an answer that is no refusal: the questions passed
  pub by-given : (q : Option Rejection) (a : A) (l' : B) → ((r : Rejection) → a ≡ refuse r → ⊥)
      → a leaving l' ≡ asked q → (q ≡ none) × (a leaving l' ≡ o)
  by-given none a l' h s = (refl, s)
  by-given (some y) a l' h s = absurd (h y (ap (λ x. x.answer) s))

  -- a refusal, where o has none: it is the first "no", and what was lent is as it was
  pub by-refusal : ((r : Rejection) → o.answer ≡ refuse r → ⊥)
      → ((x y : Rejection) → refuse x ≡ refuse y → x ≡ y) → (q : Option Rejection) (r : Rejection) (l' : B)
      → refuse r leaving l' ≡ asked q → (q ≡ some r) × (l' ≡ l)
  by-refusal h same none r l' s = absurd (h r (sym (ap (λ x. x.answer) s)))
  by-refusal h same (some y) r l' s = (rw (same r y (ap (λ x. x.answer) s)) refl, ap (λ x. x.left) s)
