-- From what a method answers, marks and lists to what a call gives and leaves.
use Rattle.prelude.proofs.{ℕ, ◌≡◌, refl, List, [], ◌∷◌}
use Rattle.lists.specs.{among}
use Rattle.gametree.specs.{Evaluation}
use Rattle.table.specs.{WellFormed, ◌leaving◌}
use Rattle.certificate_write.specs.{marks_of, listed}
use Rattle.certificate_write.proofs.Concluded.{concluded}
use Rattle.methods.specs.declared.Method.{Method}
use Rattle.methods.specs.declared.Answer.{Answer}
use Rattle.methods.specs.{evaluated_by, beyond, lent, answer_by, flags_left, given_by, certified_flags}

module _ (t : List ℕ) (wf : WellFormed t) (m : Method) (b c o : List ℕ) where
  -- what is read off the marks e are the flags of the leaves evaluated
  flags-left : (xs : List Evaluation) (e : List ℕ) → e ≡ marks_of (evaluated_by m t) t b
      → certified_flags (answer_by xs m t) t e c ≡ flags_left xs m t c
  flags-left [] e q = (concluded t wf (among (evaluated_by m t)) b e c q).1
  flags-left (x ∷ xs) e q = refl

  -- the answer a with the marks e, and the certificate c' that is made of them
  pub certifies : (a : Answer) (e e' c' o' : List ℕ) → a ≡ answer_by (beyond m t) m t
      → e ≡ marks_of (evaluated_by m t) t b → o' ≡ listed (evaluated_by m t) o → e' ≡ e → c' ≡ certified_flags a t e c
      → a leaving lent e' c' o' ≡ given_by m t (lent b c o)
  certifies a e e' c' o' answer marks order kept flags =
      rw (flags, kept, order, answer, flags-left (beyond m t) e marks, marks)
