-- The verdict on questions in order: a "no" settles it, a question that passes leaves it to those that follow; and a
-- verdict says whether there was a "no", and which.
use Rattle.prelude.proofs.{ℕ, ◌≡◌, refl, Option, none, some, List, ℤ, Ok, Err}
use Rattle.lists.proofs.Choice.{clash}
use Rattle.table.specs.declared.Rejection.{Rejection}
use Rattle.table.specs.{◌and_then◌, answer}
use Rattle.table.proofs.Asked.{answer-nodes, answer-rejected}
use Rattle.certificate_check.specs.{judged}

module _ (t flags : List ℕ) (n : ℕ) (x y : Option Rejection) where
  pub judged-until : (r : Rejection) → Err r ≡ answer n x → Err r ≡ judged t flags (x and_then y)
  judged-until r e = rw (answer-rejected n r x e)

  pub judged-onward : (k : ℕ) → Ok k ≡ answer n x → judged t flags y ≡ judged t flags (x and_then y)
  judged-onward k e = rw (answer-nodes n k x e).0

module _ (t flags : List ℕ) where
  -- a certificate that gets a value is not rejected
  pub value-passed : {z : ℤ} (o : Option Rejection) → Ok z ≡ judged t flags o → o ≡ none
  value-passed none e = refl
  value-passed (some r) e = clash (cc)

  -- one that is rejected gets that rejection
  pub rejected-by : {r : Rejection} (o : Option Rejection) → Err r ≡ judged t flags o → o ≡ some r
  rejected-by none e = clash (cc)
  rejected-by (some s) e = cc
