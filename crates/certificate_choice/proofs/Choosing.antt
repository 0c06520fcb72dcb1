-- What the verdict on each certificate says of the choice.
use Rattle.prelude.proofs.{Result, Ok, Err}
use Rattle.prelude.proofs.{ℕ, ◌≤◌, ◌≡◌, refl, Bool, true, false, Option, none, some, List, [], ◌∷◌, length, ltb}
use Rattle.prelude.proofs.{leb-true}
use Rattle.lists.proofs.Choice.{and_both}
use Rattle.table.specs.declared.Rejection.{Rejection}
use Rattle.table.specs.{frames, ◌and_then◌, rejection, check10, unless}
use Rattle.table.proofs.Stated.{ask-yes, both-passed}
use Rattle.certificate_check.specs.{flags_rejection}
use Rattle.certificate_choice.specs.declared.Chosen.{Chosen}
use Rattle.certificate_choice.specs.declared.Chosen.TheVariants.{First, Second}
use Rattle.certificate_choice.specs.{flagged_leaves, choice_by, choice}

module _ (t flags : List ℕ) where
  -- a certificate that passes question 10 has a flag for each node
  pub passed-enough : flags_rejection t flags ≡ none → frames t ≤ length flags
  unfolding flags_rejection
  passed-enough e =
      let a = both-passed (check10 (frames t) (length flags ∷ [])) _ e in
      leb-true _ _ (and_both _ true (ask-yes _ 10 0 a.0)).0

-- what a choice says of the rejections: neither the table nor the chosen certificate is rejected; or the table is, or
-- else the first certificate
abbrev Says : (o p q : Option Rejection) → Result Chosen Rejection → Type 0
Says o p q (Ok First) = (o ≡ none) × (p ≡ none)
Says o p q (Ok Second) = (o ≡ none) × (q ≡ none)
Says o p q (Err r) = o and_then p ≡ some r

says : (o p q : Option Rejection) (b : Bool) → Says o p q (unless o Err (choice_by p q b))
says none none none true = (refl, refl)
says none none none false = (refl, refl)
says none none (some s) b = (refl, refl)
says none (some r) none b = (refl, refl)
says none (some r) (some s) b = refl
says (some r) p q b = refl

pub choice-says : (t f s : List ℕ) (c : Result Chosen Rejection) → c ≡ choice t f s
    → Says (rejection t) (flags_rejection t f) (flags_rejection t s) c
unfolding choice
choice-says t f s c e =
    rw e (says (rejection t) (flags_rejection t f) (flags_rejection t s)
    (ltb (flagged_leaves t s) (flagged_leaves t f)))
