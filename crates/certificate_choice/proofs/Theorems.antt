-- What is chosen of two lent certificates, and what is handed back.
use Rattle.prelude.proofs.{Result}
use Rattle.prelude.proofs.{ℕ, ◌≤◌, ◌<◌, arith, ◌≡◌, refl, sym, ap, ◌∙◌, ◌⊎◌, inl, inr, Bool, cond, Option, none, some}
use Rattle.prelude.proofs.{Ok, Err}
use Rattle.prelude.proofs.{List, [], length, take, length-take, ltb, lt-ltb, le-ltb}
use Rattle.lists.proofs.Choice.{clash}
use Rattle.gametree.specs.{minimax}
use Rattle.gametree_theory.proofs.Theorems.{certificate-minimax}
use Rattle.table.specs.declared.Rejection.{Rejection}
use Rattle.table.specs.{frames, ◌and_then◌, unless, tree, valuation, value_of, rejection}
use Rattle.table.proofs.Stated.{both-passed, passed-both}
use Rattle.table.proofs.Acceptance.{accepted-formed}
use Rattle.certificate_check.specs.{flags_rejection, certificate_rejection, judged, verdict}
use Rattle.certificate_check.specs.Certificate.{Certificate}
use Rattle.certificate_check.proofs.Judging.{rejected-by}
use Rattle.certificate_check.proofs.Theorems.{certificate-passed, certificate-verdict, verdict-certificate}
use Rattle.certificate_check.proofs.Parts.{certificate-part}
use Rattle.certificate_choice.specs.declared.Chosen.{Chosen}
use Rattle.certificate_choice.specs.declared.Chosen.TheVariants.{First, Second}
use Rattle.certificate_choice.specs.{flagged_leaves, choice_by, choice, flags_by, chosen_flags}
use Rattle.certificate_choice.proofs.Choosing.{choice-says}

-- where neither passes, the first one's rejection stands, which is the table's if the table has one
both-rejected : (o p q : Option Rejection) (b : Bool) {r s : Rejection} → o and_then p ≡ some r → o and_then q ≡ some s
    → unless o Err (choice_by p q b) ≡ Err r
both-rejected none none q b e d = clash (cc)
both-rejected none (some x) none b e d = clash (cc)
both-rejected none (some x) (some y) b e d = cc
both-rejected (some x) p q b e d = cc

-- a rejection is the first "no"
refused : (t flags : List ℕ) {r : Rejection} → verdict t flags ≡ Err r
    → certificate_rejection t flags ≡ some r
unfolding verdict
refused t flags e = rejected-by t flags (certificate_rejection t flags) (sym e)

-- flags that are a certificate of t, as many as t has nodes
abbrev Part : (t flags : List ℕ) → Type 0
Part t flags = (length flags ≡ frames t) × (v : ℕ) × Certificate t flags v

-- of flags that pass every question, those of the nodes are
part : (t flags : List ℕ) → rejection t ≡ none → flags_rejection t flags ≡ none → Part t (take (frames t) flags)
unfolding verdict certificate_rejection
part t flags e d =
    let p = passed-both (rejection t) (flags_rejection t flags) e d in
    let c = verdict-certificate t flags _ (ap (judged t flags) p) in
    let l = c.1.enough in
    (simp length-take (omega arith), c.0, certificate-part t flags c.1)

module _ (t f s : List ℕ) where
  module _ {v w : ℕ} (c : Certificate t f v) (d : Certificate t s w) where
    both : choice t f s ≡ cond (ltb (flagged_leaves t s) (flagged_leaves t f)) (Ok Second) (Ok First)
    unfolding choice certificate_rejection
    both =
        let a = both-passed (rejection t) _ (certificate-passed t f _ c) in
        let b = both-passed (rejection t) _ (certificate-passed t s _ d) in
        rw (a.0, a.1, b.1)

    pub both-second : flagged_leaves t s < flagged_leaves t f → choice t f s ≡ Ok Second
    both-second h = both ∙ rw (lt-ltb _ _ h)

    pub both_first : flagged_leaves t f ≤ flagged_leaves t s → choice t f s ≡ Ok First
    both_first h = both ∙ rw (le-ltb _ _ h)

  pub only-first : {v : ℕ} {r : Rejection} → Certificate t f v → verdict t s ≡ Err r
      → choice t f s ≡ Ok First
  unfolding choice certificate_rejection
  only-first {v} {r} c e =
      let a = both-passed (rejection t) _ (certificate-passed t f _ c) in
      let b : flags_rejection t s ≡ some r = rw a.0 at (refused t s e) in
      rw (a.0, a.1, b)

  pub only-second : {w : ℕ} {r : Rejection} → verdict t f ≡ Err r → Certificate t s w
      → choice t f s ≡ Ok Second
  unfolding choice certificate_rejection
  only-second {w} {r} e d =
      let b = both-passed (rejection t) _ (certificate-passed t s _ d) in
      let a : flags_rejection t f ≡ some r = rw b.0 at (refused t f e) in
      rw (b.0, a, b.1)

  pub neither : {r q : Rejection} → verdict t f ≡ Err r → verdict t s ≡ Err q
      → choice t f s ≡ Err r
  unfolding choice certificate_rejection
  neither e d = both-rejected (rejection t) (flags_rejection t f) (flags_rejection t s) _ (refused t f e)
      (refused t s d)

  -- a rejected table settles it
  pub table-rejected : {r : Rejection} → rejection t ≡ some r → choice t f s ≡ Err r
  unfolding choice
  table-rejected e = rw e

  -- what is handed back
  pub handed-first : choice t f s ≡ (Ok First) → chosen_flags t f s ≡ take (frames t) f
  handed-first e = ap (flags_by t f s) e

  pub handed-second : choice t f s ≡ (Ok Second) → chosen_flags t f s ≡ take (frames t) s
  handed-second e = ap (flags_by t f s) e

  pub handed-none : {r : Rejection} → choice t f s ≡ Err r → chosen_flags t f s ≡ []
  handed-none e = ap (flags_by t f s) e

  -- what is handed back is a certificate
  handed-part : (choice t f s ≡ Ok First) ⊎ (choice t f s ≡ Ok Second) → Part t (chosen_flags t f s)
  handed-part (inl e) = let a = choice-says t f s (Ok First) (sym e) in rw e (part t f a.0 a.1)
  handed-part (inr e) = let a = choice-says t f s (Ok Second) (sym e) in rw e (part t s a.0 a.1)

  -- it has a flag for each node, and the minimax value
  pub handed-size : (choice t f s ≡ Ok First) ⊎ (choice t f s ≡ Ok Second) → length (chosen_flags t f s) ≡ frames t
  handed-size h = (handed-part h).0

  pub handed-value : (choice t f s ≡ Ok First) ⊎ (choice t f s ≡ Ok Second)
      → verdict t (chosen_flags t f s) ≡ Ok (value_of (minimax (valuation t) (tree t)))
  handed-value h =
      let c = (handed-part h).2 in
      certificate-verdict t (chosen_flags t f s) _ c
      ∙ ap (λ x. Ok (value_of x)) (certificate-minimax (valuation t) (tree t) _ _ _ c.certifies)

  -- a rejection is the first certificate's verdict
  pub refused-first : {r : Rejection} → choice t f s ≡ Err r → verdict t f ≡ Err r
  unfolding verdict certificate_rejection
  refused-first {r} e = ap (judged t f) (choice-says t f s (Err r) (sym e))

  -- where nothing is handed back there is a rejection: a certificate has a flag for the root
  not-empty : (choice t f s ≡ Ok First) ⊎ (choice t f s ≡ Ok Second) → chosen_flags t f s ≡ [] → ⊥
  not-empty h e =
      let p = handed-part h in
      omega (arith, sym p.0 ∙ ap length e, (accepted-formed t p.2.accepted).non_empty)

  by-choice : (c : Result Chosen Rejection) → choice t f s ≡ c → chosen_flags t f s ≡ []
      → (r : Rejection) × (choice t f s ≡ Err r)
  by-choice (Ok First) e h = absurd (not-empty (inl e) h)
  by-choice (Ok Second) e h = absurd (not-empty (inr e) h)
  by-choice (Err r) e h = (r, e)

  pub empty-refused : chosen_flags t f s ≡ [] → (r : Rejection) × (choice t f s ≡ Err r)
  empty-refused h = by-choice (choice t f s) refl h
