-- The questions about a leaf and a wanted value: one law for each answer.
use Rattle.prelude.proofs.{ℕ, ◌≡◌, refl, true, false, Option, none, some, ◌⊎◌, inl, Result, Err}
use Rattle.prelude.proofs.{inr, List, leb, ℤ, nat_abs}
use Rattle.lists.proofs.Choice.{clash}
use Rattle.table.specs.declared.Rejection.{Rejection}
use Rattle.table.specs.{is_leaf, score_of, max_value, ◌and_then◌, unless, rejection, Accepted}
use Rattle.leaf_value.specs.{check19, check20, smallest, answer_for, value_rejection, least_value}

-- a "no" to question q, with its place
abbrev pub refused : ℕ → ℕ → Result ℤ Rejection
refused q p = Err (record { number = q; place = p })

module _ (t : List ℕ) (k : ℕ) where
  module _ (v : ℤ) where
    -- the answer that is due to 19 to 21
    abbrev pub due : Result ℤ Rejection
    due = unless (check19 t k and_then check20 v) Err (answer_for k (smallest t k (score_of v)))

    pub no-leaf : is_leaf t k ≡ false → due ≡ refused 19 k
    no-leaf e = rw e

    module _ (e : is_leaf t k ≡ true) where
      pub out_of_range : leb (nat_abs v) max_value ≡ false → due ≡ refused 20 0
      out_of_range f = rw (e, f)

      pub in-range : leb (nat_abs v) max_value ≡ true → due ≡ answer_for k (smallest t k (score_of v))
      in-range f = rw (e, f)

    -- questions 1 to 9 come before them
    pub table-refused : (r : Rejection) → rejection t ≡ some r → least_value t k v ≡ Err r
    unfolding least_value
    table-refused r e = rw e

    pub table-accepted : Accepted t → least_value t k v ≡ due
    unfolding least_value
    table-accepted a = rw a

-- an answer that rejects comes from an earlier question, or from 21
rejected-found : (k : ℕ) (o : Option ℕ) (r : Rejection) → answer_for k o ≡ Err r
    → r ≡ record { number = 21; place = k }
rejected-found k none r e = cc
rejected-found k (some s) r e = clash (cc)

rejected-unless : (k : ℕ) (o : Option Rejection) (p : Option ℕ) (r : Rejection)
    → unless o Err (answer_for k p) ≡ Err r
    → (o ≡ some r) ⊎ ((o ≡ none) × (r ≡ record { number = 21; place = k }))
rejected-unless k none p r e = inr (refl, rejected-found k p r e)
rejected-unless k (some s) p r e = inl (cc)

-- a rejection is the first "no" to 1 to 9, 19 and 20, or, where these have none, 21 at the leaf
pub first-no : (t : List ℕ) (k : ℕ) (w : ℤ) (r : Rejection) → least_value t k w ≡ Err r
    → (value_rejection t k w ≡ some r) ⊎ ((value_rejection t k w ≡ none) × (r ≡ record { number = 21; place = k }))
unfolding least_value
first-no t k w r e = rejected-unless k (value_rejection t k w) (smallest t k (score_of w)) r e
