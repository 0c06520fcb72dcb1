-- A question that passes was answered yes, and a node passes questions 4 to 7 exactly when its frame is as stated.
use Rattle.prelude.proofs.{ℕ, zero, suc, ◌<◌, arith, ◌≡◌, refl, ◌⊎◌, inl, inr, ⊎_elim, Bool, true, false, ◌&&◌, Option}
use Rattle.prelude.proofs.{none, some, List, ltb, eqb, ltb-true, leb-true, eqb-true, lt-ltb, le-leb, eq-eqb}
use Rattle.gametree.specs.{Score}
use Rattle.lists.proofs.Choice.{clash, or_cases, or_right, and_both}
use Rattle.table.specs.declared.Rejection.{Rejection}
use Rattle.table.specs.{first_child, child_count, byte3, same_mover, value_bytes, stored_score, next, ask, ◌and_then◌}
use Rattle.table.specs.{byte3_right, first_child_right, value_right, check4, check5, check6, check7, check_node}
use Rattle.table.specs.{FrameAsStated}

-- a rejection is not none
some-none : {r : Rejection} → some r ≡ none → ⊥
some-none e = clash (cc)

-- a question that passed was answered yes
pub ask-yes : (b : Bool) (q p : ℕ) → ask b q p ≡ none → b ≡ true
ask-yes true q p e = refl
ask-yes false q p e = absurd (some-none e)

pub yes-ask : (b : Bool) (q p : ℕ) → b ≡ true → ask b q p ≡ none
yes-ask b q p e = rw e

-- questions in order pass when each does
pub both-passed : (x y : Option Rejection) → (x and_then y) ≡ none → (x ≡ none) × (y ≡ none)
both-passed none y e = (refl, e)
both-passed (some r) y e = absurd (some-none e)

pub passed-both : (x y : Option Rejection) → x ≡ none → y ≡ none → (x and_then y) ≡ none
passed-both x y e f = rw e f

-- past a question that passes the next ones decide
pub passed_then : (x y : Option Rejection) → x ≡ none → (x and_then y) ≡ y
passed_then x y e = rw e

module _ (t : List ℕ) (i : ℕ) where
  -- what question 4 says of a node
  abbrev Mover : Type 0
  Mover = (byte3 t i ≡ 0) ⊎ ((byte3 t i ≡ same_mover) × (0 < i) × (0 < child_count t i))

  right-mover : byte3_right t i ≡ true → Mover
  right-mover e =
      ⊎_elim (λ z. inl (eqb-true _ _ z)) (λ s.
      let p = and_both _ _ s in
      let q = and_both _ _ p.1 in
      inr (eqb-true _ _ q.1, ltb-true _ _ p.0, ltb-true _ _ q.0))
      (or_cases (eqb (byte3 t i) 0) (ltb 0 i && (ltb 0 (child_count t i) && eqb (byte3 t i) same_mover)) e)

  mover-right : Mover → byte3_right t i ≡ true
  mover-right (inl z) = rw (eq-eqb _ _ z)
  mover-right (inr s) =
      or_right (eqb (byte3 t i) 0) (ltb 0 i && (ltb 0 (child_count t i) && eqb (byte3 t i) same_mover))
      (rw (lt-ltb 0 i s.1, lt-ltb 0 (child_count t i) s.2, eq-eqb (byte3 t i) same_mover s.0))

  -- what question 6 says of a node with n children
  record FirstChild (n : ℕ) : Type 0 where
    leaf : n ≡ 0 → first_child t i ≡ 0
    first : 0 < n → first_child t i ≡ next t i
    later : 0 < n → i < first_child t i

  right-first : (n : ℕ) → first_child_right t i n ≡ true → FirstChild n
  right-first zero e =
      record {
        leaf = λ _. eqb-true _ _ e;
        first = λ h. absurd (omega arith);
        later = λ h. absurd (omega arith);
      }
  right-first (suc n) e =
      let p = and_both _ _ e in
      record { leaf = λ h. absurd (omega arith); first = λ _. eqb-true _ _ p.0; later = λ _. ltb-true _ _ p.1 }

  first-right : (n : ℕ) → FirstChild n → first_child_right t i n ≡ true
  first-right zero f = eq-eqb _ _ (f.leaf refl)
  first-right (suc n) f = rw (eq-eqb _ _ (f.first (omega arith)), lt-ltb _ _ (f.later (omega arith)))

  -- and question 7
  record Value (n : ℕ) : Type 0 where
    leaf : n ≡ 0 → Score (stored_score t i)
    inner : 0 < n → value_bytes t i ≡ 0

  right-value : (n : ℕ) → value_right t i n ≡ true → Value n
  right-value zero e =
      let p = and_both _ _ e in
      record { leaf = λ _. (ltb-true _ _ p.0, ltb-true _ _ p.1); inner = λ h. absurd (omega arith) }
  right-value (suc n) e = record { leaf = λ h. absurd (omega arith); inner = λ _. eqb-true _ _ e }

  value-right : (n : ℕ) → Value n → value_right t i n ≡ true
  value-right zero v = rw (lt-ltb _ _ (v.leaf refl).0, lt-ltb _ _ (v.leaf refl).1)
  value-right (suc n) v = eq-eqb _ _ (v.inner (omega arith))

  pub passed-stated : check_node t i ≡ none → FrameAsStated t i
  passed-stated e =
      let a = both-passed (check4 t i) _ e in
      let b = both-passed (check5 t i) _ a.1 in
      let c = both-passed (check6 t i) (check7 t i) b.1 in
      let f = right-first _ (ask-yes _ _ _ c.0) in
      let v = right-value _ (ask-yes _ _ _ c.1) in
      record {
        mover = right-mover (ask-yes _ _ _ a.0);
        few_children = leb-true _ _ (ask-yes _ _ _ b.0);
        leaf_first = f.leaf;
        leaf_value = v.leaf;
        inner_first = f.first;
        inner_later = f.later;
        inner_value = v.inner;
      }

  pub stated-passed : FrameAsStated t i → check_node t i ≡ none
  stated-passed s =
      passed-both (check4 t i) _ (yes-ask _ _ _ (mover-right s.mover))
      (passed-both (check5 t i) _ (yes-ask _ _ _ (le-leb _ _ s.few_children))
      (passed-both (check6 t i) (check7 t i)
      (yes-ask _ _ _ (first-right _ (record { leaf = s.leaf_first; first = s.inner_first; later = s.inner_later })))
      (yes-ask _ _ _ (value-right _ (record { leaf = s.leaf_value; inner = s.inner_value })))))
