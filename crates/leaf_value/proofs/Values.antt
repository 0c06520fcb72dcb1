-- Values as scores: a value's range, its score, and the order of both.
use Rattle.prelude.proofs.{ℕ, suc, ◌+◌, ◌-◌, ◌≤◌, ◌<◌, arith, dec_le, dec_lt, ◌≡◌, refl, sym, ap, ◌∙◌, true, false, leb}
use Rattle.prelude.proofs.{ℤ, pos, negsuc, neg_ℤ, nat_abs, lt_z, le_z, ◌<ℤ◌, clash_ℤ, le-ltb, le-leb, lt-leb, ltb-true}
use Rattle.prelude.proofs.{ltb-false}
use Rattle.lists.proofs.Choice.{true-not-false}
use Rattle.gametree.specs.{Score, zero_score}
use Rattle.table.specs.{value_of, score_of, max_value}
use Rattle.table.proofs.Values.{value-order, value-plus, value-below, score-back}

-- a value above the range is out of it
pub above-range : (v : ℤ) → lt_z (pos max_value) v ≡ true → false ≡ leb (nat_abs v) max_value
above-range (pos n) e = rw (lt-leb n max_value (ltb-true max_value n e))
above-range (negsuc n) e = absurd (true-not-false e refl)

-- and one that is not, is in it exactly if it is not below
pub not-above : (v : ℤ) → lt_z (pos max_value) v ≡ false → le_z (neg_ℤ (pos max_value)) v ≡ leb (nat_abs v) max_value
not-above (pos n) e = rw (le-leb n max_value (ltb-false max_value n e))
not-above (negsuc n) e =
    elim (dec_le (suc n) max_value) [
      | yes h ↦ rw (le-leb (suc n) max_value h, le-leb n (max_value - 1) (omega arith))
      | no h ↦ rw (lt-leb (suc n) max_value (omega arith), lt-leb n (max_value - 1) (omega arith))
    ]

-- the score of a value in range is that of a leaf
pub score-range : (v : ℤ) → nat_abs v ≤ max_value → Score (score_of v)
score-range (pos n) h = (omega arith, omega arith)
score-range (negsuc n) h = rw (le-ltb zero_score (suc n) (omega arith)) (omega arith, omega arith)

-- and its value is the value
pub score-value : (v : ℤ) → nat_abs v ≤ max_value → value_of (score_of v) ≡ v
score-value (pos n) h = value-plus (n + zero_score) n refl
score-value (negsuc n) h = rw (le-ltb zero_score (suc n) (omega arith))
    (value-below (zero_score - suc n) n (omega arith))

-- two scores of one value are one
pub same-scores : (r s : ℕ) → value_of r ≡ value_of s → r ≡ s
same-scores r s e = sym (score-back r) ∙ ap score_of e ∙ score-back s

-- a smaller value has a smaller score
pub smaller : (u v : ℤ) → nat_abs u ≤ max_value → nat_abs v ≤ max_value → u <ℤ v → score_of u < score_of v
smaller u v a b l =
    elim (dec_lt (score_of u) (score_of v)) [
      | yes h ↦ h
      | no h ↦
          clash_ℤ l (rw (score-value v b, score-value u a)
          at (value-order (score_of v) (score_of u) (omega arith)))
    ]
