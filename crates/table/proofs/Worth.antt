-- The worth of a leaf: its score case by case, that the score is that of the worth, and where worths lie.
use Rattle.prelude.proofs.{ℕ, zero, suc, ◌+◌, ◌-◌, ◌≤◌, ◌<◌, arith, dec_lt, ◌≡◌, ap, sym, ◌∙◌, ◌↔◌, ℤ, pos, negsuc}
use Rattle.prelude.proofs.{nat_abs, ◌+ℤ◌, ◌-ℤ◌, le-leb, lt-leb, lt-ltb, le-ltb}
use Rattle.gametree.specs.{Score, zero_score}
use Rattle.table.specs.{max_nodes, max_depth, value_of, score_of, max_value, win, worth, leaf_score}
use Rattle.table.proofs.Values.{value-plus, value-below, score-negative, score-back}

-- the scores of 31,000 and -31,000
abbrev pub won : ℕ
won = zero_score + win

abbrev pub lost : ℕ
lost = zero_score - win

-- a difference that is not negative, and a sum that is
difference : (v d : ℕ) → d ≤ v → pos v -ℤ pos d ≡ pos (v - d)
difference v zero h = ap pos (omega arith)
difference v (suc d) h = rw (le-ltb v (suc d) h)

negative-sum : (v d : ℕ) → d ≤ v → negsuc v +ℤ pos d ≡ negsuc (v - d)
negative-sum v d h = rw (lt-ltb d (suc v) (omega arith)) (ap negsuc (omega arith))

module _ (d : ℕ) where
  -- inside -30,999 to 30,999 the worth is the value
  pub worth-ordinary : (v : ℤ) → nat_abs v < win → worth d v ≡ v
  worth-ordinary (pos n) h = rw (lt-leb win n h)
  worth-ordinary (negsuc n) h = rw (lt-leb (win - 1) n (omega arith))

  worth-won : (v : ℕ) → win ≤ v → d ≤ v → worth d (pos v) ≡ pos (v - d)
  worth-won v h k = rw (le-leb win v h) (difference v d k)

  worth-lost : (v : ℕ) → win ≤ suc v → d ≤ v → worth d (negsuc v) ≡ negsuc (v - d)
  worth-lost v h k = rw (le-leb (win - 1) v (omega arith)) (negative-sum v d k)

  -- worths at depth d are from -(32,000 - d) to 32,000 - d
  pub worth-range : (v : ℤ) → d ≤ max_depth → nat_abs v ≤ max_value → nat_abs (worth d v) ≤ max_value - d
  worth-range (pos n) e h =
      elim (dec_lt n win) [
        | yes p ↦ rw (worth-ordinary (pos n) p) (omega arith)
        | no p ↦ rw (worth-won n (omega arith) (omega arith)) (omega arith)
      ]
  worth-range (negsuc n) e h =
      elim (dec_lt (suc n) win) [
        | yes p ↦ rw (worth-ordinary (negsuc n) p) (omega arith)
        | no p ↦ rw (worth-lost n (omega arith) (omega arith)) (omega arith)
      ]

-- a score is neither a win's nor a loss's exactly if its value is inside -30,999 to 30,999
pub ordinary-score : (s : ℕ) → ((lost < s) × (s < won)) ↔ (nat_abs (value_of s) < win)
ordinary-score s =
    elim (dec_lt s zero_score) [
      | yes p ↦ rw (lt-ltb s zero_score p) (λ h. omega (arith, h.0), λ h. (omega arith, omega arith))
      | no p ↦ rw (le-ltb s zero_score (omega arith)) (λ h. omega (arith, h.1), λ h. (omega arith, omega arith))
    ]

-- the score of a leaf that is neither a win's nor a loss's, of a win's, and of a loss's
module _ (d s : ℕ) where
  pub score-other : s < won → lost < s → leaf_score d s ≡ s
  score-other h k = ap score_of (worth-ordinary d (value_of s) ((ordinary-score s).0 (k, h))) ∙ score-back s

  module _ (e : d ≤ max_nodes) where
    pub score-won : won ≤ s → leaf_score d s ≡ s - d
    score-won h =
        ap (λ v. score_of (worth d v)) (value-plus s (s - zero_score) (omega arith))
        ∙ ap score_of (worth-won d (s - zero_score) (omega arith) (omega arith)) ∙ omega arith

    pub score-lost : s ≤ lost → leaf_score d s ≡ s + d
    score-lost h =
        ap (λ v. score_of (worth d v)) (value-below s (max_value - s) (omega arith))
        ∙ ap score_of (worth-lost d (max_value - s) (omega arith) (omega arith))
        ∙ score-negative (max_value - s - d) (omega arith) ∙ omega arith

    -- so small a depth keeps it in range
    pub score-kept : Score s → Score (leaf_score d s)
    score-kept h =
        elim (dec_lt s won) [
          | yes p ↦ elim (dec_lt lost s) [
            | yes q ↦ rw (score-other p q) h
            | no q ↦ rw (score-lost (omega arith)) (omega arith, omega arith)
          ]
          | no p ↦ rw (score-won (omega arith)) (omega arith, omega arith)
        ]

-- the score of a leaf is that of its worth: its value is the worth of the stored value at the leaf's depth
pub worth-stated : (d s : ℕ) → d ≤ max_nodes → value_of (leaf_score d s) ≡ worth d (value_of s)
worth-stated d s e =
    elim (dec_lt s won) [
      | yes p ↦ elim (dec_lt lost s) [
        | yes q ↦ rw (score-other d s p q) (sym (worth-ordinary d (value_of s) ((ordinary-score s).0 (q, p))))
        | no q ↦
            rw (
              score-lost d s e (omega arith),
              value-below s (max_value - s) (omega arith),
              value-below (s + d) (max_value - s - d) (omega arith),
            )
            (sym (worth-lost d (max_value - s) (omega arith) (omega arith)))
      ]
      | no p ↦
          rw (
            score-won d s e (omega arith),
            value-plus s (s - zero_score) (omega arith),
            value-plus (s - d) (s - zero_score - d) (omega arith),
          )
          (sym (worth-won d (s - zero_score) (omega arith) (omega arith)))
    ]
