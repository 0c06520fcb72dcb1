-- Of the scores that reach the wanted one, the smallest is one of four, and they are tried in their order.
use Rattle.prelude.proofs.{ℕ, ◌+◌, ◌-◌, ◌≤◌, ◌<◌, arith, dec_le, dec_lt, ◌≡◌, refl, sym, Bool, true}
use Rattle.prelude.proofs.{false, cond, ◌&&◌, some, leb, ltb, leb-true, le-leb, ltb-true, lt-ltb, eq-eqb, eqb-true}
use Rattle.std.specs.Prelude.{Option, Some, None, IfSome}
use Rattle.lists.proofs.Choice.{cond_cases, is_false, true-not-false, and_both}
use Rattle.gametree.specs.{Score, greatest, clamp}
use Rattle.table.specs.{max_depth, leaf_score}
use Rattle.table.proofs.Worth.{won, lost, score-won, score-lost, score-other}
use Rattle.leaf_value.specs.{first_from, first_score, score_count, reaches, held_reaches, candidate}
use Rattle.leaf_value.specs.{as_option}
use Rattle.leaf_value.proofs.First.{first_found, none_found}

-- how a score comes to count x at depth d: as a loss, as it is, or as a win
data Counts (d s x : ℕ) : Type 0 where
  as_loss : s ≤ lost → x ≡ s + d → Counts d s x
  as_is : lost < s → s < won → x ≡ s → Counts d s x
  as_win : won ≤ s → x ≡ s - d → Counts d s x

counts : (d s : ℕ) → d ≤ max_depth → Counts d s (leaf_score d s)
counts d s h =
    elim (dec_lt s won) [
      | yes p ↦ elim (dec_lt lost s) [
        | yes q ↦ as_is q p (score-other d s p q)
        | no q ↦ as_loss (omega arith) (score-lost d s (omega arith) (omega arith))
      ]
      | no p ↦ as_win (omega arith) (score-won d s (omega arith) (omega arith))
    ]

module _ (l u d w : ℕ) where
  -- the score s reaches w
  abbrev Reaches : ℕ → Type 0
  Reaches s = clamp l u (leaf_score d s) ≡ w

  -- a candidate that reaches w and is no larger than s
  data NoLarger (s : ℕ) : Type 0 where
    first : Reaches first_score → NoLarger s
    loss : d < w → w - d ≤ s → Reaches (w - d) → NoLarger s
    itself : w ≤ s → Reaches w → NoLarger s
    win : w + d ≤ s → Reaches (w + d) → NoLarger s

  module _ (h : d ≤ max_depth) (s x : ℕ) (a : first_score ≤ s) where
    -- -32,000 counts least of all
    counts-least : Counts d s x → first_score + d ≤ x
    counts-least (as_loss p q) = omega arith
    counts-least (as_is p q r) = omega arith
    counts-least (as_win p q) = omega arith

    -- what counts more than w is not below the smallest that counts w: as a loss, as it is, or as a win
    more : Counts d s x → w < x
        → (w - d ≤ lost → w - d ≤ s) × (lost < w - d → w ≤ s) × (won ≤ w → w + d ≤ s)
    more (as_loss p q) b = (λ g. omega arith, λ g. omega arith, λ g. omega arith)
    more (as_is p q r) b = (λ g. omega arith, λ g. omega arith, λ g. omega arith)
    more (as_win p q) b = (λ g. omega arith, λ g. omega arith, λ g. omega arith)

    -- a score that counts no more than the root's lower bound: -32,000 reaches what it reaches
    too-low : Counts d s x → l ≤ u → x ≤ l → w ≡ l → NoLarger s
    too-low n o b e = first (rw (score-lost d first_score (omega arith) (omega arith)) (omega (arith, counts-least n)))

    -- one that counts w is a candidate itself
    exact : Counts d s x → x ≡ w → Reaches s → NoLarger s
    exact (as_loss p q) e r = let z : s ≡ w - d = omega arith in loss (omega arith) (omega arith) (rw z at r)
    exact (as_is p q f) e r = let z : s ≡ w = omega arith in itself (omega arith) (rw z at r)
    exact (as_win p q) e r = let z : s ≡ w + d = omega arith in win (omega arith) (rw z at r)

    -- one that counts more than the root's upper bound: the smallest that counts the bound reaches it, or -32,000 does
    too-high : Counts d s x → l ≤ u → w ≡ u → u < x → NoLarger s
    too-high n o e b =
        let m = more n (omega arith) in
        elim (dec_le w (first_score + d)) [
          | yes f ↦ first (rw (score-lost d first_score (omega arith) (omega arith)) (omega arith))
          | no f ↦ elim (dec_le (w - d) lost) [
            | yes g ↦ loss (omega arith) (m.0 g) (rw (score-lost d (w - d) (omega arith) g) (omega arith))
            | no g ↦ elim (dec_lt w won) [
              | yes k ↦ itself (m.1 (omega arith)) (rw (score-other d w k (omega arith)) (omega arith))
              | no k ↦ win (m.2 (omega arith)) (rw (score-won d (w + d) (omega arith) (omega arith)) (omega arith))
            ]
          ]
        ]

  -- one that is found is a score, and reaches w
  tried : (s : ℕ) → held_reaches l u d w s ≡ true → (first_score ≤ s) × (s < greatest) × (reaches l u d w s ≡ true)
  tried s e =
      let b = and_both (leb first_score s && ltb s greatest) (reaches l u d w s) e in
      let r = and_both (leb first_score s) (ltb s greatest) b.0 in
      (leb-true _ _ r.0, ltb-true _ _ r.1, b.1)

  -- a score that is passed over does not reach w
  passed : (s : ℕ) → held_reaches l u d w s ≡ false → first_score ≤ s → s < greatest → Reaches s → ⊥
  passed s e a b r = true-not-false (rw (le-leb first_score s a, lt-ltb s greatest b, eq-eqb _ w r)) e

  -- every candidate is a score
  pub candidate-below : IfSome (candidate l u d w) (λ c. c < greatest)
  candidate-below =
      let P : Option ℕ → Type 0 = λ r. IfSome r (λ c. c < greatest) in
      cond_cases P (held_reaches l u d w first_score) _ _ (λ e. (tried _ e).1) (λ _.
      cond_cases P (held_reaches l u d w (w - d)) _ _ (λ e. (tried _ e).1) (λ _.
      cond_cases P (held_reaches l u d w w) _ _ (λ e. (tried _ e).1) (λ _.
      cond_cases P (held_reaches l u d w (w + d)) _ _ (λ e. (tried _ e).1) (λ _. tt))))

  module _ (o : l ≤ u) (h : d ≤ max_depth) where
    -- where a score reaches w, a candidate no larger does
    no-larger : (s : ℕ) → first_score ≤ s → Reaches s → NoLarger s
    no-larger s a r = by (leaf_score d s) (counts d s h) r
      where
        by : (x : ℕ) → Counts d s x → clamp l u x ≡ w → NoLarger s
        by x n e =
            elim (dec_le x l) [
              | yes p ↦ too-low h s x a n o p (omega arith)
              | no p ↦ elim (dec_lt u x) [
                | yes q ↦ too-high h s x a n o (omega arith) q
                | no q ↦ exact h s x a n (omega arith) r
              ]
            ]

    -- so a score that is smaller than every candidate that reaches w does not
    none-smaller : (c s : ℕ) → first_score ≤ s → s < c
        → (Reaches first_score → c ≤ first_score) → (d < w → Reaches (w - d) → c ≤ w - d) → (Reaches w → c ≤ w)
        → (w + d < c → Reaches (w + d) → ⊥)
        → reaches l u d w s ≡ false
    none-smaller c s a b p q r k =
        is_false _ (λ e. by (no-larger s a (eqb-true _ _ e)))
      where
        by : NoLarger s → ⊥
        by (first x) = omega (arith, p x)
        by (loss x y z) = omega (arith, q x z)
        by (itself x y) = omega (arith, r y)
        by (win x y) = k (omega arith) y

    -- a candidate that reaches w, where those before it do not
    found : (c : ℕ) → held_reaches l u d w c ≡ true
        → ((s : ℕ) → first_score ≤ s → s < c → reaches l u d w s ≡ false)
        → some c ≡ first_from (reaches l u d w) first_score score_count
    found c e f =
        let r = tried c e in
        sym (first_found _ first_score score_count c
        (record { from = r.0; within = omega (arith, r.1); passes = r.2; before = f }))

    -- the first candidate that reaches w is the smallest score that does
    pub candidate-smallest : Score w
        → as_option (candidate l u d w) ≡ first_from (reaches l u d w) first_score score_count
    candidate-smallest i =
        by (held_reaches l u d w first_score) (held_reaches l u d w (w - d)) (held_reaches l u d w w)
        (held_reaches l u d w (w + d)) refl refl refl refl
      where
        by : (b₁ b₂ b₃ b₄ : Bool) → held_reaches l u d w first_score ≡ b₁ → held_reaches l u d w (w - d) ≡ b₂
            → held_reaches l u d w w ≡ b₃ → held_reaches l u d w (w + d) ≡ b₄
            → as_option
            (cond b₁ (Some first_score) (cond b₂ (Some (w - d)) (cond b₃ (Some w) (cond b₄ (Some (w + d)) None))))
            ≡ first_from (reaches l u d w) first_score score_count
        by true b₂ b₃ b₄ p q r k = found first_score p (λ s a b. absurd (omega arith))
        by false true b₃ b₄ p q r k =
            found (w - d) q (λ s a b.
            none-smaller (w - d) s a b (λ x. absurd (passed first_score p (omega arith) (omega arith) x))
            (λ x y. omega arith) (λ x. omega arith) (λ x y. omega arith))
        by false false true b₄ p q r k =
            found w r (λ s a b.
            none-smaller w s a b (λ x. absurd (passed first_score p (omega arith) (omega arith) x))
            (λ x y. absurd (passed (w - d) q (omega arith) (omega (arith, i)) y)) (λ x. omega arith)
            (λ x y. omega arith))
        by false false false true p q r k =
            found (w + d) k (λ s a b.
            none-smaller (w + d) s a b (λ x. absurd (passed first_score p (omega arith) (omega arith) x))
            (λ x y. absurd (passed (w - d) q (omega arith) (omega (arith, i)) y))
            (λ x. absurd (passed w r (omega (arith, i)) (omega (arith, i)) x)) (λ x y. omega arith))
        by false false false false p q r k =
            sym (none_found _ first_score score_count (λ s a b.
            none-smaller greatest s a (omega arith) (λ x. absurd (passed first_score p (omega arith) (omega arith) x))
            (λ x y. absurd (passed (w - d) q (omega arith) (omega (arith, i)) y))
            (λ x. absurd (passed w r (omega (arith, i)) (omega (arith, i)) x))
            (λ x y. passed (w + d) k (omega (arith, i)) x y)))
