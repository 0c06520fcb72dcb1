-- The best of the entries of consecutive nodes, one entry more.
use Rattle.prelude.proofs.{ℕ, suc, ◌+◌, ◌-◌, ◌<◌, arith, ◌≡◌, sym, ap, ap₂, ◌∙◌}
use Rattle.gametree.specs.declared.Side.{Side}
use Rattle.gametree.specs.{better}
use Rattle.certificate_bounds.specs.{best_in}

-- the best of the last entry alone
pub best-last : (s : Side) (f : ℕ → ℕ) (i to : ℕ) → to ≡ i + 1 → best_in s f i (to - (i + 1)) ≡ f i
unfolding best_in
best-last s f i to h = let e : to - (i + 1) ≡ 0 = omega arith in rw e

-- and of one entry before
pub best-before : (s : Side) (f : ℕ → ℕ) (i to v : ℕ) → v ≡ best_in s f i (to - (i + 1)) → 0 < i → i < to
    → better s (f (i - 1)) v ≡ best_in s f (i - 1) (to - (i - 1 + 1))
unfolding best_in
best-before s f i to v e h l =
    let a : i ≡ i - 1 + 1 = omega arith in
    let b : to - (i + 1) ≡ to - (i - 1 + 1 + 1) = omega arith in
    let c : to - (i - 1 + 1) ≡ suc (to - (i - 1 + 1 + 1)) = omega arith in
    ap (better s (f (i - 1))) (e ∙ ap₂ (best_in s f) a b) ∙ ap (best_in s f (i - 1)) (sym c)
