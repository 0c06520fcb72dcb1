-- Small cases of the least counts (SPEC 18).
use Rattle.prelude.proofs.{ℕ, zero, suc, ◌<◌, arith, ◌≡◌, refl, Ok}
use Rattle.table.specs.{child_count, byte3, same_mover, parent_before, position_within, position_of, depth_of}
use Rattle.table.specs.{RegularTable}
use Rattle.table.specs.{small}
use Rattle.least_count.specs.{cap, least_of, least_answer}

-- two entries meet the cap exactly, and belong to no accepted tree either
pub at-the-cap : (least_of 8 10 ≡ cap) × (least_of 32 6 ≡ cap)
at-the-cap = (refl, refl)

module _ (P : ℕ → Type 0) (p0 : P 0) (p1 : P 1) (p2 : P 2) (p3 : P 3) (p4 : P 4) (p5 : P 5) (p6 : P 6) where
  below-7 : (i : ℕ) → i < 7 → P i
  below-7 zero h = p0
  below-7 (suc zero) h = p1
  below-7 (suc (suc zero)) h = p2
  below-7 (suc (suc (suc zero))) h = p3
  below-7 (suc (suc (suc (suc zero)))) h = p4
  below-7 (suc (suc (suc (suc (suc zero))))) h = p5
  below-7 (suc (suc (suc (suc (suc (suc zero)))))) h = p6
  below-7 (suc (suc (suc (suc (suc (suc (suc i))))))) h = absurd (omega arith)

-- the trees of SPEC 12.2 with four leaves are regular of width 2 and depth 2, where the entry is 3
pub small-regular : (x y u v : ℕ) → RegularTable 2 2 (small x y u v)
unfolding parent_before position_within position_of
small-regular x y u v =
    let t = small x y u v in
    let none : 0 < 0 → ◌≡◌ {A = ℕ} 0 2 = λ l. absurd (omega arith) in
    let zero3 : ◌≡◌ {A = ℕ} 0 1 → ⊥ = λ e. omega arith in
    record {
      inner_width =
          below-7 (λ i. 0 < child_count t i → child_count t i ≡ 2) (λ _. refl) (λ _. refl) (λ _. refl) none none none
          none;
      leaf_depth =
          below-7 (λ i. child_count t i ≡ 0 → depth_of t i ≡ 2) (λ e. absurd (omega arith)) (λ e. absurd (omega arith))
          (λ e. absurd (omega arith)) (λ _. refl) (λ _. refl) (λ _. refl) (λ _. refl);
      alternating = below-7 (λ i. byte3 t i ≡ same_mover → ⊥) zero3 zero3 zero3 zero3 zero3 zero3 zero3;
    }

pub small_least : least_answer 2 2 ≡ Ok 3
small_least = refl
