-- Regular trees: every inner node has w children, all leaves lie at one depth, and the sides alternate. A side's
-- solution tree takes all w children where that side moves and one elsewhere, so its leaves are a power of w, and every
-- pair of a max and a min solution tree has as many leaves as every other.
use Rattle.prelude.proofs.{ℕ, zero, suc, ◌+◌, ◌*◌, ◌/◌, ◌^◌, arith, pow-zero, pow-suc, mul_comm, suc-mul, ◌≡◌, refl}
use Rattle.prelude.proofs.{sym, ap, ap₂, ◌∙◌, Bool, true, false, cond}
use Rattle.gametree.specs.declared.Side.{Side}
use Rattle.gametree.specs.declared.Side.TheVariants.{Max, Min}
use Rattle.gametree.specs.{Tree, leaf, inner, Children, last, ◌then◌, other, number, leaf_count, leaf_count_children}
use Rattle.gametree.specs.{Rules, RulesChildren, SolutionTree, same, pair_leaves}
use Rattle.gametree_theory.proofs.Certificates.Counting.{kid_count, members}
use Rattle.gametree_theory.proofs.Certificates.Solution.{rule-counted}
use Rattle.gametree_theory.proofs.Certificates.SharedLeaf.{pair-shares-one}

-- every inner node has w children, all leaves lie d levels below the root, and the sides alternate, s at the root
abbrev mutual
  pub Regular : (w d : ℕ) → Side → Tree → Type 0
  Regular w d s (leaf n) = d ≡ 0
  Regular w zero s (inner n q ks) = ⊥
  Regular w (suc d) s (inner n q ks) = (q ≡ s) × (kid_count ks ≡ w) × RegularChildren w d (other s) ks

  pub RegularChildren : (w d : ℕ) → Side → Children → Type 0
  RegularChildren w d s (last t) = Regular w d s t
  RegularChildren w d s (t then ts) = Regular w d s t × RegularChildren w d s ts

-- how many leaves side p's solution tree has where s moves at the root
abbrev size_for : Side → Side → (w d : ℕ) → ℕ
size_for p s w zero = 1
size_for p s w (suc d) = cond (same p s) w 1 * size_for p (other s) w d

count-times : (b : Bool) (x n : ℕ) → cond b x 0 * n ≡ cond b (x * n) 0
count-times true x n = refl
count-times false x n = omega arith

one-times : (b : Bool) (n : ℕ) → cond b n 0 ≡ cond b 1 0 * n
one-times true n = omega arith
one-times false n = omega arith

one_more : (b : Bool) (a n : ℕ) → cond b n 0 + a * n ≡ (cond b 1 0 + a) * n
one_more true a n = let e : 1 + a ≡ suc a = omega arith in rw (e, suc-mul a n) (omega arith)
one_more false a n = let e : 0 + a ≡ a = omega arith in rw e (omega arith)

mutual
  solution-leaves : (p s : Side) (w d : ℕ) (g : ℕ → Bool) (t : Tree) → Regular w d s t → Rules p g t
      → leaf_count g t ≡ cond (g (number t)) (size_for p s w d) 0
  solution-leaves p s w d g (leaf n) r x = rw r
  solution-leaves p s w (suc d) g (inner n q ks) r x =
      solution-leaves_children p (other s) w d g ks r.2 x.1
      ∙ ap (λ m. m * size_for p (other s) w d) (rule-counted p q (g n) g ks x.0)
      ∙ count-times (g n) (cond (same p q) (kid_count ks) 1) (size_for p (other s) w d)
      ∙ ap₂ (λ z k. cond (g n) (cond (same p z) k 1 * size_for p (other s) w d) 0) r.0 r.1
  solution-leaves p s w zero g (inner n q ks) r x = absurd r

  solution-leaves_children : (p s : Side) (w d : ℕ) (g : ℕ → Bool) (ks : Children) → RegularChildren w d s ks
      → RulesChildren p g ks
      → leaf_count_children g ks ≡ members g ks * size_for p s w d
  solution-leaves_children p s w d g (last t) r x =
      solution-leaves p s w d g t r x ∙ one-times (g (number t)) (size_for p s w d)
  solution-leaves_children p s w d g (t then ts) r x =
      ap₂ ◌+◌ (solution-leaves p s w d g t r.0 x.0) (solution-leaves_children p s w d g ts r.1 x.1)
      ∙ one_more (g (number t)) (members g ts) (size_for p s w d)

-- one more level: a power of one more where the side moves, else the same power
power-more : (w d : ℕ) → w * w ^ (d / 2) ≡ w ^ ((suc d + 1) / 2)
power-more w d =
    let e : (suc d + 1) / 2 ≡ suc (d / 2) = omega arith in
    rw e (mul_comm w (w ^ (d / 2)) ∙ sym (pow-suc w (d / 2)))

power-same : (w d : ℕ) → 1 * w ^ ((d + 1) / 2) ≡ w ^ (suc d / 2)
power-same w d = let e : d + 1 ≡ suc d = omega arith in rw e (omega arith)

-- the side that moves at the root takes all children on half the levels rounded up, the other on half rounded down
powers : (p : Side) (w d : ℕ) → (size_for p p w d ≡ w ^ ((d + 1) / 2)) × (size_for p (other p) w d ≡ w ^ (d / 2))
powers p w zero = (sym (pow-zero w), sym (pow-zero w))
powers Max w (suc d) =
    let r = powers Max w d in (ap (λ x. w * x) r.1 ∙ power-more w d, ap (λ x. 1 * x) r.0 ∙ power-same w d)
powers Min w (suc d) =
    let r = powers Min w d in (ap (λ x. w * x) r.1 ∙ power-more w d, ap (λ x. 1 * x) r.0 ∙ power-same w d)

-- so every pair has this number of leaves, whatever its values
pub pair-count : (g h : ℕ → Bool) (t : Tree) (w d : ℕ) → Regular w d Max t → SolutionTree Max g t → SolutionTree Min h t
    → pair_leaves g h t + 1 ≡ w ^ ((d + 1) / 2) + w ^ (d / 2)
pair-count g h t w d r x y =
    let a : leaf_count g t ≡ w ^ ((d + 1) / 2) =
    solution-leaves Max Max w d g t r x.1 ∙ rw x.0 (powers Max w d).0 in
    let b : leaf_count h t ≡ w ^ (d / 2) = solution-leaves Min Max w d h t r y.1 ∙ rw y.0 (powers Min w d).1 in
    omega (arith, pair-shares-one g h t x y)
