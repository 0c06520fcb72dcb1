-- The root's bounds where all leaves but one are known, and the smallest score of that leaf by them.
use Rattle.prelude.proofs.{ℕ, ◌≤◌, ◌<◌, arith, ℕ_discrete, ◌≡◌, refl, sym, ap, ◌∙◌, true, List, ltb, eqb, length}
use Rattle.std.specs.Prelude.{Option, IfSome}
use Rattle.prelude.proofs.{get_or}
use Rattle.prelude.proofs.{set, get_or-set_same, get_or-set_other, ltb-true, eqb-true, eq-eqb, ne_eqb}
use Rattle.lists.proofs.Choice.{and_both}
use Rattle.gametree.specs.{Score, least, greatest, minimax, substituted, clamp}
use Rattle.gametree_theory.proofs.Minimax.Grafts.{minimax-same}
use Rattle.gametree_theory.proofs.Minimax.OneLeaf.{low-high, median}
use Rattle.table.specs.{is_leaf, max_depth, frames, child_count, depth_of, tree, valuation, leaf_score, WellFormed}
use Rattle.table.specs.{Accepted}
use Rattle.table.proofs.Acceptance.{accepted-stated}
use Rattle.table.proofs.Proper.{every-leaf}
use Rattle.table.proofs.Worth.{score-kept}
use Rattle.certificate_bounds.specs.{marked, bound_of}
use Rattle.leaf_value.specs.{root_score, smallest, first_score, score_count, candidate, as_option}
use Rattle.leaf_value.proofs.First.{first-same}
use Rattle.leaf_value.proofs.Candidates.{candidate-below, candidate-smallest}

-- the test says what it is for
pub leaf-is : (t : List ℕ) (k : ℕ) → is_leaf t k ≡ true → (k < frames t) × (child_count t k ≡ 0)
leaf-is t k e =
    let b = and_both (ltb k (frames t)) (eqb (child_count t k) 0) e in (ltb-true _ _ b.0, eqb-true _ _ b.1)

-- where every leaf but k is marked, a bound of the root is its score with that score at k
pub root-bound : (t : List ℕ) → WellFormed t → (k : ℕ) (e : List ℕ) → k < length e
    → ((i : ℕ) → i < frames t → get_or e i 0 ≡ 1) → (x : ℕ)
    → bound_of t (marked (set e k 0)) x 0 ≡ minimax (substituted (valuation t) k x) (tree t)
root-bound t wf k e r f x =
    minimax-same _ _ (tree t) (every-leaf t wf _ (λ i h c.
    elim (ℕ_discrete i k) [
      | yes z ↦ rw (z, get_or-set_same e k 0 0 r, eq-eqb k k refl)
      | no z ↦ rw (get_or-set_other e k i 0 0 z, f i h, ne_eqb i k z)
    ]) 0 wf.non_empty)

-- the root's score for the least and the greatest score of node k
abbrev pub low : (t : List ℕ) (k : ℕ) → ℕ
low t k = minimax (substituted (valuation t) k least) (tree t)

abbrev pub high : (t : List ℕ) (k : ℕ) → ℕ
high t k = minimax (substituted (valuation t) k greatest) (tree t)

module _ (t : List ℕ) (a : Accepted t) (k : ℕ) (h : k < frames t) where
  -- no leaf is deep
  pub leaf-shallow : depth_of t k ≤ max_depth
  leaf-shallow = (accepted-stated t a).shallow k h

  -- the root's score is what the leaf counts, brought between them
  pub root-clamped : (s : ℕ) → Score s → root_score t k s ≡ clamp (low t k) (high t k) (leaf_score (depth_of t k) s)
  unfolding root_score
  root-clamped s i =
      let c = score-kept (depth_of t k) s (omega (arith, leaf-shallow)) i in
      median (valuation t) k (leaf_score (depth_of t k) s) (omega (arith, c.1)) (tree t)

  -- so the smallest score that reaches w is the first candidate that does
  pub smallest-candidate : (w : ℕ) → Score w
      → as_option (candidate (low t k) (high t k) (depth_of t k) w) ≡ smallest t k w
  unfolding smallest
  smallest-candidate w i =
      candidate-smallest (low t k) (high t k) (depth_of t k) w
      (low-high (valuation t) k least (omega arith) (tree t)) leaf-shallow i
      ∙ first-same _ _ first_score score_count (λ s p q.
      ap (λ r. eqb r w) (sym (root-clamped s (omega arith, omega arith))))

  -- and what is found by the numbers that the work arrays hold
  pub found-smallest : (w : ℕ) → Score w → (r : Option ℕ) (l u d : ℕ) → r ≡ candidate l u d w → l ≡ low t k
      → u ≡ high t k → d ≡ depth_of t k → (as_option r ≡ smallest t k w) × IfSome r (λ s. s < greatest)
  found-smallest w i r l u d e p q z =
      let x : r ≡ candidate (low t k) (high t k) (depth_of t k) w = e ∙ rw (p, q, z) in
      (ap as_option x ∙ smallest-candidate w i, rw x (candidate-below (low t k) (high t k) (depth_of t k) w))
