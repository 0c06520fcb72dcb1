-- The pass over the children of a node from the left. What it makes of the score and of the marks is what the
-- definitions, which fold from the right, say of the children.
use Rattle.prelude.proofs.{ℕ, zero, suc, ◌+◌, ◌≤◌, arith, ◌≡◌, refl, sym, ◌∙◌, List}
use Rattle.gametree.specs.declared.Side.{Side}
use Rattle.gametree.specs.declared.Side.TheVariants.{Max, Min}
use Rattle.gametree.specs.{Tree, greatest, better, minimax, minimax_children, leaves, leaves_children, worst}
use Rattle.table.specs.{children_from}
use Rattle.certificate_bounds.specs.{mark_all}
use Rattle.certificate_bounds.proofs.Marking.{mark_all-append}

better-assoc : (s : Side) (a b c : ℕ) → better s (better s a b) c ≡ better s a (better s b c)
better-assoc Max a b c = omega arith
better-assoc Min a b c = omega arith

-- every score is at least as good as the worst
pub better-worst : (s : Side) (v : ℕ) → v ≤ greatest → better s (worst s) v ≡ v
better-worst Max v h = omega arith
better-worst Min v h = omega arith

module _ (g : ℕ → Tree) where
  -- the score after the n children from k on, from the score v
  unfoldable pub score_after : (ℕ → ℕ) → Side → (v k n : ℕ) → ℕ
  score_after ν s v k zero = v
  score_after ν s v k (suc n) = score_after ν s (better s v (minimax ν (g k))) (k + 1) n

  -- the marks after them, from the marks e
  unfoldable pub marks_after : List ℕ → (k n : ℕ) → List ℕ
  marks_after e k zero = e
  marks_after e k (suc n) = marks_after (mark_all e (leaves (g k))) (k + 1) n

  pub scores-all : (ν : ℕ → ℕ) (s : Side) (v k n : ℕ)
      → score_after ν s v k (suc n) ≡ better s v (minimax_children ν s (children_from g k n))
  unfolding score_after children_from
  scores-all ν s v k zero = refl
  scores-all ν s v k (suc n) =
      scores-all ν s (better s v (minimax ν (g k))) (k + 1) n
      ∙ better-assoc s v (minimax ν (g k)) (minimax_children ν s (children_from g (k + 1) n))

  pub marks-all : (e : List ℕ) (k n : ℕ) → marks_after e k (suc n) ≡ mark_all e (leaves_children (children_from g k n))
  unfolding marks_after children_from
  marks-all e k zero = refl
  marks-all e k (suc n) =
      marks-all (mark_all e (leaves (g k))) (k + 1) n
      ∙ sym (mark_all-append e (leaves (g k)) (leaves_children (children_from g (k + 1) n)))
