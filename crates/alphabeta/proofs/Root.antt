-- The pass over the root's children: beta stays the greatest score, alpha ends as the value, and the last child that
-- raised it is the root move.
use Rattle.prelude.proofs.{ℕ, suc, ◌+◌, ◌-◌, ◌≤◌, ◌<◌, max, arith, ◌≡◌, refl, sym, ap, ap₂, ◌∙◌, Bool, true, false}
use Rattle.prelude.proofs.{cond, List, ltb, ltb-true, ltb-false, lt-ltb, le-ltb, lt-leb}
use Rattle.gametree.specs.{Tree, least, greatest, minimax, number, Score, root_move_of}
use Rattle.gametree_theory.proofs.Minimax.Bounds.{minimax-score}
use Rattle.gametree_theory.proofs.Alphabeta.Window.{alpha_beta-value}
use Rattle.gametree_theory.proofs.Alphabeta.RootMove.{raiser, raiser-move}
use Rattle.table.specs.{frames, first_child, child_count, next, root_position, children_from, tree_at, tree, valuation}
use Rattle.table.specs.{WellFormed}
use Rattle.table.proofs.Next.{child-within}
use Rattle.table.proofs.Positions.{position-root}
use Rattle.table.proofs.Proper.{every-leaf, leaf-scored, tree-proper}
use Rattle.table.proofs.Trees.{tree-inner, tree-number}
use Rattle.certificate_bounds.specs.declared.Evaluations.{Evaluations}
use Rattle.certificate_bounds.specs.{Listable, progress_of}
use Rattle.certificate_write.specs.{Searchable}
use Rattle.alphabeta_visits.specs.declared.Window.{Window}
use Rattle.alphabeta_visits.proofs.Visits.{Visit, VisitLoop, loop-starts, loop-ends, loop-goes-on}

-- the window at the root when alpha is a
abbrev pub root_window : (a : ℕ) → Window
root_window a = record { alpha = a; beta = greatest }

-- at the head of the loop over the root's children up to `end`: child k is next, alpha is a and m the last child that
-- raised it; the children that are left end with the root move
pub record RootTurn (t : List ℕ) (e₀ : Evaluations) (end : ℕ) (e : Evaluations) (a m k : ℕ) : Type 0 where
  pub turn : VisitLoop t 0 root_position (root_window least) e₀ end e (root_window a) k
  pub below : a < greatest
  pub move : raiser (valuation t) a m (children_from (tree_at t) k (end - k)) ≡ root_move_of (valuation t) (tree t)

-- the last of the children left, and one with others behind it
raiser-last : (ν : ℕ → ℕ) (g : ℕ → Tree) (a m k end : ℕ) → k ≡ end
    → raiser ν a m (children_from g k (end - k)) ≡ cond (ltb a (minimax ν (g k))) (number (g k)) m
unfolding children_from raiser
raiser-last ν g a m k end e = let z : end - k ≡ 0 = omega arith in rw z

raiser-more : (ν : ℕ → ℕ) (g : ℕ → Tree) (a m k end : ℕ) → k < end
    → raiser ν a m (children_from g k (end - k))
    ≡ raiser ν (max a (minimax ν (g k))) (cond (ltb a (minimax ν (g k))) (number (g k)) m)
    (children_from g (k + 1) (end - (k + 1)))
unfolding children_from raiser
raiser-more ν g a m k end h = let z : end - k ≡ suc (end - (k + 1)) = omega arith in rw z

above_same : (a b : ℕ) → ltb a (max a b) ≡ ltb a b
above_same a b = go (ltb a b) refl
  where
    go : (c : Bool) → ltb a b ≡ c → ltb a (max a b) ≡ c
    go true e = let h : a < b = ltb-true a b e in lt-ltb a (max a b) (omega arith)
    go false e = let h : b ≤ a = ltb-false a b e in le-ltb a (max a b) (omega arith)

module _ (t : List ℕ) (wf : WellFormed t) where
  -- the root's first child is node 1
  root-first : 0 < child_count t 0 → first_child t 0 ≡ 1
  unfolding next
  root-first h = wf.first 0 wf.non_empty h

  scored : (k : ℕ) → k < frames t → Score (minimax (valuation t) (tree_at t k))
  scored k h =
      minimax-score (valuation t) (tree_at t k) (every-leaf t wf (λ i. Score (valuation t i)) (leaf-scored t wf) k h)

  module _ {e₀ : Evaluations} (r : Searchable t e₀.marks.now 0 root_position) {end : ℕ} (count : end ≡ child_count t 0)
    where
      -- before the first child
      pub root-starts : Listable t (progress_of e₀) → 0 < end → RootTurn t e₀ end e₀ least 0 1
      root-starts l h =
          let n : child_count t 0 ≡ suc (end - 1) = omega arith in
          let first = root-first (omega arith) in
          let side = ap (λ p. p.side) (position-root t) in
          let is = tree-inner t wf 0 (end - 1) wf.non_empty n in
          record {
            turn = loop-starts r 1 end l (omega arith) (sym first) (omega arith);
            below = omega arith;
            move =
                rw (is, side, first)
                (raiser-move (valuation t) 0 (children_from (tree_at t) 1 (end - 1))
                (rw (is, side, first) at (tree-proper t wf).scored));
          }

      module _ {e : Evaluations} {a m k : ℕ} (u : RootTurn t e₀ end e a m k) {f : Evaluations} {x : ℕ}
          (v : Visit t k (root_window a) e f x) where
        value : ℕ
        value = minimax (valuation t) (tree_at t k)

        -- the visit of the next child gives alpha as it is then
        score : x ≡ max a value
        unfolding value
        score =
            let s = scored k (child-within t wf wf.non_empty u.turn.child) in
            let b = u.below in
            omega (arith, v.gives.0, alpha_beta-value (valuation t) a greatest b (tree_at t k))

        -- and the last child that raised it
        module _ (m' : ℕ) (moved : m' ≡ cond (ltb a x) k m) where
          raised : m' ≡ cond (ltb a value) (number (tree_at t k)) m
          raised =
              moved ∙ ap₂ (λ b n. cond b n m) (ap (ltb a) score ∙ above_same a value) (sym (tree-number t k))

          -- after the last child the whole is given
          pub root-last : k ≡ end → Visit t 0 (root_window least) e₀ f x × (m' ≡ root_move_of (valuation t) (tree t))
          unfolding value
          root-last h =
              (loop-ends r u.turn v h, raised ∙ sym (raiser-last (valuation t) (tree_at t) a m k end h) ∙ u.move)

          -- after another one the next is owed
          pub root-next : k < end → RootTurn t e₀ end f x m' (k + 1)
          unfolding value
          root-next h =
              let s = scored k (child-within t wf wf.non_empty u.turn.child) in
              let b = u.below in
              let y = score in
              let raise : x ≡ max a x = omega arith in
              let first = root-first (omega arith) in
              record {
                turn =
                    loop-goes-on r u.turn v {w' = root_window x} (raise, refl) h (omega arith)
                    (lt-leb greatest x (omega arith));
                below = omega arith;
                move =
                    rw (score, raised) (sym (raiser-more (valuation t) (tree_at t) a m k end h) ∙ u.move);
              }
