-- What follows from the marks that a search leaves: the set of its leaves, and how many they are.
use Rattle.prelude.proofs.{ℕ, ◌<◌, arith, ◌≡◌, refl, ap, ◌∙◌, sym, Bool, true, false, cond, List, eqb, length}
use Rattle.lists.specs.{All, among}
use Rattle.gametree.specs.{leaves, leaf_count}
use Rattle.gametree_theory.proofs.Searches.{Deciding}
use Rattle.lists.proofs.Choice.{is_false}
use Rattle.lists.proofs.Lists.{all_map, all-at}
use Rattle.gametree_theory.proofs.Theorems.{deciding-count}
use Rattle.gametree_theory.proofs.Tests.Subtree.{every-all}
use Rattle.table.specs.{frames, child_count, tree, valuation, WellFormed}
use Rattle.table.proofs.Trees.{zero-or-suc}
use Rattle.table.proofs.Totals.{at_node, sum_same, count-sum, tree-leaf-count}
use Rattle.table.proofs.Proper.{every-leaf, tree-proper}
use Rattle.table_positions.specs.{written}
use Rattle.certificate_bounds.specs.{mark, marked, ones}
use Rattle.table_positions.proofs.Buffers.{written_at}

mark_set : (b : Bool) → eqb (cond b 1 0) 1 ≡ b
mark_set true = refl
mark_set false = refl

-- the marks of a set mark its nodes
pub marked-written : (E : ℕ → Bool) (n : ℕ) (b : List ℕ) (k : ℕ) → k < n → marked (written (mark E) n b) k ≡ E k
marked-written E n b k h = ap (λ v. eqb v 1) (written_at (mark E) n k b h) ∙ mark_set (E k)

module _ (t : List ℕ) (wf : WellFormed t) where
  -- what holds of each node without children holds of each leaf that a search evaluates
  pub evaluated-hold : (P : ℕ → Type 0) → ((i : ℕ) → i < frames t → child_count t i ≡ 0 → P i) → {w : List ℕ}
      → Deciding (valuation t) (tree t) w → All P w
  evaluated-hold P f {w} d =
      all_map (λ k. among (leaves (tree t)) k ≡ true) P
      (all-at P (leaves (tree t)) (every-all P (tree t) (every-leaf t wf P f 0 wf.non_empty))) w d.own

  -- its number lies within the table
  pub evaluated-within : {w : List ℕ} → Deciding (valuation t) (tree t) w → All (λ k. k < frames t) w
  evaluated-within d = evaluated-hold (λ k. k < frames t) (λ i h e. h) d

  -- where the marks are those of a set of leaves, the ones are the leaves of the set
  pub ones-leaves : (E : ℕ → Bool) → ((k : ℕ) → k < frames t → E k ≡ true → child_count t k ≡ 0) → (e : List ℕ)
      → ((k : ℕ) → k < frames t → marked e k ≡ E k) → ones e (frames t) ≡ leaf_count E (tree t)
  ones-leaves E l e m =
      count-sum (marked e) (frames t)
      ∙ sum_same _ (λ i. at_node (λ n. cond (E n) 1 0) (λ _. 0) (child_count t i) i) (frames t) (λ k h.
      ap (λ b. cond b 1 0) (m k h)
      ∙ zero-or-suc (child_count t k) (λ z. rw z) (λ n z. rw (z, is_false (E k) (λ p. omega (arith, l k h p)))))
      ∙ sym (tree-leaf-count t wf E)

  -- the ones among the marks of a search are as many as the leaves that it evaluates
  pub ones-evaluated : {w : List ℕ} → Deciding (valuation t) (tree t) w → (b : List ℕ)
      → ones (written (mark (among w)) (frames t) b) (frames t) ≡ length w
  ones-evaluated {w} d b =
      let l = evaluated-hold (λ k. child_count t k ≡ 0) (λ i _ e. e) d in
      ones-leaves (among w) (λ k _ p. all-at (λ k. child_count t k ≡ 0) w l k p)
      (written (mark (among w)) (frames t) b) (marked-written (among w) (frames t) b)
      ∙ deciding-count (valuation t) (tree t) (tree-proper t wf) d
