-- The steps of a whole search: the cleared memory is the fresh one, the passes end with the minimax value and the root
-- move, and the marks are those of MTD's leaves.
use Rattle.prelude.proofs.{ℕ, ◌≤◌, ◌<◌, arith, ◌≡◌, refl, sym, ap, ap₂, ◌∙◌, subst, false, List, length, replicate}
use Rattle.prelude.proofs.{length-replicate, get_or-replicate, ℤ}
use Rattle.lists.specs.{among}
use Rattle.gametree.specs.declared.Side.TheVariants.{Max, Min}
use Rattle.gametree.specs.{Tree, inner, Children, greatest, minimax, Proper, high, mtd, first_with, root_move_of}
use Rattle.gametree_theory.proofs.Mtd.Moves.{mtd-high_move}
use Rattle.gametree_theory.proofs.Mtd.Memory.{memo-run}
use Rattle.gametree_theory.proofs.Theorems.{value-score, mtd-minimax}
use Rattle.table.specs.{frames, child_count, next, children_from, tree_at, tree, valuation, WellFormed, value_of}
use Rattle.table.proofs.Positions.{position-root}
use Rattle.table.proofs.Proper.{tree-proper}
use Rattle.table.proofs.Trees.{zero-or-suc, tree-leaf, tree-inner, tree-number}
use Rattle.table_positions.specs.{written}
use Rattle.certificate_bounds.specs.{marked, ones, bound_of, progress, evaluate_all}
use Rattle.certificate_bounds.proofs.Listing.{first-evaluated}
use Rattle.certificate_flags.specs.{first_equal}
use Rattle.certificate_write.specs.{marks_of, listed}
use Rattle.certificate_write.proofs.Chosen.{chosen_of, first-with}
use Rattle.certificate_write.proofs.Concluded.{chosen-same}
use Rattle.certificate_write.proofs.Marks.{marked-written}
use Rattle.certificate_write.proofs.Outcomes.{search-marks}
use Rattle.mtd.specs.declared.Settled.{Settled}
use Rattle.mtd_memory.specs.{memory, first_high, Fresh}
use Rattle.methods.specs.declared.Method.TheVariants.{Mtd}
use Rattle.methods.specs.{evaluated_by, findings_by}
use Rattle.methods.proofs.Rules.{decides}

module _ (t : List ℕ) (wf : WellFormed t) where
  -- where no node has a mark, the greatest highs and flags of zeros are the memory to start with
  pub start-fresh : (m : ℕ) → frames t ≤ m → (e o : List ℕ) → frames t ≤ length e → frames t ≤ length o
      → ((k : ℕ) → k < frames t → marked e k ≡ false)
      → Fresh t (memory 0 e o (replicate m greatest) (replicate m 0))
  start-fresh m at_most e o room long unmarked =
      record {
        formed = wf;
        room =
            record {
              evaluated = room;
              order = long;
              highs = omega (arith, length-replicate m greatest);
              not_below = omega (arith, length-replicate {A = ℕ} m 0);
            };
        leaves = refl;
        evaluated = unmarked;
        not_below = λ k l. get_or-replicate m k 0 0 (omega arith);
        highs = λ k l. get_or-replicate m k greatest 0 (omega arith);
      }

  module _ (s : ℕ) (d : s ≡ (mtd (valuation t) (tree t)).value) where
    run-score : s ≡ minimax (valuation t) (tree t)
    run-score = d ∙ mtd-minimax (valuation t) (tree t) (tree-proper t wf)

    -- the last test has a value
    pub run_small : s ≤ greatest
    run_small = omega (arith, run-score, value-score (valuation t) (tree t) (tree-proper t wf).scored)

  -- what the theory says of a Max root
  high-of : (T : Tree) (n : ℕ) (ks : Children) → T ≡ inner n Max ks → let E = among (mtd (valuation t) T).evaluated in
      Proper (valuation t) T
      → first_with (high (valuation t) E) (high (valuation t) E T) ks ≡ root_move_of (valuation t) T
  high-of T n ks e =
      subst (λ (X : Tree). let E = among (mtd (valuation t) X).evaluated in
      Proper (valuation t) X → first_with (high (valuation t) E) (high (valuation t) E X) ks ≡ root_move_of
      (valuation t) X)
      (sym e) (λ r. rw (memo-run (valuation t) (inner n Max ks) r.distinct) (mtd-high_move (valuation t) n ks r))

  -- the first of the root's children whose high is the root's, by MTD's leaves, is the root move
  high-root : first_equal (bound_of t (among (evaluated_by Mtd t)) greatest)
      (bound_of t (among (evaluated_by Mtd t)) greatest 0) 1
      (child_count t 0)
      ≡ root_move_of (valuation t) (tree t)
  unfolding first_equal next
  high-root =
      zero-or-suc (child_count t 0) (λ e. rw (e, tree-leaf t wf 0 wf.non_empty e)) (λ n e.
      let first = wf.first 0 wf.non_empty (omega arith) in
      let side = ap (λ p. p.side) (position-root t) in
      let is = tree-inner t wf 0 n wf.non_empty e ∙ ap₂ (λ s k. inner 0 s (children_from (tree_at t) k n)) side first in
      rw e
      (first-with (high (valuation t) (among (evaluated_by Mtd t))) (tree_at t) (tree-number t) _ 1 n
      ∙ high-of (tree t) 0 (children_from (tree_at t) 1 n) is (tree-proper t wf)))

  -- so it is by their marks
  high-move : (e e₂ : List ℕ) → e₂ ≡ marks_of (evaluated_by Mtd t) t e → first_high t e₂ ≡ root_move_of (valuation t)
      (tree t)
  unfolding chosen_of next
  high-move e e₂ q =
      chosen-same t wf (marked e₂) (among (evaluated_by Mtd t))
      (λ k h. ap (λ l. marked l k) q ∙ marked-written (among (evaluated_by Mtd t)) (frames t) e k h) Min 0 wf.non_empty
      ∙ high-root

  -- the steps together: e is cleared to e₁, the passes make it e₂ and the list o₂, and v follows from that
  pub find-gives : (e e₁ e₂ o o₂ : List ℕ) (n : ℕ) (r : Settled) (v : ℤ)
      → e₁ ≡ written (λ k. 0) (frames t) e
      → (r.score ≡ (mtd (valuation t) (tree t)).value) × (r.passes ≡ (mtd (valuation t) (tree t)).passes)
      → r.root_move ≡ first_high t e₂
      → progress n e₂ o₂ ≡ evaluate_all (progress 0 e₁ o) (evaluated_by Mtd t)
      → n ≡ ones e₂ (frames t)
      → frames t ≤ length o
      → v ≡ value_of r.score
      → (record { value = v; root_move = r.root_move; leaves = n; steps = r.passes } ≡ findings_by Mtd t)
      × ((e₂ ≡ marks_of (evaluated_by Mtd t) t e) × (o₂ ≡ listed (evaluated_by Mtd t) o))
  find-gives e e₁ e₂ o o₂ n r v cleared settled move evaluated counted room value =
      let g = first-evaluated n (frames t) e₁ e₂ o o₂ (evaluated_by Mtd t) evaluated counted room in
      let a = search-marks t wf (evaluated_by Mtd t) (decides t wf Mtd refl) e e₁ e₂ cleared g.1.0 in
      let x : v ≡ value_of (minimax (valuation t) (tree t)) = value ∙ ap value_of (run-score r.score settled.0) in
      let y = move ∙ high-move e e₂ a in
      let z = g.0 in
      let p = settled.1 in
      (cc, (a, g.1.1))
