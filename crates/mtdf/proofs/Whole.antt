-- The steps of a whole search: the cleared memory is the fresh one, the last phase is a test of the root's children,
-- the tests end with the minimax value and the root move, and the marks are those of the leaves of MTD(f).
use Rattle.prelude.proofs.{ℕ, ◌≤◌, ◌<◌, arith, ◌≡◌, refl, sym, ap, ap₂, ◌∙◌, subst, Bool, false, List, length}
use Rattle.prelude.proofs.{replicate, length-replicate, get_or-replicate, ℤ}
use Rattle.lists.specs.{among}
use Rattle.gametree.specs.declared.Side.TheVariants.{Max}
use Rattle.gametree.specs.{least, greatest, minimax, last_phase, bound_move}
use Rattle.gametree_theory.proofs.Searches.{Deciding}
use Rattle.gametree_theory.proofs.Theorems.{value-score, search-deciding}
use Rattle.gametree_theory.proofs.TestRuns.{mtdf-searched}
use Rattle.table.specs.{frames, child_count, next, root_position, tree, valuation, WellFormed, value_of}
use Rattle.table.proofs.Positions.{position-root}
use Rattle.table.proofs.Trees.{tree-leaf}
use Rattle.table.proofs.Nodes.{in_tree}
use Rattle.table.proofs.Proper.{tree-proper}
use Rattle.table_positions.specs.{written}
use Rattle.certificate_bounds.specs.{marked, progress, evaluate_all}
use Rattle.certificate_bounds.proofs.Listing.{first-evaluated}
use Rattle.certificate_flags.specs.{chosen_child}
use Rattle.certificate_write.specs.{marks_of, listed}
use Rattle.certificate_write.proofs.Chosen.{chosen_of, by-bounds, chosen-root}
use Rattle.certificate_write.proofs.Outcomes.{search-marks}
use Rattle.mtd_memory.proofs.Turns.{tree-kids}
use Rattle.mtdf.specs.declared.Met.{Met}
use Rattle.methods.specs.declared.Findings.{Findings}
use Rattle.methods.specs.declared.Method.TheVariants.{MtdFrom}
use Rattle.methods.specs.{start_score, decision_of, evaluated_by, findings_by}
use Rattle.methods.proofs.Rules.{decides}
use Rattle.mtdf_visits.specs.{Memory, memory, so_far, MemoryRoom, VisitReady, Counted, BoundsRight}
use Rattle.mtdf_visits.specs.{Long, Evaluated, Entered, Fresh}
use Rattle.mtdf.specs.{mtdf_leaves, MetAt, MovedTo, Settles}
use Rattle.mtdf_visits.proofs.Arrays.{room-kept, evaluated-none, evaluated-more}

-- findings that agree field by field
same-fields : (f : Findings) {v : ℤ} {m k n : ℕ} → v ≡ f.value → m ≡ f.root_move → k ≡ f.leaves → n ≡ f.steps
    → record { value = v; root_move = m; leaves = k; steps = n } ≡ f
same-fields f a b c d = rw (a, b, c, d)

module _ (t : List ℕ) (wf : WellFormed t) where
  -- where no node has a mark, the least lows and the greatest highs are the memory to start with
  pub start-fresh : (m : ℕ) → frames t ≤ m → (e o : List ℕ) → frames t ≤ length e → frames t ≤ length o
      → ((k : ℕ) → k < frames t → marked e k ≡ false)
      → Fresh t (memory 0 e o (replicate m least) (replicate m greatest))
  start-fresh m at_most e o room long unmarked =
      record {
        formed = wf;
        room =
            record {
              evaluated = room;
              order = long;
              lows = omega (arith, length-replicate m least);
              highs = omega (arith, length-replicate m greatest);
            };
        leaves = refl;
        evaluated = unmarked;
        lows = λ k l. get_or-replicate m k least 0 (omega arith);
        highs = λ k l. get_or-replicate m k greatest 0 (omega arith);
      }

  -- what the last phase asks
  pub met-ready : (f : ℕ) (m m' : Memory) (r : Met) → MemoryRoom (frames t) m → Long m m' → MetAt t f m m' r
      → VisitReady t m' 0 root_position
  met-ready f m m' r room long met =
      record {
        formed = wf;
        inside = wf.non_empty;
        positioned = sym (position-root t);
        room = room-kept room long;
        counted = met.counted;
        right = met.right;
      }

  -- the last phase at a leaf, and at an inner root
  pub moved-leaf : (v : ℕ) (m : Memory) → child_count t 0 ≡ 0 → Counted t m → BoundsRight t m (tree t) → MovedTo t v m m
  moved-leaf v m none c b =
      let is = tree-leaf t wf 0 wf.non_empty none in
      record {
        evaluated =
            subst (λ T. Evaluated m m (last_phase (valuation t) v (so_far m) T)) (sym is) (evaluated-none m);
        counted = c;
        right = b;
      }

  pub moved-inner : (v : ℕ) (m m' : Memory) (r : Bool) → 0 < child_count t 0 → Entered t (tree t) v m m' r
      → MovedTo t v m m'
  moved-inner v m m' r some d =
      let is = tree-kids (record { formed = wf; inside = wf.non_empty; from = refl; to = refl }) Max
      (sym (ap (λ p. p.side) (position-root t))) (omega arith) in
      record {
        evaluated =
            subst (λ T. Evaluated m m' (last_phase (valuation t) v (so_far m) T)) (sym is) (rw is at d.evaluated);
        counted = d.counted;
        right = d.right;
      }

  -- the score has a value
  pub run_small : (s : ℕ) → s ≡ minimax (valuation t) (tree t) → s ≤ greatest
  run_small s d = omega (arith, d, value-score (valuation t) (tree t) (tree-proper t wf).scored)

  -- where the lows are right, the first of the root's children whose low is the root's is the move that they show
  low-move : (m : Memory) → BoundsRight t m (tree t)
      → chosen_child m.lows 0 1 (child_count t 0) ≡ bound_move (valuation t) (among (so_far m)) (tree t)
  unfolding chosen_of next
  low-move m right =
      let E = among (so_far m) in
      let side = ap (λ p. p.side) (position-root t) in
      by-bounds t wf E m.lows least 0 wf.non_empty (λ k h. (right k (in_tree t wf k h)).low)
      ∙ (rw side at (chosen-root t wf E))

  module _ (f : ℕ) where
    decision-right : Deciding (valuation t) (tree t) (mtdf_leaves f t)
    unfolding decision_of
    decision-right =
        search-deciding (valuation t) (tree t) (tree-proper t wf) (mtdf-searched (valuation t) f (tree t))

    -- both phases together, with marks and list back in the buffers that were lent: the leaves of MTD(f), and the move
    -- by the lows that they leave
    pub settled-both : (e o l h : List ℕ) (m' m'' : Memory) (s : Met) (r : Findings) → MetAt t f (memory 0 e o l h) m' s
        → MovedTo t s.score m' m'' → r.value ≡ value_of s.score
        → r.root_move ≡ chosen_child m''.lows 0 1 (child_count t 0) → r.steps ≡ s.tests
        → {e' o' : List ℕ} → e' ≡ m''.evaluated → o' ≡ m''.order
        → Settles t f (progress 0 e o) (progress m''.leaves e' o') r
    settled-both e o l h m' m'' s r x y p q n i j =
        let w : so_far m'' ≡ mtdf_leaves f t = y.evaluated.listed ∙ sym x.leaves in
        record {
          value = p ∙ ap value_of x.score;
          move =
              q ∙ low-move m'' y.right ∙ ap (λ v. bound_move (valuation t) (among v) (tree t)) w
              ∙ decision-right.move;
          tests = n ∙ x.tests;
          evaluated =
              ap₂ (progress m''.leaves) i j ∙ (evaluated-more x.evaluated y.evaluated).all
              ∙ ap (evaluate_all (progress 0 e o)) (sym x.leaves);
          counted = rw i y.counted.number;
        }

  -- the steps together: e is cleared to e₁, and the tests from the starting value make it e₂ and the list o₂
  pub find-gives : (v : ℤ) (e e₁ e₂ o o₂ : List ℕ) (r : Findings)
      → e₁ ≡ written (λ k. 0) (frames t) e
      → Settles t (start_score v) (progress 0 e₁ o) (progress r.leaves e₂ o₂) r
      → frames t ≤ length o
      → (r ≡ findings_by (MtdFrom v) t)
      × ((e₂ ≡ marks_of (evaluated_by (MtdFrom v) t) t e) × (o₂ ≡ listed (evaluated_by (MtdFrom v) t) o))
  find-gives v e e₁ e₂ o o₂ r cleared settled room =
      let w = evaluated_by (MtdFrom v) t in
      let g = first-evaluated r.leaves (frames t) e₁ e₂ o o₂ w settled.evaluated settled.counted room in
      let a = search-marks t wf w (decides t wf (MtdFrom v) refl) e e₁ e₂ cleared g.1.0 in
      (same-fields _ settled.value settled.move g.0 settled.tests, (a, g.1.1))
