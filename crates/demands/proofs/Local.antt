-- Two tables of one shape that agree on the leaves that a method evaluates in the first: it answers the same on both,
-- and leaves the same marks, the same list and, with a result, the same flags.
use Rattle.prelude.proofs.{ℕ, ◌≡◌, refl, sym, ap, ap₂, ◌∙◌, subst, List, [], ◌∷◌, map, length, take, drop, take_at}
use Rattle.lists.specs.{All, among}
use Rattle.lists.proofs.Lists.{all_among, all-zip}
use Rattle.gametree.specs.{minimax, Proper, full_window, mtdf, Evaluation, flag, root_move_of, sss_within}
use Rattle.gametree.specs.Mtd as rule
use Rattle.gametree_theory.proofs.Searches.{SameResults}
use Rattle.gametree_theory.proofs.Theorems.{alpha_beta-leaves, local-alpha_beta, local-mtd, local-results}
use Rattle.gametree_theory.proofs.TestRuns.{local-mtdf}
use Rattle.gametree_theory.proofs.Within.{covered-full, spent-first, within-leaves, local-within}
use Rattle.table.specs.{frames, up_from, tree, valuation, WellFormed, SameShape}
use Rattle.table.proofs.Proper.{tree-proper}
use Rattle.table.proofs.Ranges.{length_up, up_same}
use Rattle.table.proofs.Shapes.{same-score, same-tree}
use Rattle.table_positions.specs.{written}
use Rattle.certificate_bounds.specs.{mark}
use Rattle.methods.specs.declared.Method.{Method}
use Rattle.methods.specs.declared.Method.TheVariants.{AlphaBeta, Mtd, MtdFrom, Sss}
use Rattle.methods.specs.declared.Findings.{Findings}
use Rattle.methods.specs.declared.Answer.TheVariants.{Found}
use Rattle.methods.specs.{start_score, decision_of, evaluated_by, beyond, steps_by, findings_by, answer_by}
use Rattle.methods.proofs.Rules as rules
use Rattle.sss.proofs.Allowed.{answer-finished, answer-spent}
use Rattle.demands.specs.{Call, Given, count_of, AgreeOnMarked, Alike}
use Rattle.demands.proofs.Running.{Says}
use Rattle.demands.proofs.Views as views
use Rattle.demands.proofs.Handed.{leaves_by, leaf-marked, marking, first-leaves}

-- the first n entries of a buffer that was written for n nodes
pub take-written : (f : ℕ → ℕ) (n : ℕ) (b : List ℕ) → take n (written f n b) ≡ map f (up_from 0 n)
unfolding written
take-written f n b = take_at (map f (up_from 0 n)) (drop n b) n (length_up f 0 n)

module _ (t u : List ℕ) (wt : WellFormed t) (wu : WellFormed u) (one : tree t ≡ tree u) where
  -- agreement on the leaves of a method
  abbrev Agreed : Method → Type 0
  Agreed m = All (λ k. valuation t k ≡ valuation u k) (evaluated_by m t)

  results : (m : Method) → beyond m t ≡ [] → Agreed m
      → SameResults (valuation t) (valuation u) (tree t) (evaluated_by m t)
  results m e a =
      local-results (valuation t) (valuation u) (tree t) (tree-proper t wt)
      (subst (Proper (valuation u)) (sym one) (tree-proper u wu)) (rules.searched m t e) a

  -- the same leaves and steps, where nothing stops the method, are the same findings
  same-findings : (m : Method) → beyond m t ≡ [] → Agreed m → evaluated_by m t ≡ evaluated_by m u
      → steps_by m t ≡ steps_by m u → findings_by m t ≡ findings_by m u
  same-findings m i a e k =
      let r = results m i a in
      let v : minimax (valuation t) (tree t) ≡ minimax (valuation u) (tree u) =
      r.same_value ∙ ap (minimax (valuation u)) one in
      let x : root_move_of (valuation t) (tree t) ≡ root_move_of (valuation u) (tree u) =
      r.same_move ∙ ap (root_move_of (valuation u)) one in
      let n = ap length e in
      cc

  -- the run of SSS* within an allowance
  within_same : (n : ℕ) → Agreed (Sss n)
      → sss_within n (valuation t) (tree t) ≡ sss_within n (valuation u) (tree u)
  within_same n a =
      local-within n (valuation t) (valuation u) (tree t)
      (subst (All (λ k. valuation t k ≡ valuation u k))
      (sym (within-leaves (valuation t) (tree t) (tree-proper t wt) n)) a)
      ∙ ap (sss_within n (valuation u)) one

  allowed_same : (n : ℕ) → Agreed (Sss n)
      → answer_by (beyond (Sss n) t) (Sss n) t ≡ answer_by (beyond (Sss n) u) (Sss n) u
  allowed_same n a = by_left (beyond (Sss n) t) refl
    where
      by_left : (xs : List Evaluation) → beyond (Sss n) t ≡ xs
          → answer_by (beyond (Sss n) t) (Sss n) t ≡ answer_by (beyond (Sss n) u) (Sss n) u
      by_left [] i =
          let x = covered-full (valuation t) (tree t) n i in
          let k = (results (Sss n) i a).same_move ∙ ap (root_move_of (valuation u)) one in
          sym (answer-finished t wt n _ _ _ _ refl x)
          ∙ answer-finished u wu n _ _ _ _ k (sym (within_same n a) ∙ x)
      by_left (y ∷ ys) i =
          let x = spent-first (valuation t) (tree t) n y ys i in
          sym (answer-spent t wt n _ _ _ x) ∙ answer-spent u wu n _ _ _ (sym (within_same n a) ∙ x)

  -- the same leaves, and the same answer
  pub same-run : (m : Method) → Agreed m
      → (evaluated_by m t ≡ evaluated_by m u) × (answer_by (beyond m t) m t ≡ answer_by (beyond m u) m u)
  unfolding decision_of
  same-run AlphaBeta a =
      let is : (v : List ℕ) → (full_window (valuation v) (tree v)).evaluated ≡ evaluated_by AlphaBeta v =
      λ v. alpha_beta-leaves (valuation v) (tree v) in
      let r = local-alpha_beta (valuation t) (valuation u) (tree t)
      (subst (All (λ k. valuation t k ≡ valuation u k)) (sym (is t)) a)
      ∙ ap (full_window (valuation u)) one in
      let e = sym (is t) ∙ ap (λ x. x.evaluated) r ∙ is u in
      (e, ap Found (same-findings AlphaBeta refl a e refl))
  same-run Mtd a =
      let r = local-mtd (valuation t) (valuation u) (tree t) (tree-proper t wt).distinct a
      ∙ ap (rule.mtd (valuation u)) one in
      let e = ap (λ x. x.evaluated) r in
      (e, ap Found (same-findings Mtd refl a e (ap (λ x. x.passes) r)))
  same-run (MtdFrom v) a =
      let r : decision_of (start_score v) t ≡ decision_of (start_score v) u =
      local-mtdf (start_score v) (valuation t) (valuation u) (tree t) a
      ∙ ap (mtdf (start_score v) (valuation u)) one in
      let e = ap (λ x. x.evaluated) r in
      (e, ap Found (same-findings (MtdFrom v) refl a e (ap (λ x. x.tests) r)))
  same-run (Sss n) a =
      let is : (v : List ℕ) → WellFormed v → (sss_within n (valuation v) (tree v)).evaluated ≡ evaluated_by (Sss n) v =
      λ v w. within-leaves (valuation v) (tree v) (tree-proper v w) n in
      (sym (is t wt) ∙ ap (λ x. x.evaluated) (within_same n a) ∙ is u wu, allowed_same n a)

  -- and, where nothing stops the method, the same flags of each node
  pub same_flags : (m : Method) → beyond m t ≡ [] → Agreed m → (k : ℕ)
      → flag (valuation t) (among (evaluated_by m t)) (tree t) k
      ≡ flag (valuation u) (among (evaluated_by m u)) (tree u) k
  same_flags m i a k =
      (results m i a).same_flags k ∙ ap₂ (λ x y. flag (valuation u) (among x) y k) (same-run m a).0 one

-- two calls, neither refused
module _ (c d : Call) (s : Says c) (q : Says d) (gc : Given c) (gd : Given d) (h : SameShape c.table d.table)
    (a : AgreeOnMarked c.table d.table c.left) where
  wt : WellFormed c.table
  wt = views.formed c s gc

  wu : WellFormed d.table
  wu = views.formed d q gd

  one : tree c.table ≡ tree d.table
  one = same-tree c.table d.table h wt wu

  agreed : All (λ k. valuation c.table k ≡ valuation d.table k) (leaves_by c)
  agreed =
      all-zip _ _ _ (λ k l m. same-score c.table d.table h k l (a k (leaf-marked (marking c s gc) k m)))
      (leaves_by c) (marking c s gc).within (all_among (leaves_by c))

  -- what the method of the first gives on both tables
  pub run-same : (leaves_by c ≡ evaluated_by c.method d.table)
      × (answer_by (beyond c.method c.table) c.method c.table
      ≡ answer_by (beyond c.method d.table) c.method d.table)
  run-same = same-run c.table d.table wt wu one c.method agreed

-- by one method
module _ (c d : Call) (s : Says c) (q : Says d) (i : d.method ≡ c.method) (gc : Given c) (gd : Given d)
    (h : SameShape c.table d.table) (a : AgreeOnMarked c.table d.table c.left) where
  leaves_alike : leaves_by c ≡ leaves_by d
  leaves_alike = (run-same c d s q gc gd h a).0 ∙ ap (λ m. evaluated_by m d.table) (sym i)

  pub answers-alike : c.answer ≡ d.answer
  answers-alike =
      views.answered c s gc ∙ (run-same c d s q gc gd h a).1
      ∙ ap (λ m. answer_by (beyond m d.table) m d.table) (sym i) ∙ sym (views.answered d q gd)

  pub marks-alike : take (frames c.table) c.left.marks ≡ take (frames c.table) d.left.marks
  marks-alike =
      ap (take (frames c.table)) (views.marks c s gc)
      ∙ take-written (mark (among (leaves_by c))) (frames c.table) c.lent.marks
      ∙ ap₂ (λ w n. map (mark (among w)) (up_from 0 n)) leaves_alike h.same_frames
      ∙ sym (ap₂ take h.same_frames (views.marks d q gd)
      ∙ take-written (mark (among (leaves_by d))) (frames d.table) d.lent.marks)

  pub orders-alike : take (count_of c.answer) c.left.order ≡ take (count_of d.answer) d.left.order
  orders-alike = first-leaves c s gc ∙ leaves_alike ∙ sym (first-leaves d q gd)

  module _ (g : Findings) (e : c.answer ≡ Found g) where
    flags-agree : (k : ℕ)
        → flag (valuation c.table) (among (leaves_by c)) (tree c.table) k
        ≡ flag (valuation d.table) (among (leaves_by d)) (tree d.table) k
    flags-agree k =
        same_flags c.table d.table (views.formed c s gc) (views.formed d q gd) (one c d s q gc gd h a) c.method
        (views.nothing-beyond c s g e) (agreed c d s q gc gd h a) k
        ∙ ap (λ m. flag (valuation d.table) (among (evaluated_by m d.table)) (tree d.table) k) (sym i)

    pub buffers-alike : Alike (frames c.table) c.left d.left
    buffers-alike =
        record {
          marks = marks-alike;
          flags =
              ap (take (frames c.table)) (views.flags c s g e)
              ∙ take-written _ (frames c.table) c.lent.flags
              ∙ up_same _ _ 0 (frames c.table) (λ k l h. flags-agree k)
              ∙ ap (map _) (ap (up_from 0) h.same_frames)
              ∙ sym (ap₂ take h.same_frames (views.flags d q g (sym answers-alike ∙ e))
              ∙ take-written _ (frames d.table) d.lent.flags);
        }
