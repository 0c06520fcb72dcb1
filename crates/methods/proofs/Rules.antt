-- The leaves that a method evaluates are the first of those of a search of the theory; where nothing stops the method,
-- they are all of them. So the theorems on searches hold of every method.
use Rattle.prelude.proofs.{ℕ, ◌-◌, ◌≤◌, ◌<◌, arith, ◌≡◌, sym, ap, ◌∙◌, subst, true, List, [], ◌++◌}
use Rattle.prelude.proofs.{append-nil, length, drop, take-append-drop, length-drop, drop_of_length-le, take_all}
use Rattle.lists.specs.{All, among, Once}
use Rattle.lists.proofs.Lists.{all_left, once-left, all-at, once-length}
use Rattle.gametree.specs.{leaves, Proper}
use Rattle.gametree_theory.proofs.Searches.{Searched, by_alpha_beta, by_mtd, by_sss, Deciding, sss_evaluated}
use Rattle.gametree_theory.proofs.Minimax.Counts.{once-count}
use Rattle.gametree_theory.proofs.TestRuns.{mtdf-searched}
use Rattle.gametree_theory.proofs.Theorems.{alpha_beta-leaves, search-once, search-deciding, domination}
use Rattle.gametree_theory.proofs.Within.{evaluations-count, full-few}
use Rattle.table.specs.{frames, child_count, tree, valuation, WellFormed}
use Rattle.table.proofs.Totals.{tree-size}
use Rattle.table.proofs.Proper.{tree-proper}
use Rattle.certificate_bounds.specs.{ones}
use Rattle.certificate_write.specs.{marks_of}
use Rattle.certificate_write.proofs.Marks.{marked-written, evaluated-hold, ones-leaves}
use Rattle.methods.specs.declared.Method.{Method}
use Rattle.methods.specs.declared.Method.TheVariants.{AlphaBeta, Mtd, MtdFrom, Sss}
use Rattle.methods.specs.{decision_of, start_score, run_of, evaluated_by, beyond}

-- the leaves w are the first of those of a search
pub record Begun (t w : List ℕ) : Type 0 where
  pub full : List ℕ
  pub rest : List ℕ
  pub searched : Searched (valuation t) (tree t) full
  pub is : w ++ rest ≡ full

-- the leaves that Baudet's condition reaches are those of alpha-beta, and the leaves of MTD(f) those of a search by
-- tests
reached-searched : (t : List ℕ) → Searched (valuation t) (tree t) (evaluated_by AlphaBeta t)
reached-searched t = subst (Searched (valuation t) (tree t)) (alpha_beta-leaves (valuation t) (tree t)) by_alpha_beta

tests-searched : (f : ℕ) (t : List ℕ) → Searched (valuation t) (tree t) (decision_of f t).evaluated
unfolding decision_of
tests-searched f t = mtdf-searched (valuation t) f (tree t)

whole : (t w : List ℕ) → Searched (valuation t) (tree t) w → Begun t w
whole t w s = record { full = w; rest = []; searched = s; is = append-nil w }

pub begun : (m : Method) (t : List ℕ) → Begun t (evaluated_by m t)
begun AlphaBeta t = whole t _ (reached-searched t)
begun Mtd t = whole t _ by_mtd
begun (MtdFrom v) t = whole t _ (tests-searched (start_score v) t)
begun (Sss n) t =
    record {
      full = sss_evaluated (valuation t) (tree t);
      rest = drop n (sss_evaluated (valuation t) (tree t));
      searched = by_sss;
      is = take-append-drop n (sss_evaluated (valuation t) (tree t));
    }

-- an allowance covers all evaluations exactly if there are no more leaves
pub left-count : (n : ℕ) (t : List ℕ)
    → length (beyond (Sss n) t) ≡ length (sss_evaluated (valuation t) (tree t)) - n
left-count n t =
    length-drop n (run_of t).evaluations ∙ ap (λ k. k - n) (evaluations-count (valuation t) (tree t))

module _ (t : List ℕ) (wf : WellFormed t) (n : ℕ) (h : frames t ≤ n) where
  -- an allowance of a leaf for each node covers all
  few-evaluated : length (sss_evaluated (valuation t) (tree t)) ≤ n
  few-evaluated = omega (arith, full-few (valuation t) (tree t) (tree-proper t wf), tree-size t wf)

  pub enough : beyond (Sss n) t ≡ []
  enough =
      drop_of_length-le (run_of t).evaluations {i = n}
      (omega (arith, evaluations-count (valuation t) (tree t), few-evaluated))

  pub all-evaluated : evaluated_by (Sss n) t ≡ sss_evaluated (valuation t) (tree t)
  all-evaluated = take_all n (sss_evaluated (valuation t) (tree t)) few-evaluated

-- where nothing stops a method, its leaves are those of a search
pub searched : (m : Method) (t : List ℕ) → beyond m t ≡ [] → Searched (valuation t) (tree t) (evaluated_by m t)
searched AlphaBeta t e = reached-searched t
searched Mtd t e = by_mtd
searched (MtdFrom v) t e = tests-searched (start_score v) t
searched (Sss n) t e =
    subst (Searched (valuation t) (tree t))
    (sym (take_all n (sss_evaluated (valuation t) (tree t)) (omega (arith, left-count n t, ap length e)))) by_sss

module _ (t : List ℕ) (wf : WellFormed t) (m : Method) where
  proper : Proper (valuation t) (tree t)
  proper = tree-proper t wf

  -- what holds of all leaves of a search holds of those of the method
  of-all : (P : ℕ → Type 0) → ((w : List ℕ) → Searched (valuation t) (tree t) w → All P w) → All P (evaluated_by m t)
  of-all P f =
      let b = begun m t in
      all_left P (evaluated_by m t) b.rest (subst (All P) (sym b.is) (f b.full b.searched))

  -- they decide where nothing stops it
  pub decides : beyond m t ≡ [] → Deciding (valuation t) (tree t) (evaluated_by m t)
  decides e = search-deciding (valuation t) (tree t) proper (searched m t e)

  -- each is a node without children
  pub leaves-hold : (P : ℕ → Type 0) → ((i : ℕ) → i < frames t → child_count t i ≡ 0 → P i) → All P (evaluated_by m t)
  leaves-hold P f = of-all P (λ w s. evaluated-hold t wf P f (search-deciding (valuation t) (tree t) proper s))

  pub within : All (λ k. k < frames t) (evaluated_by m t)
  within = leaves-hold (λ k. k < frames t) (λ i h _. h)

  -- none stands twice among them
  pub once : Once (evaluated_by m t)
  once =
      let b = begun m t in
      once-left (evaluated_by m t) b.rest
      (subst Once (sym b.is) (search-once (valuation t) (tree t) proper b.searched))

  -- each is one that alpha-beta evaluates
  pub dominated : All (λ k. among (evaluated_by AlphaBeta t) k ≡ true) (evaluated_by m t)
  dominated =
      of-all (λ k. among (evaluated_by AlphaBeta t) k ≡ true) (λ w s.
      subst (λ v. All (λ k. among v k ≡ true) w) (alpha_beta-leaves (valuation t) (tree t))
      (domination (valuation t) (tree t) proper s))

  -- so there are no more of them
  pub no_more : length (evaluated_by m t) ≤ length (evaluated_by AlphaBeta t)
  no_more = once-length (evaluated_by m t) (evaluated_by AlphaBeta t) once dominated

  -- as many of their marks are 1 as there are of them
  pub ones-count : (e : List ℕ) → ones (marks_of (evaluated_by m t) t e) (frames t) ≡ length (evaluated_by m t)
  ones-count e =
      let w = evaluated_by m t in
      let l = leaves-hold (λ k. child_count t k ≡ 0) (λ i _ z. z) in
      ones-leaves t wf (among w) (λ k _ p. all-at (λ k. child_count t k ≡ 0) w l k p) (marks_of w t e)
      (marked-written (among w) (frames t) e)
      ∙ once-count w (tree t) proper.distinct once
      (of-all (λ k. among (leaves (tree t)) k ≡ true) (λ v s. (search-deciding (valuation t) (tree t) proper s).own))
