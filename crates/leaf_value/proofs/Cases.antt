-- The small cases: the law by the root's two bounds turns the search through all values into four candidates, and these
-- are computed.
use Rattle.prelude.proofs.{ℕ, ◌≡◌, refl, sym, ap, ◌∙◌, fun_ext, Option, none, some, List, map, ℤ, Result, Err}
use Rattle.table.specs.declared.Rejection.{Rejection}
use Rattle.table.specs.{next, depth_of, parent_before, position_within, position_of, children_from, grow, tree_at}
use Rattle.table.specs.{valuation}
use Rattle.table.specs.{each_node, unless, frames_rejection, rejection, score_of}
use Rattle.leaf_value.specs.{smallest, answer_for, value_rejection, least_value, candidate, as_option, cases}
use Rattle.leaf_value.proofs.Values.{score-range}
use Rattle.leaf_value.proofs.Bounds.{low, high, smallest-candidate}
use Rattle.leaf_value.proofs.Theorems.{asked}

module _ (t : List ℕ) (k : ℕ) (w : ℤ) where
  -- the answer by the candidates
  abbrev computed : Result ℤ Rejection
  computed = unless (value_rejection t k w) Err (answer_for k
      (as_option (candidate (low t k) (high t k) (depth_of t k) (score_of w))))

  by-candidates : least_value t k w ≡ computed
  unfolding least_value
  by-candidates = by (value_rejection t k w) refl
    where
      by : (q : Option Rejection) → value_rejection t k w ≡ q
          → unless q Err (answer_for k (smallest t k (score_of w)))
          ≡ unless q Err (answer_for k (as_option (candidate (low t k) (high t k) (depth_of t k) (score_of w))))
      by (some r) e = refl
      by none e =
          let a = asked t k w e in
          ap (answer_for k) (sym (smallest-candidate t a.accepted k a.leaf.inside (score_of w)
          (score-range w a.ranged)))

computed-answers : map (λ c. computed c.table c.node c.wanted) cases ≡ map (λ c. c.answer) cases
unfolding next parent_before position_within position_of children_from grow tree_at valuation each_node frames_rejection
    rejection
computed-answers = refl

-- each case gets its answer
pub small-answers : map (λ c. least_value c.table c.node c.wanted) cases ≡ map (λ c. c.answer) cases
small-answers =
    ap (λ f. map f cases) (fun_ext (λ c. by-candidates c.table c.node c.wanted)) ∙ computed-answers
