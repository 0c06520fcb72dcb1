-- A search, from its steps to its outcome: questions, cleared marks, the engine's marks, what `write_certificate` reads
-- off them, and the list of the leaves.
use Rattle.prelude.proofs.{ℕ, ◌≡◌, ap, ◌∙◌, Option, none, some, List, Ok, Err}
use Rattle.lists.specs.{among}
use Rattle.gametree.specs.{root_move_of, bound_move, flag}
use Rattle.gametree_theory.proofs.Searches.{Deciding}
use Rattle.table.specs.declared.Rejection.{Rejection}
use Rattle.table.specs.{frames, tree, valuation, WellFormed, unless, answer}
use Rattle.table.proofs.Asked.{answer-nodes, answer-rejected}
use Rattle.table_positions.specs.{written}
use Rattle.certificate_bounds.specs.{marked, mark_all}
use Rattle.certificate_write.specs.{search_rejection, marks_of, flags_of}
use Rattle.certificate_bounds.proofs.Marking.{marks-from-clear}
use Rattle.certificate_write.proofs.Marks.{evaluated-within}
use Rattle.certificate_write.proofs.Concluded.{concluded}

-- the certificate c₂ that is read off the marks of the leaves w
pub marks-certify : (t : List ℕ) → WellFormed t → (w e e₂ e₃ c c₂ : List ℕ) → e₂ ≡ marks_of w t e
    → c₂ ≡ written (flag (valuation t) (marked e₂) (tree t)) (frames t) c → e₃ ≡ e₂
    → (e₃ ≡ marks_of w t e) × (c₂ ≡ flags_of w t c)
marks-certify t wf w e e₂ e₃ c c₂ marks flags kept =
    (kept ∙ marks, flags ∙ (concluded t wf (among w) e e₂ c marks).1)

module _ (t : List ℕ) (wf : WellFormed t) (w : List ℕ) (d : Deciding (valuation t) (tree t) w) where
  -- a search that evaluates the leaves w: e is cleared to e₁ and marked to e₂
  pub search-marks : (e e₁ e₂ : List ℕ) → e₁ ≡ written (λ k. 0) (frames t) e → e₂ ≡ mark_all e₁ w → e₂ ≡ marks_of w t e
  search-marks e e₁ e₂ cleared marks =
      marks ∙ ap (λ x. mark_all x w) cleared ∙ marks-from-clear (frames t) e w (evaluated-within t wf d)

  -- and the move m and the flags c₂ follow from that
  pub search-concludes : (e e₁ e₂ e₃ c c₂ : List ℕ) (m : ℕ) → e₁ ≡ written (λ k. 0) (frames t) e → e₂ ≡ mark_all e₁ w
      → m ≡ bound_move (valuation t) (marked e₂) (tree t)
      → c₂ ≡ written (flag (valuation t) (marked e₂) (tree t)) (frames t) c → e₃ ≡ e₂
      → (m ≡ root_move_of (valuation t) (tree t)) × ((e₃ ≡ marks_of w t e) × (c₂ ≡ flags_of w t c))
  search-concludes e e₁ e₂ e₃ c c₂ m cleared marks move flags kept =
      let a = search-marks e e₁ e₂ cleared marks in (
        move ∙ (concluded t wf (among w) e e₂ c a).0 ∙ d.move,
        marks-certify t wf w e e₂ e₃ c c₂ a flags kept,
      )

-- what a call gives once its questions are answered, on a rejection and else
module _ {A : Type 0} (t lengths : List ℕ) (refused : Rejection → A) (given : A) where
  abbrev questions : Option Rejection
  questions = search_rejection t lengths

  -- with nodes the search is run, and its results are the outcome
  pub finding : (n : ℕ) (x : A) → Ok n ≡ answer (frames t) questions → x ≡ given
      → x ≡ unless questions refused given
  finding n x p e =
      let z : questions ≡ none = (answer-nodes (frames t) n _ p).0 in
      rw z e

  -- a rejection is the outcome
  pub rejecting : (r : Rejection) → Err r ≡ answer (frames t) questions
      → refused r ≡ unless questions refused given
  rejecting r p =
      let z : questions ≡ some r = answer-rejected (frames t) r _ p in
      rw z
