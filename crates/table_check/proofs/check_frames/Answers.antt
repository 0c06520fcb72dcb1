-- `check_frames` meets its contract: one lemma for each of its three returns.
use Rattle.prelude.proofs.{ap}
use Rattle.prelude.proofs.{ℕ, ◌≤◌, ◌≡◌, sym, ◌∙◌, none, List, eq-eqb, ne_eqb, Result, Ok, Err}
use Rattle.table.specs.declared.Rejection.{Rejection}
use Rattle.table.specs.{max_nodes, frames, next, WellFormed, answer, nodes_rejection, depths_rejection}
use Rattle.table.specs.{frames_rejection}
use Rattle.table.proofs.Asked.{passed-on, refused, answer-nodes, answer-rejected}
use Rattle.table.proofs.Acceptance.{all-stated, stated-formed}
use Rattle.table_check.proofs.check_frames.Goals as goal

abbrev frames_answer : List ℕ → Result ℕ Rejection
frames_answer t = answer (frames t) (frames_rejection t)

module _ (t : List ℕ) where
  -- a rejection by questions 4 to 7 is the first
  stopped : (r : Rejection) → Err r ≡ answer (next t (frames t)) (nodes_rejection t) → Err r ≡ frames_answer t
  unfolding frames_rejection
  stopped r e = rw (answer-rejected (next t (frames t)) r (nodes_rejection t) e)

  module _ (n m : ℕ) (p : n ≡ frames t) (e : Ok m ≡ answer (next t (frames t)) (nodes_rejection t)) where
    told : (nodes_rejection t ≡ none) × (m ≡ next t (frames t))
    told = answer-nodes (next t (frames t)) m (nodes_rejection t) e

    -- then question 8 is asked
    unequal : (m ≡ n → ⊥) → refused 8 n ≡ frames_answer t
    unfolding frames_rejection
    unequal h = rw (told.0, ← p, ne_eqb (next t n) n (λ q. h (told.1 ∙ rw (← p) q)))

    -- then question 9
    equal : m ≡ n → answer (frames t) (depths_rejection t) ≡ frames_answer t
    unfolding frames_rejection
    equal h = rw (told.0, eq-eqb (next t (frames t)) (frames t) (sym told.1 ∙ h ∙ p))

    -- which a well-formed table is asked
    formed : m ≡ n → frames t ≤ max_nodes → WellFormed t
    formed h at_most = stated-formed t at_most (all-stated t told.0) (sym told.1 ∙ h ∙ p)

pub returns-in_err-total : goal.returns-in_err-total
returns-in_err-total c = passed-on _ _ c.from_residual.ensures.1 ∙ stopped _ _ c.in_err-total.ensures

pub returns-then-total-n : goal.returns-then-total-n
returns-then-total-n c = ap Err c.at.ensures
    ∙ unequal _ _ _ c.frame_count-n.ensures c.in_ok-total.ensures
    c.if-total-n.true

pub check_depths-requires : goal.check_depths-requires
check_depths-requires c = formed _ _ _ c.frame_count-n.ensures c.in_ok-total.ensures
    c.if-total-n.false c.requires

pub returns : goal.returns
returns c = c.check_depths.ensures
    ∙ equal _ _ _ c.frame_count-n.ensures c.in_ok-total.ensures
    c.if-total-n.false
