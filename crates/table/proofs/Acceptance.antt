-- A table is accepted exactly when it is as SPEC 3 states it, clause by clause; and an accepted table is well-formed.
use Rattle.prelude.proofs.{ℕ, ◌%◌, ◌≤◌, ◌<◌, arith, ◌≡◌, none, some, List, length, ltb-true, leb-true, eqb-true}
use Rattle.prelude.proofs.{lt-ltb, Ok, Err}
use Rattle.prelude.proofs.{le-leb, eq-eqb}
use Rattle.table.specs.declared.Rejection.{Rejection}
use Rattle.table.specs.{frame_size, max_nodes, frames, next, max_table, WellFormed, check1, check2, check3}
use Rattle.table.specs.{check_node, check8, check9, frames_rejection, rejection, nodes_rejection, Accepted, checked}
use Rattle.table.specs.{FrameAsStated, TableAsStated}
use Rattle.table.proofs.Next.{next-mono}
use Rattle.table.proofs.Stated.{ask-yes, yes-ask, both-passed, passed-both, passed-stated, stated-passed}
use Rattle.table.proofs.Asked.{answer-nodes, answer-rejected, each-passed, passed-each}

-- frames as stated, with all their children, make a well-formed table
pub stated-formed : (t : List ℕ) → frames t ≤ max_nodes → ((i : ℕ) → i < frames t → FrameAsStated t i)
    → next t (frames t) ≡ frames t → WellFormed t
unfolding next
stated-formed t at_most f total =
    record {
      non_empty = omega (arith, next-mono t 0 (frames t) (omega arith));
      at_most = at_most;
      first = λ i h. (f i h).inner_first;
      later = λ i h. (f i h).inner_later;
      total = total;
      scored = λ i h. (f i h).leaf_value;
    }

module _ (t : List ℕ) where
  -- nodes that all pass questions 4 to 7 have frames as stated
  pub all-stated : nodes_rejection t ≡ none → (i : ℕ) → i < frames t → FrameAsStated t i
  all-stated e i h = passed-stated t i (each-passed (check_node t) 0 (frames t) e i (omega arith) (omega arith))

  -- what is accepted is as stated
  pub accepted-stated : Accepted t → TableAsStated t
  unfolding rejection frames_rejection
  accepted-stated e =
      let a = both-passed (check1 t) _ e in
      let b = both-passed (check2 t) _ a.1 in
      let c = both-passed (check3 t) _ b.1 in
      let d = both-passed (nodes_rejection t) _ c.1 in
      let g = both-passed (check8 t) _ d.1 in
      let filled = ltb-true 0 (length t) (ask-yes _ _ _ a.0) in
      let short = leb-true (length t) max_table (ask-yes _ _ _ b.0) in
      let even = eqb-true (length t % frame_size) 0 (ask-yes _ _ _ c.0) in
      record {
        whole = omega arith;
        non_empty = omega arith;
        most = omega arith;
        frame = all-stated d.0;
        total = eqb-true _ _ (ask-yes _ _ _ g.0);
        shallow = λ i h.
            leb-true _ _ (ask-yes _ _ _ (each-passed (check9 t) 0 (frames t) g.1 i (omega arith) (omega arith)));
      }

  -- what is as stated is accepted
  pub stated-accepted : TableAsStated t → Accepted t
  unfolding rejection frames_rejection
  stated-accepted s =
      passed-both (check1 t) _ (yes-ask _ _ _ (lt-ltb 0 (length t) (omega (arith, s.whole, s.non_empty))))
      (passed-both (check2 t) _
      (yes-ask _ _ _ (le-leb (length t) max_table (omega (arith, s.whole, s.most))))
      (passed-both (check3 t) _ (yes-ask _ _ _ (eq-eqb (length t % frame_size) 0 (omega (arith, s.whole))))
      (passed-both (nodes_rejection t) _
      (passed-each (check_node t) 0 (frames t) (λ i a b. stated-passed t i (s.frame i (omega arith))))
      (passed-both (check8 t) _ (yes-ask _ _ _ (eq-eqb _ _ s.total))
      (passed-each (check9 t) 0 (frames t) (λ i a b. yes-ask _ _ _ (le-leb _ _ (s.shallow i (omega arith)))))))))

  -- of a table of whole frames, some and not too many, only questions 4 to 9 are left
  pub rejection-frames : 0 < length t → length t ≤ max_table → length t % frame_size ≡ 0
      → rejection t ≡ frames_rejection t
  unfolding rejection
  rejection-frames a b c =
      rw (lt-ltb 0 (length t) a, le-leb (length t) max_table b, eq-eqb (length t % frame_size) 0 c)

  -- an accepted table is well-formed
  pub accepted-formed : Accepted t → WellFormed t
  accepted-formed e = let s = accepted-stated e in stated-formed t s.most s.frame s.total

  -- a check that gives nodes has accepted the table, and gives their number
  pub nodes-accepted : (n : ℕ) → Ok n ≡ checked t → Accepted t × (n ≡ frames t)
  nodes-accepted n e = answer-nodes (frames t) n (rejection t) e

  -- a check that gives a rejection gives the first
  pub rejected-first : (r : Rejection) → Err r ≡ checked t → rejection t ≡ some r
  rejected-first r e = answer-rejected (frames t) r (rejection t) e
