-- The outcome of a call from the answer to its questions: what is written where there are nodes, and the buffer as it
-- was where there is a rejection.
use Rattle.prelude.proofs.{ℕ, ◌*◌, ◌≤◌, ◌≡◌, List, ◌++◌, length, drop, Result, Ok, Err}
use Rattle.table.specs.declared.Rejection.{Rejection}
use Rattle.table.specs.{frame_size, answer, ◌leaving◌}
use Rattle.table.proofs.Asked.{answer-nodes, answer-rejected}
use Rattle.graft_questions.specs.{graft_size, graft_rejection}
use Rattle.graft_questions.specs.Graftable.{Graftable}
use Rattle.graft_questions.proofs.Questions.{passed-graftable}
use Rattle.graft.specs.{graft_table, graft_outcome}

module _ (t : List ℕ) (k : ℕ) (u b : List ℕ) where
  abbrev pub asked : Result ℕ Rejection
  asked = answer (graft_size t u) (graft_rejection t k u (length b))

  pub nodes-graftable : (n : ℕ) → Ok n ≡ asked
      → (n ≡ graft_size t u) × Graftable t k u × (frame_size * graft_size t u ≤ length b)
  nodes-graftable n e =
      let p = answer-nodes (graft_size t u) n (graft_rejection t k u (length b)) e in
      let g = passed-graftable t k u (length b) p.0 in
      (p.1, g.0, g.1)

  pub graft-written : (n : ℕ) (b' : List ℕ) → Ok n ≡ asked → b' ≡ graft_table t k u ++ drop (frame_size * n) b
      → Ok n leaving b' ≡ graft_outcome t k u b
  graft-written n b' e f =
      let p = answer-nodes (graft_size t u) n (graft_rejection t k u (length b)) e in rw (p.0, f, p.1)

  pub graft-rejected : (r : Rejection) → Err r ≡ asked
      → Err r leaving b ≡ graft_outcome t k u b
  graft-rejected r e = rw (answer-rejected (graft_size t u) r (graft_rejection t k u (length b)) e)
