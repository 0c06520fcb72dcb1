-- What a search answers, and what it leaves in the memory that it is lent, from the method, the table and what is lent
-- alone.
use Rattle.std.specs.Prelude.{ℕ, List, [], ◌∷◌, length}
use Rattle.std.proofs.Math.Option.{Option}
use Rattle.gametree.specs.Trees.{minimax}
use Rattle.gametree.specs.Move.{root_move_of}
use Rattle.gametree.specs.Sss.{Evaluation}
use Rattle.table.specs.declared.Rejection.{Rejection}
use Rattle.table.specs.Tree.{tree, valuation}
use Rattle.table.specs.Value.{value_of}
use Rattle.table.specs.Rejection.{unless, Outcome, ◌leaving◌}
use Rattle.certificate_write.specs.Search.{search_rejection, marks_of, flags_of, listed}
use Rattle.methods.specs.declared.Method.{Method}
use Rattle.methods.specs.declared.Findings.{Findings}
use Rattle.methods.specs.declared.Answer.{Answer}
use Rattle.methods.specs.declared.Answer.TheVariants.{Found, Spent, Rejected}
use Rattle.methods.specs.Rules.{evaluated_by, beyond, steps_by}

-- what a method finds in the tree of a table
abbrev pub findings_by : Method → List ℕ → Findings
findings_by m t =
    record {
      value = value_of (minimax (valuation t) (tree t));
      root_move = root_move_of (valuation t) (tree t);
      leaves = length (evaluated_by m t);
      steps = steps_by m t;
    }

-- what it answers, by the evaluations that it has no allowance for: if there are none, what it finds; else the merit of
-- the first and the counts so far
abbrev pub answer_by : List Evaluation → Method → List ℕ → Answer
answer_by [] m t = Found (findings_by m t)
answer_by (x ∷ xs) m t =
    Spent (record { merit = value_of x.merit; leaves = length (evaluated_by m t); steps = x.replacements })

-- the flags that it leaves: with a value those of the certificate, else as they were
abbrev pub flags_left : List Evaluation → Method → (t flags : List ℕ) → List ℕ
flags_left [] m t f = flags_of (evaluated_by m t) t f
flags_left (x ∷ xs) m t f = f

-- what a search is lent, or leaves: marks, flags of the certificate, list of leaves
pub record Lent : Type 0 where
  pub marks : List ℕ
  pub flags : List ℕ
  pub order : List ℕ

abbrev pub lent : (marks flags order : List ℕ) → Lent
lent m f o = record { marks = m; flags = f; order = o }

-- what a method answers on an accepted table, and leaves of what it is lent
abbrev pub given_by : Method → List ℕ → Lent → Outcome Answer Lent
given_by m t l =
    let w = evaluated_by m t in
    answer_by (beyond m t) m t
    leaving lent (marks_of w t l.marks) (flags_left (beyond m t) m t l.flags) (listed w l.order)

-- the first "no" to questions 1 to 10
abbrev pub rejection_of : List ℕ → Lent → Option Rejection
rejection_of t l = search_rejection t (length l.marks ∷ length l.flags ∷ length l.order ∷ [])

-- the outcome of a call; on a "no" all is as it was
abbrev pub search_outcome : Method → List ℕ → Lent → Outcome Answer Lent
search_outcome m t l = unless (rejection_of t l) (λ r. Rejected r leaving l) (given_by m t l)
