-- How far the evaluation of leaves has come, and what the listing of one more leaf asks.
use Rattle.std.specs.Prelude.{ℕ, ◌+◌, ◌≤◌, ◌≡◌, List, length}
use Rattle.std.proofs.lemmas.List.Edits.{sets}
use Rattle.table.specs.Frame.{max_nodes, frames}
use Rattle.certificate_bounds.specs.Marks.{ones, mark_all}

-- how many leaves are evaluated, the marks, and the list of the leaves in the order of their evaluation
pub record Progress : Type 0 where
  pub leaves : ℕ
  pub marks : List ℕ
  pub order : List ℕ

abbrev pub progress : ℕ → (marks order : List ℕ) → Progress
progress n e o = record { leaves = n; marks = e; order = o }

-- after the leaves w have been evaluated too, one after the other
abbrev pub evaluate_all : Progress → List ℕ → Progress
evaluate_all p w =
    progress (p.leaves + length w) (mark_all p.marks w) (sets p.order p.leaves w)

-- as many nodes of the table t are marked as leaves are evaluated, and the list has an entry for each node
pub record Listable (t : List ℕ) (p : Progress) : Type 0 where
  pub at_most : frames t ≤ max_nodes
  pub room : frames t ≤ length p.order
  pub counted : p.leaves ≡ ones p.marks (frames t)
