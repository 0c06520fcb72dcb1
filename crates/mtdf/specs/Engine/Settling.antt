-- What the run of tests and the last phase of MTD(f) leave of the memory, and what is found.
use Rattle.std.specs.Prelude.{ℕ, ◌≡◌, List, ◌++◌}
use Rattle.gametree.specs.Trees.{minimax}
use Rattle.gametree.specs.Move.{root_move_of}
use Rattle.gametree.specs.Mtdf.{last_phase}
use Rattle.table.specs.Frame.{frames}
use Rattle.table.specs.Tree.{tree, valuation}
use Rattle.table.specs.Value.{value_of}
use Rattle.certificate_bounds.specs.Marks.{ones}
use Rattle.certificate_bounds.specs.Engine.Progress.{Progress, evaluate_all}
use Rattle.methods.specs.declared.Findings.{Findings}
use Rattle.methods.specs.Rules.{decision_of}
use Rattle.mtdf.specs.declared.Met.{Met}
use Rattle.mtdf_visits.specs.Engine.Memory.{Memory, so_far, BoundsRight, Counted, Evaluated}

-- the leaves that MTD(f) with the first guess f evaluates, in order
abbrev pub mtdf_leaves : (f : ℕ) (t : List ℕ) → List ℕ
mtdf_leaves f t = (decision_of f t).evaluated

-- after the tests of the root: its bounds have met at the score, and the last phase is left
pub record MetAt (t : List ℕ) (f : ℕ) (m m' : Memory) (r : Met) : Type 0 where
  pub score : r.score ≡ minimax (valuation t) (tree t)
  pub evaluated : Evaluated m m' (so_far m')
  pub leaves : mtdf_leaves f t ≡ so_far m' ++ last_phase (valuation t) r.score (so_far m') (tree t)
  pub tests : r.tests ≡ (decision_of f t).tests
  pub counted : Counted t m'
  pub right : BoundsRight t m' (tree t)

-- after the last phase for the value v
pub record MovedTo (t : List ℕ) (v : ℕ) (m m' : Memory) : Type 0 where
  pub evaluated : Evaluated m m' (last_phase (valuation t) v (so_far m) (tree t))
  pub counted : Counted t m'
  pub right : BoundsRight t m' (tree t)

-- after both, from the progress p to p'
pub record Settles (t : List ℕ) (f : ℕ) (p p' : Progress) (r : Findings) : Type 0 where
  pub value : r.value ≡ value_of (minimax (valuation t) (tree t))
  pub move : r.root_move ≡ root_move_of (valuation t) (tree t)
  pub tests : r.steps ≡ (decision_of f t).tests
  pub evaluated : p' ≡ evaluate_all p (mtdf_leaves f t)
  pub counted : p'.leaves ≡ ones p'.marks (frames t)
