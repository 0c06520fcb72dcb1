-- What is said of a call of SSS* that its allowance stopped.
use Rattle.std.specs.Prelude.{ℕ, ◌≡◌, List, length}
use Rattle.gametree.specs.Sss.{State, evaluating, step, ListAfter}
use Rattle.table.specs.Tree.{tree, valuation}
use Rattle.table.specs.Value.{value_of}
use Rattle.methods.specs.declared.Spent.{Spent}

-- where the full run was cut short: after the counted replacements, which evaluated the leaves so far, it has reached a
-- list of states from which the rule takes a state of the given merit and would evaluate its leaf
pub record CutShort (t : List ℕ) (s : Spent) : Type 0 where
  pub evaluated : List ℕ
  pub states : List State
  pub leaf : ℕ
  pub taken : ℕ
  pub next : List State
  pub reached : ListAfter (valuation t) (tree t) s.steps evaluated states
  pub evaluates : step (valuation t) (tree t) states ≡ evaluating leaf taken next
  pub leaves : s.leaves ≡ length evaluated
  pub merit : s.merit ≡ value_of taken
