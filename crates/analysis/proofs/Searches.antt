-- What the searches of an analysis are lent, and the lines of what they find.
use Rattle.prelude.proofs.{ℕ, arith, ◌≡◌, ap, ◌∙◌, List, [], replicate, length-replicate}
use Rattle.table.specs.{max_nodes, frames, WellFormed}
use Rattle.table_positions.specs.{Positioned, position_entry, written}
use Rattle.table_positions.proofs.Positions.{positioned}
use Rattle.methods.specs.declared.Method.{Method}
use Rattle.methods.specs.declared.Answer.{Answer}
use Rattle.methods.specs.{beyond, answer_by}
use Rattle.text.proofs.Pushing.{pushing}
use Rattle.analysis.specs.{answer_line, line_by}

-- the positions of a table's nodes, filled into a fresh array
pub filled : (t p : List ℕ) → WellFormed t → p ≡ written (position_entry t) (frames t) (replicate max_nodes 0)
    → Positioned t p
filled t p formed e =
    positioned t formed (replicate max_nodes 0) (omega (arith, formed.at_most, length-replicate {A = ℕ} max_nodes 0)) e

-- what `grind` needs to follow the text over the searches
pub ruleset searching = (pushing, filled)

module _ (t : List ℕ) where
  -- a method that nothing stops has a line
  pub found-line : (name : List ℕ) (m : Method) (a : Answer) → a ≡ answer_by (beyond m t) m t → beyond m t ≡ []
      → answer_line name a ≡ line_by name m t
  unfolding line_by
  found-line name m a is all = ap (answer_line name) (is ∙ ap (λ xs. answer_by xs m t) all)
