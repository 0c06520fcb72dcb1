-- What the call gives: the minimax value, and the principal variation of the certificate that SSS* writes.
use Rattle.table.specs.declared.Rejection.{Rejection}
use Rattle.std.specs.Prelude.{ℕ, List, [], ◌∷◌, ◌++◌, length, drop, replicate, Result, Ok, Err}
use Rattle.gametree.specs.Trees.{minimax}
use Rattle.gametree.specs.Move.{root_move_of}
use Rattle.table.specs.Frame.{max_nodes}
use Rattle.table.specs.Tree.{tree, valuation}
use Rattle.table.specs.Value.{value_of}
use Rattle.table.specs.Rejection.{unless, Outcome, ◌leaving◌}
use Rattle.certificate_write.specs.Search.{search_rejection, flags_of}
use Rattle.methods.specs.declared.Method.TheVariants.{Sss}
use Rattle.methods.specs.Rules.{evaluated_by}
use Rattle.variation.specs.Variation.{variation}
use Rattle.variation.specs.declared.LineFound.{LineFound}

-- the certificate of a table that SSS* writes over zeros, with an allowance that no tree exceeds
abbrev pub certificate_of : List ℕ → List ℕ
certificate_of t = flags_of (evaluated_by (Sss max_nodes) t) t (replicate max_nodes 0)

-- its principal variation, the root first
unfoldable pub best_line_of : List ℕ → List ℕ
best_line_of t = variation t (certificate_of t)

-- the minimax value, the first root move that reaches it, and the line's length
abbrev pub line_found : List ℕ → LineFound
line_found t =
    record {
      value = value_of (minimax (valuation t) (tree t));
      root_move = root_move_of (valuation t) (tree t);
      length = length (best_line_of t);
    }

-- the outcome of a call with the table t and a list: the line's nodes at the list's front, before what the list held
-- past them; on a "no" to questions 1 to 10 the list as it was
abbrev pub line_outcome : (t line : List ℕ) → Outcome (Result LineFound Rejection) (List ℕ)
line_outcome t l =
    unless (search_rejection t (length l ∷ [])) (λ r. Err r leaving l)
    (Ok (line_found t) leaving best_line_of t ++ drop (length (best_line_of t)) l)
