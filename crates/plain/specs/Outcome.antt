-- What a call of the search gives: its answer and what its two buffers hold then, from the table and the buffers alone.
use Rattle.std.specs.Prelude.{ℕ, List, [], ◌∷◌, length, Result, Ok, Err}
use Rattle.gametree.specs.Trees.{leaves, minimax}
use Rattle.gametree.specs.Move.{root_move_of}
use Rattle.table.specs.Tree.{tree, valuation}
use Rattle.table.specs.Value.{value_of}
use Rattle.table.specs.declared.Rejection.{Rejection}
use Rattle.table.specs.Rejection.{unless, Outcome, ◌leaving◌}
use Rattle.certificate_write.specs.Search.{search_rejection, marks_of, flags_of}
use Rattle.methods.specs.Outcome.{Lent, lent}
use Rattle.plain.specs.declared.PlainResult.{PlainResult}

-- the leaves of a table, from left to right: all of them are evaluated
abbrev pub all_leaves : List ℕ → List ℕ
all_leaves t = leaves (tree t)

-- the minimax value, and the first root move that reaches it
abbrev pub plain_found : List ℕ → PlainResult
plain_found t =
    record { value = value_of (minimax (valuation t) (tree t)); root_move = root_move_of (valuation t) (tree t) }

-- the outcome of a call with the table t and what is lent, of which all is as it was on a "no" to questions 1 to 10;
-- the plain engine keeps no list of leaves
abbrev pub plain_outcome : (t : List ℕ) → Lent → Outcome (Result PlainResult Rejection) Lent
plain_outcome t l =
    let w = all_leaves t in
    unless (search_rejection t (length l.marks ∷ length l.flags ∷ [])) (λ r. Err r leaving l)
    (Ok (plain_found t) leaving lent (marks_of w t l.marks) (flags_of w t l.flags) l.order)
