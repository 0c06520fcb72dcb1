-- What entries of the list become.
use Rattle.std.specs.Prelude.{ℕ, ◌+◌, ◌≤◌, List, Option, Some, None}
use Rattle.table.specs.Frame.{max_nodes}
use Rattle.table.specs.Value.{value_of}
use Rattle.sss_states.specs.declared.State.{State}
use Rattle.sss_states.specs.declared.Change.{Change}
use Rattle.sss_turns.specs.declared.Content.{Content}
use Rattle.sss_turns.specs.declared.Update.{Update}
use Rattle.sss_states.specs.Entry.{blank}
use Rattle.sss_states.specs.Engine.Kept.{stored}

-- the new entry of node k: a state of its own, or blank
abbrev pub entry_in : Option Content → ℕ → State
entry_in (Some c) = λ k. record { node = k; status = c.status; merit = c.merit }
entry_in None = λ k. blank

-- the list afterwards
abbrev pub updated : Update → List State → List State
updated u ls = stored (entry_in u.content) u.first u.count ls

-- the entries are among the first n, and of nodes that a tree may have
pub record Within (u : Update) (n : ℕ) : Type 0 where
  pub room : u.first + u.count ≤ n
  pub at_most : u.first + u.count ≤ max_nodes

-- what a change puts on the list
abbrev pub of_change : Change → Update
of_change c =
    record {
      first = c.first;
      count = c.count;
      content = Some (record { status = c.status; merit = value_of c.score });
    }

-- the first n entries are blank
abbrev pub blanks : ℕ → Update
blanks n = record { first = 0; count = n; content = None }
