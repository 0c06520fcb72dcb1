-- Entries of the lent list: a state of the theory, with its merit as a value.
use Rattle.std.specs.Prelude.{ℕ, pos}
use Rattle.gametree.specs.Sss as theory
use Rattle.table.specs.Value.{value_of}
use Rattle.sss_states.specs.declared.Status.{Status}
use Rattle.sss_states.specs.declared.Status.TheVariants.{Live, Solved}
use Rattle.sss_states.specs.declared.State.{State}

-- an entry for a node with a status and the score of its merit
abbrev pub entry : ℕ → Status → ℕ → State
entry n s m = record { node = n; status = s; merit = value_of m }

-- the status of a state of the theory
abbrev pub status_of : theory.Status → Status
status_of theory.LIVE = Live
status_of theory.SOLVED = Solved

-- the entry that a search leaves for each node: node 0, LIVE, merit 0
abbrev pub blank : State
blank = record { node = 0; status = Live; merit = pos 0 }
