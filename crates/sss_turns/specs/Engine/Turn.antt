-- One turn of the run of SSS*: the state that is taken is replaced, or, if it is the SOLVED root or a leaf that the
-- allowance does not cover, ends the run.
use Rattle.std.specs.Prelude.{ℕ, zero, suc, ◌+◌, ◌-◌, Bool, true, false, cond, List, [], ◌∷◌, eqb, ltb, get_or}
use Rattle.table.specs.Frame.{frames, child_count}
use Rattle.certificate_bounds.specs.Engine.Progress.{Progress, evaluate_all}
use Rattle.table.specs.Value.{score_of}
use Rattle.sss_states.specs.declared.Status.{Status}
use Rattle.sss_states.specs.declared.Status.TheVariants.{Live, Solved}
use Rattle.sss_states.specs.declared.State.{State}
use Rattle.sss_states.specs.declared.Change.{Change}
use Rattle.sss_turns.specs.declared.Counts.{Counts}
use Rattle.sss_turns.specs.declared.Stage.{Stage}
use Rattle.sss_turns.specs.declared.Stage.TheVariants.{Going, Finished, Spent}
use Rattle.sss_turns.specs.declared.Run.{Run}
use Rattle.sss_states.specs.Entry.{blank}
use Rattle.sss_states.specs.Engine.Kept.{Refreshed, refreshed, descended, changed}
use Rattle.sss_turns.specs.Engine.Rules.{of_state}
use Rattle.sss_turns.specs.Engine.Update.{updated, of_change, blanks}

-- does a run go on?
abbrev pub going : Stage → Bool
going Going = true
going (Finished m) = false
going (Spent m) = false

-- is a state of node i with this status the SOLVED root?
abbrev pub is_solved_root : Status → ℕ → Bool
is_solved_root Live i = false
is_solved_root Solved i = eqb i 0

-- the leaves that a replacement of node i, with n children, evaluates: a LIVE leaf
abbrev pub evaluated_at : ℕ → Status → ℕ → List ℕ
evaluated_at zero Live i = i ∷ []
evaluated_at zero Solved i = []
evaluated_at (suc n) s i = []

abbrev pub new_leaves : List ℕ → State → List ℕ
new_leaves t e = evaluated_at (child_count t e.node) e.status e.node

-- the counts after a replacement of node i's state
abbrev pub recounted : (i : ℕ) → Counts → Counts
recounted i k = record { replacements = k.replacements + 1; allowance = k.allowance; replaced = i }

-- is a state of a node with n children, with this status, that of a LIVE leaf?
abbrev pub is_live_leaf : ℕ → Status → Bool
is_live_leaf zero Live = true
is_live_leaf zero Solved = false
is_live_leaf (suc n) s = false

-- would a replacement of the state e, after n evaluated leaves, evaluate one that the allowance does not cover?
abbrev pub is_uncovered : List ℕ → State → ℕ → Counts → Bool
is_uncovered t e n k = cond (ltb n k.allowance) false (is_live_leaf (child_count t e.node) e.status)

-- the front after a change and the fall from its node, and the node to take next
abbrev pub settled_front : List ℕ → ℕ → Change → List ℕ → Refreshed
settled_front t γ c front = refreshed c.node t γ (changed γ c front) c.node

abbrev pub next_at : List ℕ → Refreshed → ℕ
next_at t r = descended (frames t - r.top) r.front r.top

-- the run after a replacement
abbrev pub replaced_run : List ℕ → List ℕ → Change → ℕ → Counts → Run
replaced_run t front c γ k =
    record { stage = Going; best = next_at t (settled_front t γ c front); counts = k; update = of_change c }

-- the run at its end, with an entry for each node blank
abbrev pub ended_run : List ℕ → Stage → Counts → Run
ended_run t s k = record { stage = s; best = 0; counts = k; update = blanks (frames t) }

-- the front, the progress of the evaluation and the run after a state is taken
pub record TurnTaken : Type 0 where
  pub front : List ℕ
  pub progress : Progress
  pub run : Run

-- the run ends
abbrev pub stopped : (t front : List ℕ) → Progress → Run → Stage → TurnTaken
stopped t front p r s = record { front = front; progress = p; run = ended_run t s r.counts }

-- the state e is replaced
abbrev pub stepped : (t front : List ℕ) → Progress → Run → State → TurnTaken
stepped t front p r e =
    let γ = score_of e.merit in
    let c = of_state t e.node γ e.status in
    record {
      front = (settled_front t γ c front).front;
      progress = evaluate_all p (new_leaves t e);
      run = replaced_run t front c γ (recounted r.best r.counts);
    }

-- the state e is taken
abbrev pub taken : (t front : List ℕ) → Progress → Run → State → TurnTaken
taken t front p r e =
    cond (is_solved_root e.status e.node) (stopped t front p r (Finished (score_of e.merit)))
    (cond (is_uncovered t e p.leaves r.counts) (stopped t front p r (Spent (score_of e.merit)))
    (stepped t front p r e))

-- the front, the list of states, the progress of the evaluation and the run between two turns
pub record Config : Type 0 where
  pub front : List ℕ
  pub list : List State
  pub progress : Progress
  pub run : Run

-- what is left after the best state is taken
abbrev pub best : List ℕ → Config → TurnTaken
best t c = taken t c.front c.progress c.run (get_or c.list c.run.best blank)

-- the list of states, too, once the update is made
abbrev pub updated_by : List State → TurnTaken → Config
updated_by ls x = record { front = x.front; list = updated x.run.update ls; progress = x.progress; run = x.run }

-- one turn: the best state is taken and replaced
abbrev pub turn : List ℕ → Config → Config
turn t c = updated_by c.list (best t c)
