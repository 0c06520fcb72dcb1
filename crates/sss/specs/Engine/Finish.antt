-- What a search that has stopped answers, and what it leaves in the certificate.
use Rattle.table.specs.declared.Rejection.{Rejection}
use Rattle.std.specs.Prelude.{ℕ, ◌≤◌, ◌≡◌, List, length, Result, Ok, Err}
use Rattle.gametree.specs.Trees.{greatest}
use Rattle.table.specs.Frame.{frames}
use Rattle.table.specs.Formed.{WellFormed}
use Rattle.table.specs.Value.{value_of}
use Rattle.table_positions.specs.Engine.Positions.{Positioned}
use Rattle.certificate_bounds.specs.Engine.Progress.{Progress}
use Rattle.methods.specs.declared.Findings.{Findings}
use Rattle.methods.specs.declared.Spent.{Spent}
use Rattle.methods.specs.declared.Answer.{Answer}
use Rattle.methods.specs.declared.Answer.TheVariants.{Found as FoundAnswer, Spent as SpentAnswer}
use Rattle.methods.specs.declared.Answer.TheVariants.{Rejected as RejectedAnswer}
use Rattle.methods.specs.Engine.Certified.{certified_flags}
use Rattle.sss_turns.specs.declared.Counts.{Counts}
use Rattle.sss_turns.specs.declared.Stage.{Stage}
use Rattle.sss_turns.specs.declared.Stage.TheVariants as stage
use Rattle.sss_turns.specs.declared.Run.{Run}

-- the merit is that of the state that was taken last; n leaves are evaluated
abbrev pub spent_by : (γ n : ℕ) → Counts → Spent
spent_by γ n k = record { merit = value_of γ; leaves = n; steps = k.replacements }

-- the merit is the value, and the node whose state was replaced last is the root move
abbrev pub found_by : (γ n : ℕ) → Counts → Findings
found_by γ n k = record { value = value_of γ; root_move = k.replaced; leaves = n; steps = k.replacements }

-- what a run answers that has ended at this stage, after n leaves, with these counts; of one that goes on nothing is
-- asked
abbrev pub answer_at : Stage → ℕ → Counts → Answer
answer_at stage.Going n k = FoundAnswer (found_by 0 n k)
answer_at (stage.Finished γ) n k = FoundAnswer (found_by γ n k)
answer_at (stage.Spent γ) n k = SpentAnswer (spent_by γ n k)

abbrev pub answer_of : ℕ → Run → Answer
answer_of n r = answer_at r.stage n r.counts

-- the run has ended, with a merit that is a score
abbrev pub Ended : Stage → Type 0
Ended stage.Going = ⊥
Ended (stage.Finished γ) = γ ≤ greatest
Ended (stage.Spent γ) = γ ≤ greatest

-- what an answer asks, of a run that was not rejected
pub record Answerable (t b : List ℕ) (s : Stage) : Type 0 where
  pub formed : WellFormed t
  pub marks : frames t ≤ length b
  pub ended : Ended s

-- what a run that has stopped asks, with the positions F, the progress p and the certificate c
abbrev pub Stopped : (t F : List ℕ) → Progress → List ℕ → Run → Result ℕ Rejection → Type 0
Stopped t F p c r (Ok n) = Positioned t F × Answerable t p.marks r.stage × (frames t ≤ length c)
Stopped t F p c r (Err x) = Unit

-- what a call answers: the rejection, or what the run r does after n leaves
abbrev pub answer_after : Result ℕ Rejection → ℕ → Run → Answer
answer_after (Ok k) n r = answer_of n r
answer_after (Err x) n r = RejectedAnswer x

-- what a finish with the progress p and the certificate c gives, and leaves in p' and c'
pub record Finished (t : List ℕ) (p : Progress) (c : List ℕ) (r : Run) (q : Result ℕ Rejection)
    (a : Answer) (p' : Progress) (c' : List ℕ) : Type 0 where
  pub answer : a ≡ answer_after q p.leaves r
  pub progress : p' ≡ p
  pub flags : c' ≡ certified_flags a t p.marks c
