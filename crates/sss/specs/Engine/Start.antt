-- What a search starts with: its questions, and the run, the positions and the marks that follow from the answers.
use Rattle.std.specs.Prelude.{ℕ, ◌≡◌, List, [], ◌∷◌, length, Result, Ok, Err}
use Rattle.std.proofs.Math.Option.{Option, none, some}
use Rattle.gametree.specs.Trees.{greatest}
use Rattle.table.specs.declared.Rejection.{Rejection}
use Rattle.table.specs.Frame.{frames}
use Rattle.table.specs.Rejection.{answer}
use Rattle.table_positions.specs.Buffer.{written}
use Rattle.certificate_write.specs.Search.{search_rejection}
use Rattle.sss_states.specs.declared.Status.TheVariants.{Live}
use Rattle.sss_turns.specs.declared.Counts.{Counts}
use Rattle.sss.specs.declared.Sizes.{Sizes}
use Rattle.sss_turns.specs.declared.Stage.{Stage}
use Rattle.sss_turns.specs.declared.Stage.TheVariants.{Going, Finished}
use Rattle.sss_turns.specs.declared.Run.{Run}
use Rattle.table_positions.specs.Engine.Positions.{position_entry}
use Rattle.sss_turns.specs.Engine.Update.{of_change}

-- the first "no" to questions 1 to 10, for buffers of these sizes and the marks b
abbrev pub start_rejection : List ℕ → Sizes → List ℕ → Option Rejection
start_rejection t n b = search_rejection t (n.entries ∷ length b ∷ n.flags ∷ n.order ∷ [])

-- nothing is counted yet, and a leaves may be evaluated
abbrev pub no_counts : (a : ℕ) → Counts
no_counts a = record { replacements = 0; allowance = a; replaced = 0 }

-- a run at its start, with so many states: the root's, LIVE, with the greatest merit, or none
abbrev pub beginning : (a : ℕ) → Stage → ℕ → Run
beginning a s n =
    record {
      stage = s;
      best = 0;
      counts = no_counts a;
      update = of_change (record { node = 0; first = 0; count = n; status = Live; score = greatest });
    }

-- the run after the questions: one that was rejected is over before its first turn
abbrev pub begun : (a : ℕ) → Result ℕ Rejection → Run
begun a (Ok n) = beginning a Going 1
begun a (Err r) = beginning a (Finished greatest) 0

-- the positions F and the marks b after the questions
abbrev pub positions_after : (t F : List ℕ) → Option Rejection → List ℕ
positions_after t F none = written (position_entry t) (frames t) F
positions_after t F (some r) = F

abbrev pub marks_after : (t b : List ℕ) → Option Rejection → List ℕ
marks_after t b none = written (λ k. 0) (frames t) b
marks_after t b (some r) = b

-- what a start with the positions F and the marks b gives, and leaves in F' and b'
pub record Started (t : List ℕ) (n : Sizes) (F b : List ℕ) (q : Result ℕ Rejection) (F' b' : List ℕ) : Type 0 where
  pub checked : q ≡ answer (frames t) (start_rejection t n b)
  pub positions : F' ≡ positions_after t F (start_rejection t n b)
  pub marks : b' ≡ marks_after t b (start_rejection t n b)
