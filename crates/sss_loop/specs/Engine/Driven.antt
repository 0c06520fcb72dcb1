-- What the loop over the lent list is given, and what it leaves.
use Rattle.std.specs.Prelude.{◌≡◌, true, false, List, ℕ, length, replicate}
use Rattle.table.specs.Frame.{max_nodes}
use Rattle.table.specs.Formed.{WellFormed}
use Rattle.sss_states.specs.declared.State.{State}
use Rattle.sss_states.specs.Entry.{blank}
use Rattle.sss_turns.specs.declared.Run.{Run}
use Rattle.table_positions.specs.Engine.Positions.{Positioned}
use Rattle.certificate_bounds.specs.Engine.Progress.{Progress}
use Rattle.sss_turns.specs.Engine.Update.{updated, Within}
use Rattle.sss_turns.specs.Engine.Turn.{going, Config}
use Rattle.sss_loop.specs.Engine.Invariant.{Running}

-- a run that goes is at its start, over the front w, the states l and the progress p; one that does not changes no
-- entry
pub record Prepared (t F w : List ℕ) (l : List State) (p : Progress) (r : Run) : Type 0 where
  pub within : Within r.update (length l)
  pub formed : going r.stage ≡ true → WellFormed t
  pub positions : going r.stage ≡ true → Positioned t F
  pub running : going r.stage ≡ true → Running r.counts.allowance t l p (record {
    front = w;
    list = updated r.update l;
    progress = p;
    run = r;
  })
  pub idle : going r.stage ≡ false → r.update.count ≡ 0

-- the run has ended, or did not go at all
pub record Driven (t w : List ℕ) (l : List State) (p : Progress) (r : Run) (c : Config) : Type 0 where
  pub stopped : going c.run.stage ≡ false
  pub ran : going r.stage ≡ true → Running r.counts.allowance t l p c
  pub stayed : going r.stage ≡ false → c ≡ record { front = w; list = l; progress = p; run = r }

-- a work array at first
abbrev pub zeros : List ℕ
zeros = replicate max_nodes 0

-- the same of a front of zeros and a list of blank entries
abbrev pub PreparedOwn : (t F : List ℕ) → Progress → Run → Type 0
PreparedOwn t F p r = Prepared t F zeros (replicate max_nodes blank) p r

pub record DrivenOwn (t : List ℕ) (p : Progress) (r : Run) (p' : Progress) (r' : Run) : Type 0 where
  pub front : List ℕ
  pub list : List State
  pub driven : Driven t zeros (replicate max_nodes blank) p r (record {
    front = front;
    list = list;
    progress = p';
    run = r';
  })
