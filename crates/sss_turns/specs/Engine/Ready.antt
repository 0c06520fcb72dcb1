-- What one turn asks of the run and of the entry that is taken.
use Rattle.std.specs.Prelude.{ℕ, ◌*◌, ◌≤◌, ◌<◌, ◌≡◌, false, List, length}
use Rattle.gametree.specs.Trees.{greatest}
use Rattle.table.specs.Frame.{max_nodes, frames, child_count}
use Rattle.table.specs.Formed.{WellFormed}
use Rattle.certificate_bounds.specs.Marks.{marked}
use Rattle.certificate_bounds.specs.Engine.Progress.{Progress, Listable}
use Rattle.sss_states.specs.declared.Status.{Status}
use Rattle.sss_states.specs.declared.Status.TheVariants.{Live, Solved}
use Rattle.sss_states.specs.declared.State.{State}
use Rattle.sss_turns.specs.declared.Run.{Run}
use Rattle.table_positions.specs.Engine.Positions.{Positioned}
use Rattle.sss_states.specs.Engine.Kept.{Fits}
use Rattle.sss_turns.specs.Engine.Merit.{IsMerit}

-- node i with status s, if it is a LIVE leaf, has no mark yet
abbrev pub LeafUnmarked : List ℕ → List ℕ → Status → ℕ → Type 0
LeafUnmarked t b s i = s ≡ Live → child_count t i ≡ 0 → marked b i ≡ false

-- what the rules ask of a state that is not the SOLVED root
pub record Replaceable (t F : List ℕ) (p : Progress) (e : State) (γ : ℕ) : Type 0 where
  pub formed : WellFormed t
  pub positions : Positioned t F
  pub marks : frames t ≤ length p.marks
  pub node : e.node < frames t
  pub lower : e.status ≡ Solved → 0 < e.node
  pub unmarked : LeafUnmarked t p.marks e.status e.node
  pub merit : γ ≤ greatest
  pub listable : Listable t p

-- what a turn asks
pub record Takeable (t F w : List ℕ) (p : Progress) (r : Run) (e : State) : Type 0 where
  pub fits : Fits t F w
  pub marks : frames t ≤ length p.marks
  pub node : e.node < frames t
  pub unmarked : LeafUnmarked t p.marks e.status e.node
  pub merit : IsMerit e.merit
  pub at_most : r.counts.replacements < 2 * max_nodes
  pub listable : Listable t p
