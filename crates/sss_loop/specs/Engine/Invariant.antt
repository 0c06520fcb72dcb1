-- What holds between two turns of the run: the list and the front show a list that SSS* reaches, and the next entry to
-- take is its best state; or the run has ended, and the entries are blank.
use Rattle.std.specs.Prelude.{ℕ, ◌≤◌, ◌≡◌, List, ◌++◌, length, drop, replicate}
use Rattle.gametree.specs.Trees.{greatest}
use Rattle.gametree.specs.Sss as theory
use Rattle.gametree.specs.Move.{root_move_of}
use Rattle.table.specs.Frame.{frames}
use Rattle.table.specs.Tree.{tree, valuation}
use Rattle.table_positions.specs.Buffer.{written}
use Rattle.certificate_bounds.specs.Marks.{ones}
use Rattle.certificate_bounds.specs.Engine.Progress.{Progress, progress, evaluate_all}
use Rattle.sss_states.specs.declared.State.{State}
use Rattle.sss_states.specs.Entry.{blank}
use Rattle.gametree.specs.Engine.Within.{End, Ran, finished, spent, sss_within}
use Rattle.sss_states.specs.Engine.Shown.{BestFound}
use Rattle.sss_states.specs.Engine.Kept.{arrays_of, Sound}
use Rattle.sss_turns.specs.declared.Stage.{Stage}
use Rattle.sss_turns.specs.declared.Stage.TheVariants.{Going, Finished, Spent}
use Rattle.sss_turns.specs.Engine.Turn.{Config}

-- the run of SSS* on the tree of a table within an allowance of a leaves
abbrev pub allowed_run : (a : ℕ) → List ℕ → Ran
allowed_run a t = sss_within a (valuation t) (tree t)

-- after k replacements that evaluated the leaves v, SSS* has the list L
abbrev pub Reaches : List ℕ → ℕ → List ℕ → List theory.State → Type 0
Reaches t k v L = theory.ListAfter (valuation t) (tree t) k v L

-- where the root is taken SOLVED after k replacements, node i, whose state was replaced last, is the root move
abbrev pub Moves : List ℕ → (k i : ℕ) → Type 0
Moves t k i = (v : List ℕ) (L : List theory.State) (x : ℕ) → Reaches t k v L
    → theory.step (valuation t) (tree t) L ≡ theory.stop x → i ≡ root_move_of (valuation t) (tree t)

-- the list ls and the front w show a list that SSS* reaches, and node i is the one to take, with merit γ
pub record Keeps (t : List ℕ) (ls : List State) (w : List ℕ) (γ i k : ℕ) (v : List ℕ) : Type 0 where
  pub states : List theory.State
  pub found : BestFound (arrays_of ls w) (tree t) γ states i
  pub reaches : Reaches t k v states

-- a run that goes on: node i is to be taken, with the merit that its entry says
pub record GoesOn (t : List ℕ) (ls : List State) (w : List ℕ) (i k : ℕ) (v : List ℕ) : Type 0 where
  pub merit : ℕ
  pub at_most : merit ≤ greatest
  pub keeps : Keeps t ls w merit i k v

-- the run within an allowance of a leaves has ended so with the merit γ, after k replacements that evaluated the leaves
-- v, and its entries of ls are blank
pub record Over (a : ℕ) (t : List ℕ) (ls : List State) (end : ℕ → End) (γ k : ℕ) (v : List ℕ) : Type 0 where
  pub ended : allowed_run a t ≡ record { end = end γ; evaluated = v; replacements = k }
  pub at_most : γ ≤ greatest
  pub blank-all : ls ≡ replicate (frames t) blank ++ drop (frames t) ls

-- what holds of a run at each stage
abbrev pub Stands : Stage → (a : ℕ) (t : List ℕ) → List State → List ℕ → ℕ → ℕ → List ℕ → Type 0
Stands Going a t ls w i k v = GoesOn t ls w i k v
Stands (Finished γ) a t ls w i k v = Over a t ls finished γ k v
Stands (Spent γ) a t ls w i k v = Over a t ls spent γ k v

-- the invariant, for an allowance of a leaves, a table t, and at entry the states l and the progress p
pub record Running (a : ℕ) (t : List ℕ) (l : List State) (p : Progress) (c : Config) : Type 0 where
  pub evaluated : List ℕ
  pub entries : length c.list ≡ length l
  pub room : frames t ≤ length l
  pub kept : drop (frames t) c.list ≡ drop (frames t) l
  pub mark_room : frames t ≤ length p.marks
  pub order_room : frames t ≤ length p.order
  pub all : c.progress ≡ evaluate_all (progress 0 (written (λ k. 0) (frames t) p.marks) p.order) evaluated
  pub counted : c.progress.leaves ≡ ones c.progress.marks (frames t)
  pub allowance : c.run.counts.allowance ≡ a
  pub allowed : length evaluated ≤ a
  pub sound : Sound t c.front
  pub moves : Moves t c.run.counts.replacements c.run.counts.replaced
  pub stands :
      Stands c.run.stage a t c.list c.front c.run.best c.run.counts.replacements evaluated
