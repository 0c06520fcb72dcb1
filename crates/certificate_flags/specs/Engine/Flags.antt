-- The rule by which a node's flag and its bounds give its children's flags.
use Rattle.std.specs.Prelude.{ℕ, ◌-◌, ◌%◌, ◌<◌, ◌≡◌, cond, List, eqb}
use Rattle.gametree.specs.declared.Side.{Side}
use Rattle.gametree.specs.declared.Side.TheVariants.{Max, Min}
use Rattle.table.specs.Frame.{frames, child_count, next}
use Rattle.table.specs.Formed.{ChildOf}
use Rattle.table_positions.specs.Engine.Positions.{side_in}
use Rattle.certificate_flags.specs.Engine.Chosen.{bounds_by_side, chosen_child}

-- what a flag says of the side's own tree: 1 in the max tree, 2 in the min tree, 0 outside it
abbrev pub movers_flag : Side → ℕ → ℕ
movers_flag Max f = f % 2
movers_flag Min f = f - f % 2

-- the flag of child k of a node with flag f where the side s moves: each child is in the side's own tree if the node
-- is, the chosen child in the other one too
abbrev pub child_flag : Side → (f chosen k : ℕ) → ℕ
child_flag s f chosen k = cond (eqb k chosen) f (movers_flag s f)

-- the flags f follow from the arrays: 3 at the root, and each child's from its parent's
pub record FlagsFrom (t positions lows highs : List ℕ) (f : ℕ → ℕ) : Type 0 where
  pub at_root : f 0 ≡ 3
  pub at_child : (i k : ℕ) → i < frames t → ChildOf t i k
      → f k
      ≡ child_flag (side_in positions i) (f i)
      (chosen_child (bounds_by_side (side_in positions i) lows highs) i (next t i) (child_count t i)) k
