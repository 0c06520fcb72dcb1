-- The bounds that MTD(f) carries along, as its memory, and that they stay in the buffers that were lent.
use Rattle.std.specs.Prelude.{◌≡◌}
use Rattle.certificate_bounds.specs.Engine.Evaluations.{SameBuffers as SameLists}
use Rattle.mtdf_visits.specs.declared.Bounds.{Bounds}
use Rattle.mtdf_visits.specs.Engine.Memory.{Memory, memory}

-- the count and the four arrays
abbrev pub memory_of : Bounds → Memory
memory_of b =
    memory b.evaluations.now.leaves b.evaluations.now.marks.now b.evaluations.now.order.now b.lows.now b.highs.now

-- the evaluations and each array are in the same lent buffers before and after
abbrev pub SameBuffers : Bounds → Bounds → Type 0
SameBuffers before after =
    (after.evaluations.ghost_name ≡ before.evaluations.ghost_name)
    × SameLists before.evaluations.now after.evaluations.now
    × (after.lows.ghost_name ≡ before.lows.ghost_name)
    × (after.highs.ghost_name ≡ before.highs.ghost_name)
