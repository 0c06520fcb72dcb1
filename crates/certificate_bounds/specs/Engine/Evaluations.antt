-- The evaluations that a search carries along, as progress, and that they stay in the buffers that were lent.
use Rattle.std.specs.Prelude.{◌≡◌}
use Rattle.certificate_bounds.specs.declared.Evaluations.{Evaluations}
use Rattle.certificate_bounds.specs.Engine.Progress.{Progress, progress}

-- how far the evaluation has come
abbrev pub progress_of : Evaluations → Progress
progress_of e = progress e.leaves e.marks.now e.order.now

-- marks and list are in the same lent buffers before and after
abbrev pub SameBuffers : Evaluations → Evaluations → Type 0
SameBuffers before after =
    (after.marks.ghost_name ≡ before.marks.ghost_name) × (after.order.ghost_name ≡ before.order.ghost_name)
