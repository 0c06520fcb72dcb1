-- The rule makes all 760 entries, and they are compared in one computation.
use Rattle.prelude.proofs.{refl}
use Rattle.least_count.specs.{ruled}
use Rattle.least_count.proofs.whole_table.Goals as goal

pub returns : goal.returns
unfolding ruled
returns c = refl
