-- `graft::Parts::replaced` meets its contract: it is the definition's choice.
use Rattle.std.proofs.Common.{rules}
use Rattle.graft.specs.Sources.{root_for}
use Rattle.graft.proofs.Parts.replaced.Goals as goal

pub returns-then-source-self : goal.returns-then-source-self
unfolding root_for
returns-then-source-self c = search rules

pub returns-else-source-self : goal.returns-else-source-self
unfolding root_for
returns-else-source-self c = search rules
