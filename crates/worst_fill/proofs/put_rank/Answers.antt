-- `put_rank` meets its contract: the two stores are those of the definition.
use Rattle.std.proofs.Common.{rules}
use Rattle.worst_fill.specs.Ranks.{with_rank}
use Rattle.worst_fill.proofs.put_rank.Goals as goal

pub returns : goal.returns
unfolding with_rank
returns c = search rules
