-- `fill` meets its contract: the questions are answered, and then the leaves are filled or nothing is done.
use Rattle.worst_fill.proofs.Whole.{checked-fillable, fill_gives}
use Rattle.worst_fill.proofs.fill.Goals as goal

pub fill_node-requires : goal.fill_node-requires
fill_node-requires c = checked-fillable _ _ c.in_ok-check.ensures

pub returns : goal.returns
returns c =
    fill_gives _ _ c.in_ok-check.ensures _ _ c.fill_node.ensures.value c.fill_node.ensures.table_after
