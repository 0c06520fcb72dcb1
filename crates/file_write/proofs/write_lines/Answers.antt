-- Each turn lays a line at the front of what is left of the file.
use Rattle.prelude.proofs.{◌*◌, add-sub_cancel_left, arith}
use Rattle.table.specs.{frame_size}
use Rattle.file_write.proofs.Writing.{writing-none, writing-next}
use Rattle.file_write.proofs.write_lines.Goals as goal

pub loop-node-init : goal.loop-node-init
loop-node-init c = writing-none _ _ _

pub loop-node-preserved : goal.loop-node-preserved
loop-node-preserved c =
    writing-next _ _ _ c.requires.nodes_le_max_nodes.1 c.requires.nodes_in_bounds _ _ c.loop-node.invariant
    (omega arith) _ _ _ (omega arith) (rw (add-sub_cancel_left (frame_size * c.loop-node.node) frame_size))
    c.write_line.ensures
