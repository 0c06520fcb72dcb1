-- `fill_node` meets its contract: at a leaf by its rank, at the head of the loop by `RankLoop`.
use Rattle.prelude.proofs.{arith}
use Rattle.worst_fill.proofs.Nodes.{leaf-few, leaf-due, turns-begin, turn_inside, turn-later}
use Rattle.worst_fill.proofs.Nodes.{turn-fillable, turn-goes-on, turns-end}
use Rattle.worst_fill.proofs.+fill_node.Goals as goal

pub put_rank-requires : goal.put_rank-requires
put_rank-requires t c = (c.requires.inside, omega (arith, leaf-few _ _ _ _ c.requires (omega arith)))

pub returns-then-count-eq0-clause-value : goal.returns-then-count-eq0-clause-value
returns-then-count-eq0-clause-value t c =
    (leaf-due _ _ _ _ c.requires (omega arith) _ c.put_rank.ensures).0

pub returns-then-count-eq0-clause-table_after : goal.returns-then-count-eq0-clause-table_after
returns-then-count-eq0-clause-table_after t c =
    (leaf-due _ _ _ _ c.requires (omega arith) _ c.put_rank.ensures).1

pub loop-turn-init : goal.loop-turn-init
loop-turn-init t c =
    turns-begin _ _ _ _ c.requires _ _ (omega arith) c.first_child-first.ensures.0 c.child_count-count.ensures.0

pub child_side-side-requires : goal.child_side-side-requires
child_side-side-requires t c =
    turn_inside _ _ _ _ c.requires _ _ _ _ _ c.loop-turn.invariant c.first_child-first.ensures.0
    c.child_count-count.ensures.0 (omega arith) _ c.nth_child-child.ensures

pub fill_node-next-requires : goal.fill_node-next-requires
fill_node-next-requires t c = (
  omega (
    arith,
    c.decreases,
    turn-later _ _ _ _ c.requires _ _ _ _ _ c.loop-turn.invariant c.first_child-first.ensures.0
        c.child_count-count.ensures.0 (omega arith) _ c.nth_child-child.ensures,
  ),
  turn-fillable _ _ _ _ c.requires _ _ _ _ _ c.loop-turn.invariant c.first_child-first.ensures.0
      c.child_count-count.ensures.0 (omega arith) _ c.nth_child-child.ensures _ c.child_side-side.ensures,
)

pub loop-turn-preserved : goal.loop-turn-preserved
loop-turn-preserved t c =
    turn-goes-on _ _ _ _ c.requires _ _ _ _ _ c.loop-turn.invariant c.first_child-first.ensures.0
    c.child_count-count.ensures.0 (omega arith) _ c.nth_child-child.ensures _ _
    c.fill_node-next.ensures.value c.fill_node-next.ensures.table_after

pub returns-clause-value : goal.returns-clause-value
returns-clause-value t c = (turns-end _ _ _ _ c.requires _ _ _ _ _ c.loop-turn.invariant (omega arith)).0

pub returns-clause-table_after : goal.returns-clause-table_after
returns-clause-table_after t c = (turns-end _ _ _ _ c.requires _ _ _ _ _ c.loop-turn.invariant (omega arith)).1
