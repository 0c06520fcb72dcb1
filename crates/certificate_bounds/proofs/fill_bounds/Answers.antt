-- `certificate_bounds::fill_bounds` meets its contract: from the last node to the first, each bound follows from later
-- ones.
use Rattle.prelude.proofs.{◌-◌, ◌<◌, arith, refl, ap, ◌∙◌, length}
use Rattle.table.specs.{frames}
use Rattle.certificate_bounds.proofs.BottomUp.{rising-begins, rising_step, rising-ends}
use Rattle.certificate_bounds.proofs.Bounds.{children-bounded}
use Rattle.certificate_bounds.proofs.fill_bounds.Goals as goal

pub loop-node-init : goal.loop-node-init
loop-node-init c = rw c.frame_count-node.ensures (
  refl,
  rising-begins _ c.requires.table_in_bounds.0,
  rising-begins _ c.requires.table_in_bounds.1,
)

pub node_bounds-bounds-requires : goal.node_bounds-bounds-requires
node_bounds-bounds-requires c = let n = ap length c.loop-node.invariant.0 in record {
  well_formed =
      (c.requires.well_formed.0, c.requires.well_formed.1, omega (arith, n));
  node_bound =
      (omega (arith, c.loop-node.invariant.1.inside), c.loop-node.invariant.1.room, c.loop-node.invariant.2.room);
  by_index = λ k d. rw c.loop-node.invariant.0 (children-bounded _ c.requires.well_formed.0 _ c.loop-node.invariant.1
      (omega arith) k d);
  by_index_2 = λ k d. rw c.loop-node.invariant.0
      (children-bounded _ c.requires.well_formed.0 _ c.loop-node.invariant.2 (omega arith) k d);
}

pub offset_bounds-lows-node : goal.offset_bounds-lows-node
offset_bounds-lows-node c =
    -- the node lies within the table
    let inside : c.loop-node.node - 1 < frames c.args.table.now = omega (arith, c.loop-node.invariant.1.inside) in
    omega (arith, inside, c.requires.well_formed.0.at_most)

pub bounds-lows-node : goal.bounds-lows-node
bounds-lows-node c =
    -- the node lies within the table
    let inside : c.loop-node.node - 1 < frames c.args.table.now = omega (arith, c.loop-node.invariant.1.inside) in
    omega (arith, inside, c.loop-node.invariant.1.room)

pub offset_bounds-highs-node : goal.offset_bounds-highs-node
offset_bounds-highs-node c =
    -- the node lies within the table
    let inside : c.loop-node.node - 1 < frames c.args.table.now = omega (arith, c.loop-node.invariant.1.inside) in
    omega (arith, inside, c.requires.well_formed.0.at_most)

pub bounds-highs-node : goal.bounds-highs-node
bounds-highs-node c =
    -- the node lies within the table
    let inside : c.loop-node.node - 1 < frames c.args.table.now = omega (arith, c.loop-node.invariant.1.inside) in
    omega (arith, inside, c.loop-node.invariant.2.room)

pub loop-node-preserved : goal.loop-node-preserved
loop-node-preserved c = let e = rw c.loop-node.invariant.0 at c.node_bounds-bounds.ensures.value in (
  c.node_bounds-bounds.ensures.evaluated_unchanged ∙ c.loop-node.invariant.0,
  rising_step _ c.loop-node.invariant.1 (omega arith) _ (rw e),
  rising_step _ c.loop-node.invariant.2 (omega arith) _ (rw e),
)

pub returns : goal.returns
returns c = record {
  lows_after = rising-ends _ c.loop-node.invariant.1 (omega arith);
  highs_after =
      rising-ends _ c.loop-node.invariant.2 (omega arith);
  evaluated_unchanged = c.loop-node.invariant.0;
}
