-- `tree_values` meets its contract: before each node the two bests are those of the nodes behind it.
use Rattle.prelude.proofs.{◌≤◌, arith, ◌≡◌, refl, ap, ◌∙◌}
use Rattle.gametree.specs.declared.Side.TheVariants.{Max, Min}
use Rattle.table.specs.{max_nodes, depth_of}
use Rattle.table_positions.proofs.Positions.{positioned-few, positioned-depth}
use Rattle.certificate_check.specs.{best_before}
use Rattle.certificate_check.proofs.Values.{best-more}
use Rattle.certificate_check.proofs.tree_values.Goals as goal

pub loop-node-init : goal.loop-node-init
unfolding best_before
loop-node-init c = (refl, (refl, omega arith))

pub leaf_in-max_leaf-requires : goal.leaf_in-max_leaf-requires
leaf_in-max_leaf-requires c =
    -- the depth of the node that the loop is at
    let depth_is : (c.depth_at-depth.result ≡ depth_of c.args.table.now c.loop-node.node)
    × (c.depth_at-depth.result ≤ max_nodes) = let d =
    positioned-depth _ _ c.requires.2 c.loop-node.node (omega arith) in
    let few = positioned-few _ _ c.requires.2 c.loop-node.node (omega arith) in
    (omega (arith, c.depth_at-depth.ensures, d), omega (arith, c.depth_at-depth.ensures, d, few)) in
    record { node_bound = omega arith; depth_value = depth_is }

pub leaf_in-min_leaf-requires : goal.leaf_in-min_leaf-requires
leaf_in-min_leaf-requires c =
    -- the depth of the node that the loop is at
    let depth_is : (c.depth_at-depth.result ≡ depth_of c.args.table.now c.loop-node.node)
    × (c.depth_at-depth.result ≤ max_nodes) = let d =
    positioned-depth _ _ c.requires.2 c.loop-node.node (omega arith) in
    let few = positioned-few _ _ c.requires.2 c.loop-node.node (omega arith) in
    (omega (arith, c.depth_at-depth.ensures, d), omega (arith, c.depth_at-depth.ensures, d, few)) in
    record { node_bound = omega arith; depth_value = depth_is }

pub loop-node-preserved : goal.loop-node-preserved
loop-node-preserved c = (
  c.better-greatest.ensures
      ∙ best-more Max c.args.table.now c.args.flags.now c.loop-node.node _ _ c.loop-node.invariant.0
      c.leaf_in-max_leaf.ensures,
  (
    c.better-least.ensures
        ∙ best-more Min c.args.table.now c.args.flags.now c.loop-node.node _ _ c.loop-node.invariant.1.0
        c.leaf_in-min_leaf.ensures,
    omega arith,
  ),
)

pub returns : goal.returns
returns c = (
  c.loop-node.invariant.0 ∙ ap (best_before Max c.args.table.now c.args.flags.now) (omega arith),
  c.loop-node.invariant.1.0 ∙ ap (best_before Min c.args.table.now c.args.flags.now) (omega arith),
)
