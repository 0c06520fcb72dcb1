-- `certificate_bounds::node_bounds` meets its contract: a leaf's bounds, or the best of the children's.
use Rattle.prelude.proofs.{◌+◌, ◌<◌, ◌≤◌, arith, refl, ap₂, ◌∙◌}
use Rattle.gametree.specs.{least, greatest}
use Rattle.table.specs.{frames, child_count}
use Rattle.table.proofs.Next.{children-within}
use Rattle.table_positions.proofs.Positions.{positioned-few, positioned-depth, positioned-side}
use Rattle.certificate_bounds.specs.{marked}
use Rattle.certificate_bounds.proofs.Bounds.{bound-leaf, bound-inner}
use Rattle.certificate_bounds.proofs.node_bounds.Goals as goal

pub leaf_bounds-requires : goal.leaf_bounds-requires
leaf_bounds-requires c = let d = c.depth_at.ensures ∙ positioned-depth _ _ c.requires.well_formed.1 _
    c.requires.node_bound.0 in
    record {
      node_bound = (c.requires.node_bound.0, omega arith);
      depth_value =
          (d, omega (arith, d, positioned-few _ _ c.requires.well_formed.1 _ c.requires.node_bound.0));
    }

pub returns-then-count-eq0 : goal.returns-then-count-eq0
returns-then-count-eq0 c = let E = marked c.args.evaluated.now in
    record {
      value = c.leaf_bounds.ensures.value
          ∙ ap₂ (λ l h. record { low = l; high = h }) (bound-leaf _ c.requires.well_formed.0 E least _
          c.requires.node_bound.0 (omega arith))
          (bound-leaf _ c.requires.well_formed.0 E greatest _ c.requires.node_bound.0 (omega arith));
      evaluated_unchanged = c.leaf_bounds.ensures.evaluated_unchanged;
    }

pub best-low-requires : goal.best-low-requires
best-low-requires c =
    -- the children lie within the table
    let within : (0 < child_count c.args.table.now c.args.node)
    × (c.first_child-first.result + c.child_count-count.result ≤ frames c.args.table.now) =
    let n : 0 < child_count c.args.table.now c.args.node = omega arith in
    (n, omega (arith, children-within c.args.table.now c.requires.well_formed.0 c.args.node (omega arith) n)) in
    let w = within in (omega arith, omega arith)

pub best-high-requires : goal.best-high-requires
best-high-requires c =
    -- the children lie within the table
    let within : (0 < child_count c.args.table.now c.args.node)
    × (c.first_child-first.result + c.child_count-count.result ≤ frames c.args.table.now) =
    let n : 0 < child_count c.args.table.now c.args.node = omega arith in
    (n, omega (arith, children-within c.args.table.now c.requires.well_formed.0 c.args.node (omega arith) n)) in
    let w = within in (omega arith, omega arith)

pub returns : goal.returns
returns c =
    -- the children lie within the table
    let within : (0 < child_count c.args.table.now c.args.node)
    × (c.first_child-first.result + c.child_count-count.result ≤ frames c.args.table.now) =
    let n : 0 < child_count c.args.table.now c.args.node = omega arith in
    (n, omega (arith, children-within c.args.table.now c.requires.well_formed.0 c.args.node (omega arith) n)) in
    let s = c.side_at-side.ensures ∙ positioned-side _ _ c.requires.well_formed.1 _ c.requires.node_bound.0 in
    let E = marked c.args.evaluated.now in
    let w = within in
    let l = bound-inner _ c.requires.well_formed.0 E least _ c.requires.node_bound.0 _ c.requires.by_index
    c.first_child-first.ensures.0 c.child_count-count.ensures.0 (omega arith) s c.best-low.ensures in
    let g = bound-inner _ c.requires.well_formed.0 E greatest _ c.requires.node_bound.0 _ c.requires.by_index_2
    c.first_child-first.ensures.0 c.child_count-count.ensures.0 (omega arith) s c.best-high.ensures in
    record { value = ap₂ (λ l h. record { low = l; high = h }) l g; evaluated_unchanged = refl }
