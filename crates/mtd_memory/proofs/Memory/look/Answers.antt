-- `look` meets its contract: a leaf is tried, and an inner node is answered by its high or its entry.
use Rattle.prelude.proofs.{arith, ◌≡◌, refl, ap, rules, eq-eqb}
use Rattle.table.specs.{child_count}
use Rattle.table.proofs.Nodes.{in-own}
use Rattle.mtd_memory.specs.{memory_of}
use Rattle.mtd_memory.proofs.Visits.{ready-shallow, leaf-known, visit-leaf, visit-below, visit-not-below}
use Rattle.mtd_memory.proofs.Memory.look.Goals as goal

pub visit_leaf-requires-clause-node_value : goal.visit_leaf-requires-clause-node_value
visit_leaf-requires-clause-node_value c =
    let none : child_count c.args.table.now c.args.node ≡ 0 = search rules in
    (none, ap (λ p. p.depth) c.requires.positioned, ready-shallow c.requires)

pub visit_leaf-requires-clause-node_value_2 : goal.visit_leaf-requires-clause-node_value_2
visit_leaf-requires-clause-node_value_2 c =
    let none : child_count c.args.table.now c.args.node ≡ 0 = search rules in
    leaf-known c.args.table.now c.requires.formed c.args.node c.requires.inside none (memory_of c.args.self.now)
    c.requires.right

pub returns-then-child_count-eq0-clause-looked : goal.returns-then-child_count-eq0-clause-looked
returns-then-child_count-eq0-clause-looked c =
    let none : child_count c.args.table.now c.args.node ≡ 0 = search rules in
    let l = c.visit_leaf.ensures in
    visit-leaf c.args.table.now c.requires.formed c.args.node c.requires.inside none _ c.args.test _ _ _ _ _ _
    c.requires.room l.answer_value l.order_after l.evaluated_after l.highs_after l.not_below_after l.leaves_value
    (c.requires.skips _ (in-own _ c.requires.formed _))

pub returns-then-self-node-clause-looked : goal.returns-then-self-node-clause-looked
returns-then-self-node-clause-looked c =
    visit-below (record { formed = c.requires.formed; inside = c.requires.inside; from = refl; to = refl }) c.requires
    (omega arith) refl (omega (arith, c.if-self-node.true))

pub returns-then-self-node-eq1-clause-looked : goal.returns-then-self-node-eq1-clause-looked
returns-then-self-node-eq1-clause-looked c =
    visit-not-below (record { formed = c.requires.formed; inside = c.requires.inside; from = refl; to = refl })
    c.requires (omega arith) refl c.if-self-node.false (eq-eqb _ _ c.if-self-node-eq1.true)
