-- `graft_questions::ask_leaf` meets its contract.
use Rattle.prelude.proofs.{◌<◌, arith, ap, ltb-true, sym, ◌∙◌}
use Rattle.lists.proofs.Choice.{and_both}
use Rattle.table.specs.{frames}
use Rattle.table.proofs.Positions.{depth-at-most}
use Rattle.graft_questions.proofs.ask_leaf.Goals as goal

pub overflow_add-depth : goal.overflow_add-depth
overflow_add-depth c =
    let inside : c.args.node < frames c.args.first.now =
    ltb-true _ _ (and_both _ _ (sym c.is_leaf.ensures ∙ c.if-not-is_leaf.false)).0 in
    let d = depth-at-most c.args.first.now c.args.node in
    omega (arith, c.height.ensures, ap (λ q. q.depth) c.position_of-leaf.ensures, c.requires.0.at_most)
