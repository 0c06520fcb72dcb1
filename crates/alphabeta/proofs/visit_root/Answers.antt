-- `visit_root` meets its contract: the visit of a child hands back what the rule gives, so that the children that are
-- left complete what the tree was to give, and end with the root move.
use Rattle.std.proofs.Common.{◌≡◌, ◌∙◌, arith, refl}
use Rattle.prelude.proofs.{cond, ltb, lt-ltb, le-ltb}
use Rattle.table.proofs.Trees.{tree-leaf}
use Rattle.table.proofs.Next.{child-within}
use Rattle.alphabeta_visits.proofs.Visits.{Visit, searchable-leaf, leaf-visit, child-searchable}
use Rattle.alphabeta.proofs.Root.{root_window, root-starts, root-last, root-next}
use Rattle.alphabeta.proofs.visit_root.Goals as goal
use Rattle.alphabeta.proofs.visit_root.Goals.{Joined-alpha-score, then-alpha-score, else-alpha-score}

pub visit_leaf-alpha-requires-clause-evaluable : goal.visit_leaf-alpha-requires-clause-evaluable
visit_leaf-alpha-requires-clause-evaluable c = searchable-leaf _ _ _ _ c.requires.searchable (omega arith)

pub returns-then-count-eq0 : goal.returns-then-count-eq0
returns-then-count-eq0 c =
    let r = c.requires.searchable in
    let e = c.visit_leaf-alpha.ensures in
    let leaf = searchable-leaf _ _ _ _ r (omega arith) in
    let v : Visit c.args.table.now 0 (root_window 0) c.args.evaluations.now c.visit_leaf-alpha.new.evaluations
    c.visit_leaf-alpha.result =
    leaf-visit r c.requires.listable leaf.leaf e.score_value e.order_after e.same_buffers in
    record {
      alpha_value = (v.gives.0, rw (tree-leaf _ r.formed 0 r.inside leaf.leaf) refl);
      order_after = v.gives.1;
      leaves_value = v.counted;
      same_buffers = v.same_buffers;
    }

pub loop-child-init : goal.loop-child-init
loop-child-init c =
    root-starts _ c.requires.searchable.formed c.requires.searchable c.child_count-count.ensures.0 c.requires.listable
    (omega arith)

pub child_position-position-requires : goal.child_position-position-requires
child_position-position-requires c =
    let r = c.requires.searchable in (child-within _ r.formed r.inside c.loop-child.invariant.turn.child, omega arith)

pub alpha_beta-score-requires-clause-searchable : goal.alpha_beta-score-requires-clause-searchable
alpha_beta-score-requires-clause-searchable c =
    child-searchable c.requires.searchable c.loop-child.invariant.turn _ c.child_position-position.ensures

-- what the visit of the child did
visited : (c : Joined-alpha-score)
    → Visit c.args.table.now c.loop-child.child (root_window c.loop-child.alpha) c.loop-child.evaluations
    c.alpha_beta-score.new.evaluations c.alpha_beta-score.result
visited c =
    let e = c.alpha_beta-score.ensures in
    record { gives = (e.score_value, e.order_after); counted = e.leaves_value; same_buffers = e.same_buffers }

-- the child is the move from now on where it raised alpha
moved : (c : Joined-alpha-score)
    → c.if-alpha-score.root_move
    ≡ cond (ltb c.loop-child.alpha c.alpha_beta-score.result) c.loop-child.child c.loop-child.root_move
moved c =
    elim c.if-alpha-score.branch [
      | then-alpha-score w ↦ w.root_move-is ∙ rw (lt-ltb _ _ w.if-alpha-score.true)
      | else-alpha-score w ↦ w.root_move-is ∙ rw (le-ltb _ _ w.if-alpha-score.false)
    ]

pub loop-child-preserved : goal.loop-child-preserved
loop-child-preserved c =
    let j = (goal.at.loop-child-preserved c).Joined-alpha-score in
    root-next _ c.requires.searchable.formed c.requires.searchable c.child_count-count.ensures.0
    c.loop-child.invariant (visited j) _ (moved j) (omega arith)

pub returns-after-alpha-score : goal.returns-after-alpha-score
returns-after-alpha-score c =
    let j = (goal.at.returns-after-alpha-score c).Joined-alpha-score in
    let g = root-last _ c.requires.searchable.formed c.requires.searchable c.child_count-count.ensures.0
    c.loop-child.invariant (visited j) _ (moved j) (omega arith) in
    record {
      alpha_value = (g.0.gives.0, g.1);
      order_after = g.0.gives.1;
      leaves_value = g.0.counted;
      same_buffers = g.0.same_buffers;
    }
