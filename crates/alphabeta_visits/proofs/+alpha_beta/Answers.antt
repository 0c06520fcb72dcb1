-- `alpha_beta` meets its contract: the number of frames from the node on falls with each call, and the visit of a child
-- hands back what the rule gives, so that the children that are left complete what the node was to give.
use Rattle.std.proofs.Common.{ℕ, arith, sym, ◌∙◌}
use Rattle.table.proofs.Next.{child-later, child-within}
use Rattle.certificate_write.proofs.Searchable.{searchable-depth}
use Rattle.alphabeta_visits.proofs.Visits.{Visit, searchable-leaf, leaf-visit, loop-starts, child-searchable}
use Rattle.alphabeta_visits.proofs.Visits.{loop-ends, loop-stops, loop-goes-on}
use Rattle.alphabeta_visits.proofs.+alpha_beta.Goals as goal
use Rattle.alphabeta_visits.proofs.+alpha_beta.Goals.{Joined-child_count-eq0}
use Rattle.alphabeta_visits.proofs.+alpha_beta.Goals.{then-child_count-eq0, else-child_count-eq0}

pub visit_leaf-requires-clause-evaluable : goal.visit_leaf-requires-clause-evaluable
visit_leaf-requires-clause-evaluable t c = searchable-leaf _ _ _ _ c.requires.searchable (omega arith)

pub returns-then-count-eq0 : goal.returns-then-count-eq0
returns-then-count-eq0 t c =
    let e = c.visit_leaf.ensures in
    let v : Visit c.args.table.now c.args.node c.args.window c.args.evaluations.now c.visit_leaf.new.evaluations
    c.visit_leaf.result =
    leaf-visit c.requires.searchable c.requires.listable (omega arith) e.score_value e.order_after e.same_buffers in
    record {
      score_value = v.gives.0;
      order_after = v.gives.1;
      leaves_value = v.counted;
      same_buffers = v.same_buffers;
    }

pub loop-evaluations-init : goal.loop-evaluations-init
loop-evaluations-init t c =
    loop-starts c.requires.searchable _ _ c.requires.listable (omega arith) c.first_child-child.ensures.0 (omega arith)

pub child_position-below-requires : goal.child_position-below-requires
child_position-below-requires t c =
    let r = c.requires.searchable in
    (child-within _ r.formed r.inside c.loop-evaluations.invariant.child, (searchable-depth _ _ _ _ r).1)

pub child_count-requires : goal.child_count-requires
child_count-requires t c =
    child-within _ c.requires.searchable.formed c.requires.searchable.inside c.loop-evaluations.invariant.child

pub visit_leaf-score-requires-clause-evaluable : goal.visit_leaf-score-requires-clause-evaluable
visit_leaf-score-requires-clause-evaluable t c =
    searchable-leaf _ _ _ _
    (child-searchable c.requires.searchable c.loop-evaluations.invariant _ c.child_position-below.ensures)
    (omega arith)

pub alpha_beta-score-requires : goal.alpha_beta-score-requires
alpha_beta-score-requires t c =
    let r = c.requires.searchable in
    let h = c.loop-evaluations.invariant in (
      omega (arith, child-later _ r.formed r.inside h.child),
      (child-searchable r h _ c.child_position-below.ensures, h.listable),
    )

-- what the visit of the child did, whichever way it went
visited : (t : ℕ) (c : Joined-child_count-eq0 t)
    → Visit c.args.table.now c.loop-evaluations.child c.loop-evaluations.window c.loop-evaluations.evaluations
    c.if-child_count-eq0.evaluations c.if-child_count-eq0.score
visited t c =
    let h = c.loop-evaluations.invariant in
    elim c.if-child_count-eq0.branch [
      | then-child_count-eq0 w ↦ let e = w.visit_leaf-score.ensures in
          rw (w.evaluations-is, w.score-is)
          (leaf-visit (child-searchable c.requires.searchable h _ c.child_position-below.ensures) h.listable
          (omega arith) e.score_value e.order_after e.same_buffers)
      | else-child_count-eq0 w ↦ let e = w.alpha_beta-score.ensures in
          rw (w.evaluations-is, w.score-is)
          (record {
            gives = (e.score_value, e.order_after);
            counted = e.leaves_value;
            same_buffers = e.same_buffers;
          })
    ]

pub loop-evaluations-preserved : goal.loop-evaluations-preserved
loop-evaluations-preserved t c =
    loop-goes-on c.requires.searchable c.loop-evaluations.invariant
    (visited t (goal.at.loop-evaluations-preserved t c).Joined-child_count-eq0) c.narrow-window.ensures (omega arith)
    (omega arith) (sym c.is_closed.ensures ∙ c.if-is_closed.false)

pub returns-then-child-last : goal.returns-then-child-last
returns-then-child-last t c =
    let v = loop-ends c.requires.searchable c.loop-evaluations.invariant
    (visited t (goal.at.returns-then-child-last t c).Joined-child_count-eq0) c.if-child-last.true in
    record {
      score_value = v.gives.0;
      order_after = v.gives.1;
      leaves_value = v.counted;
      same_buffers = v.same_buffers;
    }

pub returns-then-is_closed : goal.returns-then-is_closed
returns-then-is_closed t c =
    let v = loop-stops c.requires.searchable c.loop-evaluations.invariant
    (visited t (goal.at.returns-then-is_closed t c).Joined-child_count-eq0) c.narrow-window.ensures (omega arith)
    (sym c.is_closed.ensures ∙ c.if-is_closed.true) in
    record {
      score_value = v.gives.0;
      order_after = v.gives.1;
      leaves_value = v.counted;
      same_buffers = v.same_buffers;
    }
