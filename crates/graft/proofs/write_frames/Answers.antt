-- `graft::write_frames` meets its contract: each turn lays one frame and queues its children's sources.
use Rattle.prelude.proofs.{arith, ◌≡◌, ap, ◌∙◌, length, length-set}
use Rattle.table.proofs.Acceptance.{accepted-formed}
use Rattle.graft.proofs.Joined.{source-root}
use Rattle.graft.proofs.Sources.{fitting, graft-some}
use Rattle.graft.proofs.Writing.{writing_begins, writing-joined, writing-within, writing-fits}
use Rattle.graft.proofs.Writing.{writing_step, writing-ends}
use Rattle.graft.proofs.write_frames.Goals as goal

pub put_first_child-requires : goal.put_first_child-requires
put_first_child-requires c =
    let some = graft-some _ _ _ (fitting c.requires.graftable) in
    let few = (accepted-formed c.args.first.now c.requires.graftable.first).at_most in
    (omega (arith, c.requires.size_value), omega (arith, c.replaced.ensures.1, c.frame_count-root.ensures))

pub loop-i-init : goal.loop-i-init
loop-i-init c =
    let some = graft-some _ _ _ (fitting c.requires.graftable) in
    writing_begins _ _ _ (fitting c.requires.graftable) c.args.res.now _ c.replaced.ensures.0
    (omega (arith, c.requires.size_value)) _ c.put_first_child.ensures

pub source-source-requires : goal.source-source-requires
source-source-requires c =
    writing-joined _ _ _ (fitting c.requires.graftable) c.loop-i.invariant (omega (arith, c.requires.size_value.0)) _
    c.first_child.ensures.0

pub overflow_add-from : goal.overflow_add-from
overflow_add-from c =
    let few = (accepted-formed c.args.first.now c.requires.graftable.first).at_most in
    omega (arith, c.first_child-in-loop-i.ensures.1, source-root c.source-source.ensures)

pub put_frame-requires : goal.put_frame-requires
put_frame-requires c =
    let long : length c.loop-i.res ≡ length c.args.res.now = c.loop-i.invariant.long
    ∙ ap length c.put_first_child.ensures ∙ simp length-set in
    let w = writing-within _ _ _ (fitting c.requires.graftable) c.loop-i.invariant
    (omega (arith, c.requires.size_value.0)) _ c.first_child.ensures.0 c.source-source.ensures _
    c.child_count-count.ensures.0 in (
      c.source-source.ensures.within,
      omega (arith, long, c.requires.size_value),
      omega (arith, c.first_number-child.ensures.1, c.requires.graftable.at_most),
    )

pub put_children-requires-clause-count_bound : goal.put_children-requires-clause-count_bound
put_children-requires-clause-count_bound c =
    let few = (accepted-formed c.args.first.now c.requires.graftable.first).at_most in
    let w = writing-within _ _ _ (fitting c.requires.graftable) c.loop-i.invariant
    (omega (arith, c.requires.size_value.0)) _ c.first_child.ensures.0 c.source-source.ensures _
    c.child_count-count.ensures.0 in
    let long : length c.put_frame.new.res ≡ length c.args.res.now = ap length c.put_frame.ensures
    ∙ simp length-set (c.loop-i.invariant.long ∙ ap length c.put_first_child.ensures ∙ simp length-set) in (
      omega (arith, long, c.requires.size_value),
      omega (arith, c.first_child-in-loop-i.ensures.1, source-root c.source-source.ensures),
    )

pub put_children-requires-clause-by_index : goal.put_children-requires-clause-by_index
put_children-requires-clause-by_index c =
    writing-fits _ _ _ (fitting c.requires.graftable) c.loop-i.invariant (omega (arith, c.requires.size_value.0)) _
    c.first_child.ensures.0 c.source-source.ensures _ c.child_count-count.ensures.0 _ c.first_child-in-loop-i.ensures.0

pub overflow_add-next : goal.overflow_add-next
overflow_add-next c =
    let w = writing-within _ _ _ (fitting c.requires.graftable) c.loop-i.invariant
    (omega (arith, c.requires.size_value.0)) _ c.first_child.ensures.0 c.source-source.ensures _
    c.child_count-count.ensures.0 in
    omega (arith, c.requires.graftable.at_most)

pub loop-i-preserved : goal.loop-i-preserved
loop-i-preserved c =
    let long : length c.loop-i.res ≡ length c.args.res.now = c.loop-i.invariant.long
    ∙ ap length c.put_first_child.ensures ∙ simp length-set in
    writing_step _ _ _ (fitting c.requires.graftable) c.loop-i.invariant (omega (arith, c.requires.size_value.0)) _
    c.first_child.ensures.0 c.source-source.ensures _ c.child_count-count.ensures.0 _ c.first_child-in-loop-i.ensures.0
    c.first_number-child.result c.first_number-child.ensures.0
    (omega (arith, long, c.requires.size_value)) _
    c.put_frame.ensures _ c.put_children.ensures

pub returns : goal.returns
returns c = rw c.requires.size_value.0
    (writing-ends _ _ _ (fitting c.requires.graftable) _ _ c.put_first_child.ensures c.loop-i.invariant
    (omega (arith, c.requires.size_value.0)))
