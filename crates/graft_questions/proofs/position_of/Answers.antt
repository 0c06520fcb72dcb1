-- `graft_questions::position_of` meets its contract: each turn goes up to a parent, or passes one node that is not it.
use Rattle.prelude.proofs.{suc, ◌-◌, arith, ◌≡◌, sym, ◌∙◌}
use Rattle.graft_questions.proofs.Ascent.{climb-begins, climb_up, climb-left, climb_ends, ascent-depth}
use Rattle.graft_questions.proofs.position_of.Goals as goal

pub loop-candidate-init : goal.loop-candidate-init
loop-candidate-init c = climb-begins _ c.requires.0 _ c.requires.1

pub child_position-position-requires : goal.child_position-position-requires
child_position-position-requires c =
    let a = c.loop-candidate.invariant.ascent in
    let d = ascent-depth c.args.table.now c.args.node _ _ a in
    (a.inside, omega (arith, c.requires.0.at_most, c.requires.1))

pub loop-candidate-preserved-then-is_child : goal.loop-candidate-preserved-then-is_child
loop-candidate-preserved-then-is_child c =
    let e : c.loop-candidate.candidate ≡ suc (c.loop-candidate.candidate - 1) = omega arith in
    rw c.child_position-position.ensures
    (climb_up _ c.requires.0 _ _ _ _ (rw e at c.loop-candidate.invariant) (sym c.is_child.ensures ∙ c.if-is_child.true))

pub loop-candidate-preserved : goal.loop-candidate-preserved
loop-candidate-preserved c =
    let e : c.loop-candidate.candidate ≡ suc (c.loop-candidate.candidate - 1) = omega arith in
    climb-left _ c.requires.0 _ _ _ _ (rw e at c.loop-candidate.invariant)
    (sym c.is_child.ensures ∙ c.if-is_child.false)

pub returns : goal.returns
returns c = climb_ends _ c.requires.0 _ _ _ _ (omega arith) c.loop-candidate.invariant
