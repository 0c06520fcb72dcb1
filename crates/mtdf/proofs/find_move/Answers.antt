-- `find_move` meets its contract: a leaf has no move, and an inner root's children are tested.
use Rattle.prelude.proofs.{arith}
use Rattle.mtdf_visits.specs.{memory_of}
use Rattle.mtdf.proofs.Whole.{moved-leaf, moved-inner}
use Rattle.mtdf.proofs.find_move.Goals as goal

pub returns-then-child_count-ne0-clause-moved : goal.returns-then-child_count-ne0-clause-moved
returns-then-child_count-ne0-clause-moved c =
    moved-inner _ c.requires.formed _ (memory_of c.args.bounds.now) (memory_of c.enter.new.self) c.enter.result
    (omega (arith, c.if-child_count-ne0.true, c.child_count.ensures.0)) c.enter.ensures.entered

pub returns-else-child_count-ne0-clause-moved : goal.returns-else-child_count-ne0-clause-moved
returns-else-child_count-ne0-clause-moved c =
    moved-leaf _ c.requires.formed _ _ (omega (arith, c.if-child_count-ne0.false, c.child_count.ensures.0))
    c.requires.counted c.requires.right
