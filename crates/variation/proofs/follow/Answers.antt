-- `follow` meets its contract: each turn writes one node of the variation (Following).
use Rattle.variation.proofs.Following.{following-root, following-next, following-leaf}
use Rattle.variation.proofs.follow.Goals as goal

pub loop-child-init : goal.loop-child-init
loop-child-init c = following-root _ _ _ c.requires.0

pub loop-child-preserved : goal.loop-child-preserved
loop-child-preserved c =
    following-next _ _ _ c.requires.0 c.requires.1 c.loop-child.invariant c.in-Some.ensures

pub returns-in_default-clause-value : goal.returns-in_default-clause-value
returns-in_default-clause-value c =
    (following-leaf _ _ _ c.requires.0 c.requires.1 c.loop-child.invariant c.in_default.ensures).0

pub returns-in_default-clause-line_after : goal.returns-in_default-clause-line_after
returns-in_default-clause-line_after c =
    (following-leaf _ _ _ c.requires.0 c.requires.1 c.loop-child.invariant c.in_default.ensures).1
