-- `first_not_below` meets its contract: each node before the one that is found is below, or each.
use Rattle.prelude.proofs.{◌-◌, ◌≤◌, ◌<◌, arith, rules, length-take, length-drop}
use Rattle.std.proofs.Common.{tests, get_or-drop, get_or-take}
use Rattle.std.proofs.lemmas.Iterator.{IsFirst-from_position, YieldsList-from_slice}
use Rattle.std.proofs.option.Match.{if_some, if_none}
use Rattle.mtd_memory.proofs.first_not_below.Goals as goal

pub returns-in_err-place-clause-by_index : goal.returns-in_err-place-clause-by_index
returns-in_err-place-clause-by_index c = λ k a b.
    let γ = c.args.test in
    let first = if_none _ _ c.in_err-place.was
    (IsFirst-from_position _ _ _ (λ x. γ ≤ x) (λ x. x < γ) c.position.ensures.ran
    (YieldsList-from_slice _ c.iter.ensures.rest) (λ x q k. search (rules, tests)) (λ x q k. search (rules, tests))) in
    let l : k < c.args.nodes.end = rw c.from_residual.ensures at b in
    let at = first (k - c.args.nodes.start) 0 (omega arith) (grind (arith, length-take, length-drop)) in
    grind (arith, get_or-take, get_or-drop)

pub returns-clause-by_index : goal.returns-clause-by_index
returns-clause-by_index c = λ k a b.
    let γ = c.args.test in
    let first = if_some _ _ _ c.in_ok-place.was
    (IsFirst-from_position _ _ _ (λ x. γ ≤ x) (λ x. x < γ) c.position.ensures.ran
    (YieldsList-from_slice _ c.iter.ensures.rest) (λ x q k. search (rules, tests)) (λ x q k. search (rules, tests))) in
    let at = first.2 (k - c.args.nodes.start) 0 (omega arith) (omega arith) in
    let within = first.0 in
    grind (arith, get_or-take, get_or-drop)
