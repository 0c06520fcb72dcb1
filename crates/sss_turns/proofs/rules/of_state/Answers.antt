-- `sss_turns::rules::of_state` meets its contract: by the status, and by the count of children.
use Rattle.prelude.proofs.{arith, ap, ◌∙◌}
use Rattle.table.specs.{side_of}
use Rattle.certificate_bounds.proofs.Listing.{none-evaluated}
use Rattle.sss_states.specs.declared.Status.TheVariants.{Live}
use Rattle.sss_turns.specs.{of_child}
use Rattle.table_positions.proofs.Positions.{positioned-side}
use Rattle.sss_turns.proofs.Puts.{parent-read}
use Rattle.sss_turns.proofs.Taking.{inner-none, solved-none}
use Rattle.sss_turns.proofs.rules.of_state.Goals as goal

pub side_at-requires-in-Solved : goal.side_at-requires-in-Solved
side_at-requires-in-Solved c =
    let p = parent-read c.requires c.in-Solved.is c.parent_at-parent.ensures in
    omega (arith, p.1, c.requires.positions.room)

pub of_child-requires : goal.of_child-requires
of_child-requires c =
    let p = parent-read c.requires c.in-Solved.is c.parent_at-parent.ensures in
    (omega (arith, c.requires.node, c.requires.formed.at_most), p.1)

pub returns-else-count-eq0-clause-progress : goal.returns-else-count-eq0-clause-progress
returns-else-count-eq0-clause-progress c =
    rw c.in-Live.is (none-evaluated _ _ _ (inner-none _ Live c.args.entry.node
    (λ e. c.if-count-eq0.false (c.child_count-count.ensures.0 ∙ e))))

pub returns-in-Solved-clause-value : goal.returns-in-Solved-clause-value
returns-in-Solved-clause-value c =
    let p = parent-read c.requires c.in-Solved.is c.parent_at-parent.ensures in
    let q = c.side_at-in-Solved.ensures ∙ positioned-side _ _ c.requires.positions _ p.1 in
    let t = c.args.table.now in
    let i = c.args.entry.node in
    rw (c.in-Solved.is, c.of_child.ensures, q)
    (ap (λ d. of_child t i c.args.merit d (side_of t d)) p.0)

pub returns-in-Solved-clause-progress : goal.returns-in-Solved-clause-progress
returns-in-Solved-clause-progress c =
    rw c.in-Solved.is (none-evaluated _ _ _ (solved-none _ c.args.entry.node))
