-- `sss_loop::drive` meets its contract: it knows of the run what `Driving.antt` says, and nothing of the rules.
use Rattle.prelude.proofs.{sym, ap, ◌∙◌}
use Rattle.sss_loop.proofs.Driving.{along-asks, along-ends, turn-within, turn-falls, turn-onward}
use Rattle.sss_loop.proofs.drive.Goals as goal

pub next-run-requires : goal.next-run-requires
next-run-requires c =
    let i = c.loop-list.invariant in
    rw (i.1.0, i.1.1, c.take-entry.ensures)
    (along-asks _ _ _ _ _ _ _ i.0 (sym c.goes_on.ensures ∙ c.loop-list-test.true))

pub replace-requires-in-loop-list : goal.replace-requires-in-loop-list
replace-requires-in-loop-list c =
    let i = c.loop-list.invariant in
    turn-within _ _ _ _ _ _ _ i.0 (sym c.goes_on.ensures ∙ c.loop-list-test.true) c.take-entry.ensures
    (ap (λ t. t.now) i.1.0) c.next-run.ensures.value

pub loop-list-smaller : goal.loop-list-smaller
loop-list-smaller c =
    let i = c.loop-list.invariant in
    turn-falls _ _ _ _ _ _ _ i.0 (sym c.goes_on.ensures ∙ c.loop-list-test.true) c.take-entry.ensures
    (ap (λ t. t.now) i.1.0) c.next-run.ensures.value

pub loop-list-preserved : goal.loop-list-preserved
loop-list-preserved c =
    let i = c.loop-list.invariant in
    let f = c.next-run.ensures.same_front in
    let b = c.next-run.ensures.same_buffers in (
      turn-onward _ _ _ _ _ _ _ i.0 (sym c.goes_on.ensures ∙ c.loop-list-test.true) c.take-entry.ensures
          (ap (λ t. t.now) i.1.0) c.next-run.ensures.value c.replace-in-loop-list.ensures,
      (f.0 ∙ i.1.0, f.1 ∙ i.1.1, f.2 ∙ i.1.2, f.3 ∙ i.1.3),
      (b.0 ∙ i.2.0, b.1 ∙ i.2.1),
    )

pub returns-clause-driven : goal.returns-clause-driven
returns-clause-driven c =
    along-ends _ _ _ _ _ _ _ c.loop-list.invariant.0 (sym c.goes_on.ensures ∙ c.loop-list-test.false)
