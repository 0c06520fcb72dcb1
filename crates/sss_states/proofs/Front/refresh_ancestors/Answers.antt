-- `sss_states::Front::refresh_ancestors` meets its contract: what is still to be done stays the same.
use Rattle.prelude.proofs.{sym, ap, ◌∙◌}
use Rattle.table.specs.{parent_of}
use Rattle.sss_states.specs.{renewed}
use Rattle.sss_states.proofs.Risings.{rises-less, falling-again, refreshed-top}
use Rattle.sss_states.proofs.Front.refresh_ancestors.Goals as goal

pub loop-self-smaller : goal.loop-self-smaller
loop-self-smaller c =
    let i = c.loop-self.invariant in
    rises-less i.0 (sym c.needs_refresh.ensures ∙ c.loop-self-test.true)
    (c.refresh_parent-at.ensures.value ∙ ap (λ t. parent_of t.now c.loop-self.at) i.1.0)

pub loop-self-preserved : goal.loop-self-preserved
loop-self-preserved c =
    let i = c.loop-self.invariant in
    let s = c.refresh_parent-at.ensures.same_front in (
      falling-again i.0 (sym c.needs_refresh.ensures ∙ c.loop-self-test.true)
          (c.refresh_parent-at.ensures.value ∙ ap (λ t. parent_of t.now c.loop-self.at) i.1.0)
          (c.refresh_parent-at.ensures.entries
          ∙ ap (λ t. renewed t.now c.loop-self.self.entries.now (parent_of t.now c.loop-self.at)) i.1.0),
      (s.0 ∙ i.1.0, s.1 ∙ i.1.1, s.2 ∙ i.1.2, s.3 ∙ i.1.3),
    )

pub returns-clause-value : goal.returns-clause-value
returns-clause-value c =
    (refreshed-top c.loop-self.invariant.0 (sym c.needs_refresh.ensures ∙ c.loop-self-test.false)).0

pub returns-clause-entries : goal.returns-clause-entries
returns-clause-entries c =
    (refreshed-top c.loop-self.invariant.0 (sym c.needs_refresh.ensures ∙ c.loop-self-test.false)).1
