-- `sss::find` meets its contract: the steps of a search, in order.
use Rattle.std.proofs.Common.{arith, rules, ◌≡◌, ap, ◌∙◌, List, ℕ}
use Rattle.prelude.proofs.{length-replicate}
use Rattle.table.specs.Frame.{max_nodes, frames}
use Rattle.table_positions.specs.Buffer.{written}
use Rattle.sss_states.specs.declared.State.{State}
use Rattle.sss_states.specs.Entry.{blank}
use Rattle.sss_loop.specs.Engine.Driven.{zeros}
use Rattle.sss.proofs.Starting.{zeros-sound, prepared-at}
use Rattle.sss.proofs.Own.{own-gives}
use Rattle.sss.proofs.find.Goals as goal

-- the marks after the clearing
cleared : (t b b' : List ℕ) (n : ℕ) → b' ≡ written (λ _. 0) n b → n ≡ frames t → b' ≡ written (λ _. 0) (frames t) b
cleared t b b' n e h = e ∙ ap (λ m. written (λ _. 0) m b) h

pub drive_own-ended-requires : goal.drive_own-ended-requires
drive_own-ended-requires c =
    let wf = c.requires.well_formed.0 in
    let t = c.args.table.now in
    let e = cleared t c.args.evaluated.now _ _ c.clear.ensures c.frame_count-nodes.ensures in
    rw (c.begun-run.ensures, e)
    (prepared-at c.args.allowance t _ _ zeros _ wf
    (omega (arith, wf.at_most, length-replicate {A = State} max_nodes blank)) c.requires.table_in_bounds.0
    c.requires.table_in_bounds.1 (zeros-sound t wf) _ c.requires.well_formed.1)

pub returns : goal.returns
returns c =
    let e = cleared c.args.table.now c.args.evaluated.now _ _ c.clear.ensures c.frame_count-nodes.ensures in
    let g = own-gives c.args.allowance _ c.requires.well_formed.0 _ _ _ _ e c.begun-run.ensures
    c.drive_own-ended.ensures.driven in
    -- what was lent ends as the run leaves it
    let marks = g.1.0 in
    let order = g.1.1 in
    record { value = c.answer.ensures ∙ g.0; evaluated_after = search rules; order_after = search rules }
