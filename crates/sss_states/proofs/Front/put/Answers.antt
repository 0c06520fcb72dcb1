-- `sss_states::Front::put` meets its contract.
use Rattle.prelude.proofs.{arith, ap₂, ◌∙◌, set, length-set}
use Rattle.sss_states.specs.{stored}
use Rattle.sss_states.proofs.Stores.{stored-fill}
use Rattle.sss_states.proofs.Front.put.Goals as goal

pub returns-clause-entries : goal.returns-clause-entries
returns-clause-entries c =
    let x = c.args.change in
    let w = c.args.self.now.entries.now in
    stored-fill c.packed-2.result x.first x.count (set w x.node c.packed.result) _
    (omega (arith, length-set w x.node c.packed.result)) (c.fill.ensures.after (λ y e. e))
    ∙ ap₂ (λ v u. stored (λ k. v) x.first x.count (set w x.node u)) c.packed-2.ensures c.packed.ensures
