-- `sss::ends::start` meets its contract: by the answer to the questions.
use Rattle.std.proofs.Common.{◌≡◌, sym, ◌∙◌, [], ◌∷◌, length}
use Rattle.table.proofs.Acceptance.{accepted-formed}
use Rattle.certificate_write.proofs.Questions.{of-lesser}
use Rattle.sss.proofs.Starting.{asked, passed-nodes}
use Rattle.sss.proofs.ends.start.Goals as goal

pub fill-requires-clause-well_formed : goal.fill-requires-clause-well_formed
fill-requires-clause-well_formed c =
    let n = c.args.sizes in
    let told : c.ask-checked.result ≡ asked c.args.table.now n c.args.evaluated.now =
    of-lesser _ n.entries (length c.args.evaluated.now) (n.flags ∷ n.order ∷ [])
    (of-lesser _ _ n.flags (n.order ∷ []) (of-lesser _ _ n.order [] c.ask-checked.ensures c.min-shortest.ensures)
    c.min-2.ensures) c.min.ensures in
    accepted-formed _ (passed-nodes c.args.table.now n c.args.evaluated.now _ (sym c.in-Ok.is ∙ told)).0.accepted

pub fill-requires-clause-table_in_bounds : goal.fill-requires-clause-table_in_bounds
fill-requires-clause-table_in_bounds c = c.requires (fill-requires-clause-well_formed c)
