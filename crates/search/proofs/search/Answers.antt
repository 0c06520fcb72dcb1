-- `search::search` meets its contract: the questions are answered, and then the search is run or nothing is done.
use Rattle.prelude.proofs.{ℕ, ◌≡◌, sym, ◌∙◌, List, [], ◌∷◌, length}
use Rattle.table.specs.declared.Rejection.{Rejection}
use Rattle.table.specs.{Outcome, ◌leaving◌}
use Rattle.certificate_write.proofs.Questions.{asked, nodes-long-enough, of-least}
use Rattle.certificate_write.proofs.Outcomes.{finding, rejecting}
use Rattle.methods.specs.declared.Answer.{Answer}
use Rattle.methods.specs.declared.Answer.TheVariants.{Rejected}
use Rattle.methods.specs.{Lent, lent}
use Rattle.search.proofs.search.Goals as goal

-- the lengths of which question 10 asks
abbrev lengths : Lent → List ℕ
lengths l = length l.marks ∷ length l.flags ∷ length l.order ∷ []

-- what is given and left on a rejection
abbrev refused : Lent → Rejection → Outcome Answer Lent
refused l r = Rejected r leaving l

pub run-requires : goal.run-requires
run-requires c =
    let l = lent c.args.evaluated.now c.args.certificate.now c.args.order.now in
    -- what the questions answer: the shortest buffer stands for all
    let told : c.ask.result ≡ asked c.args.table.now (lengths l) =
    of-least _ _ _ _ c.ask.ensures c.min-shortest.ensures c.min.ensures in
    let r = nodes-long-enough _ (lengths l) _ (sym c.in-Ok.is ∙ told) in
    record { well_formed = r.0; table_in_bounds = (r.1.0, r.1.1.0, r.1.1.1.0) }

pub returns-in-Ok : goal.returns-in-Ok
returns-in-Ok c =
    let l = lent c.args.evaluated.now c.args.certificate.now c.args.order.now in
    let told : c.ask.result ≡ asked c.args.table.now (lengths l) =
    of-least _ _ _ _ c.ask.ensures c.min-shortest.ensures c.min.ensures in
    finding c.args.table.now (lengths l) (refused l) _ _ _ (sym c.in-Ok.is ∙ told) c.run.ensures

pub returns-in-Err : goal.returns-in-Err
returns-in-Err c =
    let l = lent c.args.evaluated.now c.args.certificate.now c.args.order.now in
    let told : c.ask.result ≡ asked c.args.table.now (lengths l) =
    of-least _ _ _ _ c.ask.ensures c.min-shortest.ensures c.min.ensures in
    rejecting c.args.table.now (lengths l) (refused l) _ _ (sym c.in-Err.is ∙ told)
