-- `flags` meets its contract: the chosen certificate has a flag for each node.
use Rattle.prelude.proofs.{Ok, ap, length-take-le, arith, sym, ◌∙◌}
use Rattle.certificate_choice.specs.declared.Chosen.TheVariants.{First, Second}
use Rattle.certificate_choice.proofs.Choosing.{passed-enough, choice-says}
use Rattle.certificate_choice.proofs.flags.Goals as goal

pub slice_bounds-result-end-in-First : goal.slice_bounds-result-end-in-First
slice_bounds-result-end-in-First c =
    let l = passed-enough _ _ (choice-says c.args.table.now c.args.first.now c.args.second.now (Ok First)
    (sym (c.in-Ok.is ∙ ap Ok c.in-First.is) ∙ c.requires)).1 in
    sym (length-take-le _ _ (omega (arith, l)))

pub slice_bounds-result-end-in-Second : goal.slice_bounds-result-end-in-Second
slice_bounds-result-end-in-Second c =
    let l = passed-enough _ _ (choice-says c.args.table.now c.args.first.now c.args.second.now (Ok Second)
    (sym (c.in-Ok.is ∙ ap Ok c.in-Second.is) ∙ c.requires)).1 in
    sym (length-take-le _ _ (omega (arith, l)))
