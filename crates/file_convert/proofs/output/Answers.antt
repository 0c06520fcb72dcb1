-- What the converter answers decides what is printed.
use Rattle.prelude.proofs.{sym, ap, ◌∙◌}
use Rattle.file_convert.specs.{laid_text}
use Rattle.file_convert.proofs.Printing.{written-printed, rejection-printed}
use Rattle.file_convert.proofs.output.Goals as goal

pub returns-in-Ok : goal.returns-in-Ok
returns-in-Ok c = written-printed _ _ _ _ c.convert.ensures c.in-Ok.is

pub returns-in-Err : goal.returns-in-Err
returns-in-Err c =
    let p = rejection-printed _ _ _ _ c.convert.ensures c.in-Err.is in
    c.lay_refused.ensures ∙ ap (laid_text _ _) p.0 ∙ sym p.1
