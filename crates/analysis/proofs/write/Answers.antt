-- Each way out gives the report of the file.
use Rattle.prelude.proofs.{arith, ap, ◌∙◌}
use Rattle.text.specs.{text_of}
use Rattle.analysis.proofs.Reporting.{read-accepted, read-rejected}
use Rattle.analysis.proofs.write.Goals as goal

pub analyse-requires : goal.analyse-requires
analyse-requires c = (read-accepted _ _ _ _ c.read.ensures _ c.in-Ok.is).formed

pub returns-in-Ok : goal.returns-in-Ok
returns-in-Ok c =
    c.analyse.ensures ∙ ap text_of (read-accepted _ _ _ _ c.read.ensures _ c.in-Ok.is).reported

pub returns-in-Err : goal.returns-in-Err
returns-in-Err c =
    c.refused.ensures ∙ ap text_of (read-rejected _ _ _ _ c.read.ensures (omega arith) _ c.in-Err.is)
