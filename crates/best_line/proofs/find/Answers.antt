-- `best_line::find` meets its contract: the certificate of SSS*, and the line that is read off it.
use Rattle.best_line.proofs.Whole.{find-gives}
use Rattle.best_line.proofs.find.Goals as goal

pub returns : goal.returns
returns c = let both = find-gives _ c.requires.0 _ c.requires.1 _ _ _ _ _ _ c.search-answer.ensures
    c.principal-given.ensures
    c.line_length-length.ensures c.found.ensures in
    record { value = both.0; line_after = both.1 }
