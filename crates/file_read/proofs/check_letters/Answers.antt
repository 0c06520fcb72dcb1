-- A file without a lowercase letter has no line with one.
use Rattle.prelude.proofs.{sym, ◌∙◌}
use Rattle.file_read.proofs.Letters.{file-small}
use Rattle.file_read.proofs.check_letters.Goals as goal

pub returns : goal.returns
returns c = rw (file-small _ (sym c.has_lowercase.ensures ∙ c.if-has_lowercase.false))
