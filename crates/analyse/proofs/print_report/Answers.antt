-- `analyse::print_report` is safe and ends: the text has the bytes that are printed.
use Rattle.text.proofs.Sizes.{length-within}
use Rattle.analyse.proofs.print_report.Goals as goal

pub as_bytes-requires : goal.as_bytes-requires
as_bytes-requires g c = length-within _ c.write-text.ensures
