-- The table is rejected, or its file is written.
use Rattle.table.proofs.Asked.{passed-on}
use Rattle.file_write.proofs.Questions.{table-refused}
use Rattle.file_write.proofs.write.Goals as goal

pub returns-in_err-nodes : goal.returns-in_err-nodes
returns-in_err-nodes c = rw (passed-on _ _ c.from_residual.ensures.1) (table-refused _ _ _ c.in_err-nodes.ensures)
