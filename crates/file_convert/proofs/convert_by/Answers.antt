-- The file is rejected, or its table is written.
use Rattle.table.specs.declared.Rejection.{Rejection}
use Rattle.prelude.proofs.{ℕ, List, ◌≡◌, ◌∙◌, Result, Ok}
use Rattle.table.proofs.Asked.{passed-on}
use Rattle.file_read.specs.{Decoded}
use Rattle.file_read.proofs.Reading.{Front, decoded-front, decoded-rejected}
use Rattle.file_convert.specs.{base_rejection}
use Rattle.file_convert.proofs.Converted.{base-table, base-sized}
use Rattle.file_convert.proofs.Converting.{convert-refused, convert-written}
use Rattle.file_convert.proofs.convert_by.Goals as goal

-- the file has passed the questions
front : (f table : List ℕ) (r : Result ℕ Rejection) (n : ℕ) → Decoded f (base_rejection f) table r → r ≡ Ok n
    → Front f (base_rejection f) table n
front f table r n d e = decoded-front f _ _ _ d (base-sized f) _ e

pub write_accepted-requires : goal.write_accepted-requires
write_accepted-requires g c =
    let w = front _ _ _ _ c.check_file.ensures c.in_ok-nodes.was in
    rw w.bytes (base-table c.args.file.now w.passed, w.nodes)

pub returns : goal.returns
returns g c =
    let w = front _ _ _ _ c.check_file.ensures c.in_ok-nodes.was in
    c.write_accepted.ensures ∙ convert-written c.args.file.now c.args.converted.now _ w.bytes w.passed

pub returns-in_err-nodes : goal.returns-in_err-nodes
returns-in_err-nodes g c =
    rw (passed-on _ _ c.from_residual.ensures.1)
    (convert-refused c.args.file.now c.args.converted.now _
    (decoded-rejected _ _ _ _ c.check_file.ensures _ c.in_err-nodes.was))
