-- Nothing is written to the lent table before question 10 has passed.
use Rattle.table.specs.declared.Rejection.{Rejection}
use Rattle.table.proofs.Asked.{passed-on}
use Rattle.prelude.proofs.{ℕ, List, ◌≡◌, Result, Ok}
use Rattle.file_read.specs.{file_rejection, Decoded}
use Rattle.file_read.proofs.Reading.{Front, accepted-parts, decoded-front, decoded-rejected}
use Rattle.file_read.proofs.Reading.{read-refused, read_short, read-accepted}
use Rattle.file_read.proofs.read_by.Goals as goal

-- questions 1 to 9 have passed
front : (f table : List ℕ) (r : Result ℕ Rejection) (n : ℕ) → Decoded f (file_rejection f) table r → r ≡ Ok n
    → Front f (file_rejection f) table n
front f table r n d e = decoded-front _ _ _ _ d (λ p. (let q = accepted-parts _ p in (q.1, q.2))) _ e

pub returns-in_err-nodes : goal.returns-in_err-nodes
returns-in_err-nodes g c =
    rw (passed-on _ _ c.from_residual.ensures.1)
    (read-refused _ _ _ (decoded-rejected _ _ _ _ c.check_file.ensures _ c.in_err-nodes.was))

pub returns-then-table-size : goal.returns-then-table-size
returns-then-table-size g c =
    rw c.at.ensures
    (read_short _ c.args.table.now _ _ (front _ _ _ _ c.check_file.ensures c.in_ok-nodes.was) c.if-table-size.true)

pub returns : goal.returns
returns g c =
    read-accepted _ _ _ _ (front _ _ _ _ c.check_file.ensures c.in_ok-nodes.was) _ c.if-table-size.false
    c.copy_front.ensures
