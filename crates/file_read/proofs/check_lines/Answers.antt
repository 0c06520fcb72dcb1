-- Each way out is that of one question.
use Rattle.prelude.proofs.{ap, Err}
use Rattle.prelude.proofs.{arith}
use Rattle.file_read.proofs.Decoding.{decoded-refused}
use Rattle.file_read.proofs.Reading.{empty-refused, long-refused, sized}
use Rattle.file_read.proofs.check_lines.Goals as goal

pub returns-then-file-eq0 : goal.returns-then-file-eq0
returns-then-file-eq0 c = rw c.at.ensures (decoded-refused _ _ _ _ (empty-refused _ (omega arith)))

pub returns-then-file-gt-MAX_FILE : goal.returns-then-file-gt-MAX_FILE
returns-then-file-gt-MAX_FILE c =
    rw c.at-then-file-gt-MAX_FILE.ensures (decoded-refused _ _ _ _ (long-refused _ (omega arith)))

pub returns : goal.returns
returns c = rw (sized c.args.file.now (omega arith) (omega arith)) c.decode.ensures
