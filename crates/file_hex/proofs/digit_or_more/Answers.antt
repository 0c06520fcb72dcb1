-- The number of a digit, or from 16 on: the 256 bytes are tried by `digit-right`.
use Rattle.std.proofs.Common.{arith}
use Rattle.file_hex.proofs.DigitArithmetic.{digit-right}
use Rattle.file_hex.proofs.digit_or_more.Goals as goal

pub returns : goal.returns
returns c =
    let d = digit-right c.args.byte c.one_within-figure.result c.one_within-letter.result (omega arith)
    c.one_within-figure.ensures c.one_within-letter.ensures in
    (d.number, omega arith)
