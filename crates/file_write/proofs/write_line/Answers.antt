-- Each turn lays the two digits of a byte behind the ones before.
use Rattle.prelude.proofs.{arith}
use Rattle.file_write.proofs.Laying.{laying-next, laying-all, looked-up}
use Rattle.file_write.proofs.write_line.Goals as goal

pub loop-k-preserved : goal.loop-k-preserved
loop-k-preserved c =
    let w = c.wide-pair.ensures in
    let digits = looked-up c.wide-pair.result w.1 _ _ c.requires.pairs_value w.0 in
    laying-next _ c.requires.line_size_in_bounds.1 _ _ _ c.loop-k.invariant _ _ (omega arith) digits.0 digits.1

pub returns : goal.returns
returns c =
    let p = c.requires.line_size_in_bounds in
    laying-all _ p.1 _ _ _ c.loop-k.invariant (omega arith) p.0
