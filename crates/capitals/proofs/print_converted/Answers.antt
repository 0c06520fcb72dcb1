-- `capitals::print_converted` is safe and ends: the buffer has the bytes that are printed.
use Rattle.prelude.proofs.{◌≤◌, sym, arith, length, replicate, length-take-le}
use Rattle.file_read.specs.{max_file}
use Rattle.file_convert.specs.{length_printed}
use Rattle.file_convert.proofs.Printing.{printed-within}
use Rattle.capitals.proofs.print_converted.Goals as goal

pub slice_bounds-text-end : goal.slice_bounds-text-end
slice_bounds-text-end g c =
    let fits : length_printed c.output-printed.result ≤ length c.output-printed.new.buffer =
    printed-within c.args.file.now (replicate max_file 0) _ c.output-printed.ensures in
    omega (arith, c.length_printed-end.ensures)

pub slice_bounds-write_all-end : goal.slice_bounds-write_all-end
slice_bounds-write_all-end g c =
    let fits : length_printed c.output-printed.result ≤ length c.output-printed.new.buffer =
    printed-within c.args.file.now (replicate max_file 0) _ c.output-printed.ensures in
    sym (length-take-le _ _ (omega (arith, c.length_printed-end.ensures)))
