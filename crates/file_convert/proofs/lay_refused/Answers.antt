-- The bytes of the line are copied where they have room.
use Rattle.prelude.proofs.{arith, ap, ◌∙◌, length}
use Rattle.text.proofs.Sizes.{text-bytes, length-within}
use Rattle.file_convert.proofs.Printing.{text-short, text-laid}
use Rattle.file_convert.proofs.lay_refused.Goals as goal

pub as_bytes-line-requires : goal.as_bytes-line-requires
as_bytes-line-requires c = length-within _ c.refused-text.ensures

pub returns-then-buffer-length : goal.returns-then-buffer-length
returns-then-buffer-length c =
    let line = c.as_bytes-line.ensures ∙ (text-bytes _ c.refused-text.ensures).1 in
    text-short _ _ _ (omega (arith, ap length line))

pub returns : goal.returns
returns c =
    let line = c.as_bytes-line.ensures ∙ (text-bytes _ c.refused-text.ensures).1 in
    rw (c.copy_from_slice.ensures.after, line) (text-laid _ _ _ (omega (arith, ap length line)))
