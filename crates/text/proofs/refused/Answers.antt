-- What is laid into zeros is the text of the line.
use Rattle.prelude.proofs.{ℕ, length-replicate, arith}
use Rattle.text.specs.{text_size}
use Rattle.text.proofs.Sizes.{refused-few, text-room, text-laid}
use Rattle.text.proofs.refused.Goals as goal

pub put_refused-length-requires : goal.put_refused-length-requires
put_refused-length-requires c =
    text-room _ (refused-few _) (omega (arith, length-replicate {A = ℕ} text_size 0))

pub returns : goal.returns
returns c = text-laid _ c.put_refused-length.ensures
