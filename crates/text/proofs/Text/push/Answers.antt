-- What is laid behind the bytes of the text is pushed.
use Rattle.prelude.proofs.{arith, [], ◌∷◌}
use Rattle.text.proofs.Pushing.{put-pushed}
use Rattle.text.proofs.Text.push.Goals as goal

pub returns : goal.returns
returns c = put-pushed c.args.self.now (c.args.byte ∷ []) (omega arith) c.put_byte-self.ensures
