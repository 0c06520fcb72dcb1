-- What is laid behind the bytes of the text is pushed.
use Rattle.prelude.proofs.{arith}
use Rattle.text.proofs.Pushing.{put-pushed}
use Rattle.text.proofs.Text.push_bytes.Goals as goal

pub returns : goal.returns
returns c = put-pushed c.args.self.now c.args.word.now (omega arith) c.put_bytes-self.ensures
