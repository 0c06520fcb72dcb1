-- What is laid behind the bytes of the text is pushed.
use Rattle.prelude.proofs.{arith, ◌∷◌}
use Rattle.text.specs.Text.{space, decimal}
use Rattle.text.proofs.Pushing.{put-pushed}
use Rattle.text.proofs.Text.push_count.Goals as goal

pub returns : goal.returns
returns c = put-pushed c.args.self.now (space ∷ decimal c.args.n) (omega arith) c.put_count-self.ensures
