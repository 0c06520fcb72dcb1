-- What is laid behind the bytes of the text is pushed.
use Rattle.prelude.proofs.{arith, ◌∷◌, w16, to_z-of_z}
use Rattle.text.specs.Text.{space, signed_decimal}
use Rattle.text.proofs.Pushing.{put-pushed}
use Rattle.text.proofs.Text.push_value.Goals as goal

pub returns : goal.returns
returns c =
    let v = c.args.value in
    let e = to_z-of_z w16 v c.ranges.value in
    put-pushed c.args.self.now (space ∷ signed_decimal v) (omega arith) (rw e at c.put_value-self.ensures)
