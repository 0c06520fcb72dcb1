-- Each turn looks at the line that stands at the next position, where the line's twelve bytes are.
use Rattle.prelude.proofs.{ap, Err}
use Rattle.prelude.proofs.{◌*◌, sym, ◌∙◌, arith}
use Rattle.file_line.specs.{line_size}
use Rattle.file_line.proofs.Positions.{line-part}
use Rattle.file_read.proofs.Letters.{lettering-all, lettering-stop, lettering-next, line-room}
use Rattle.file_read.proofs.find_lowercase.Goals as goal

pub overflow_mul-at : goal.overflow_mul-at
overflow_mul-at c = omega (arith, line-room _ _ c.loop-line.invariant (omega (arith, c.requires.1)))

pub overflow_add-end : goal.overflow_add-end
overflow_add-end c = omega (arith, line-room _ _ c.loop-line.invariant (omega (arith, c.requires.1)))

pub slice_bounds-has_lowercase-end : goal.slice_bounds-has_lowercase-end
slice_bounds-has_lowercase-end c = omega (arith, line-room _ _ c.loop-line.invariant (omega (arith, c.requires.1)))

pub returns-then-has_lowercase : goal.returns-then-has_lowercase
returns-then-has_lowercase c =
    let f = c.args.file.now in
    let stop = lettering-stop f _ c.loop-line.invariant (omega (arith, c.requires.1))
    (rw (← line-part f (line_size * c.loop-line.line)) (sym c.has_lowercase.ensures ∙ c.if-has_lowercase.true)) in
    ap Err c.at.ensures ∙ rw stop

pub loop-line-preserved : goal.loop-line-preserved
loop-line-preserved c =
    let f = c.args.file.now in
    lettering-next f _ c.loop-line.invariant (omega (arith, c.requires.1))
    (rw (← line-part f (line_size * c.loop-line.line)) (sym c.has_lowercase.ensures ∙ c.if-has_lowercase.false))

pub returns : goal.returns
returns c =
    let many = c.requires.1 in rw many (lettering-all _ _ c.loop-line.invariant (omega (arith, many)))
