-- Behind the blank stand the minus sign of a negative value, and its magnitude.
use Rattle.prelude.proofs.{arith, sym, ap, ◌∙◌, ◌∷◌, length, nat_abs, w16, to_z-of_z}
use Rattle.text.specs.{decimal}
use Rattle.text.proofs.Laying.{room-rest, put_then}
use Rattle.text.proofs.Signs.{negative-text, positive-text}
use Rattle.text.proofs.put_value.Goals as goal

pub returns-then-value-lt0 : goal.returns-then-value-lt0
returns-then-value-lt0 c =
    let v = c.args.value in
    let e = to_z-of_z w16 v c.ranges.value in
    let below = negative-text v (rw e at c.if-value-lt0.true)
    ∙ ap (λ n. 45 ∷ decimal n) (sym (c.unsigned_abs-magnitude.ensures.value ∙ ap nat_abs e)) in
    let l = ap length below in
    let r = room-rest (45 ∷ decimal c.unsigned_abs-magnitude.result) c.put_byte-next.ensures
    (record { enough = omega (arith, c.requires.enough) }) in
    rw below
    (put_then c.put_byte-next.ensures (record { enough = omega (arith, c.requires.enough) })
    (put_then c.put_byte-signed.ensures r c.put_number.ensures))

pub returns : goal.returns
returns c =
    let v = c.args.value in
    let e = to_z-of_z w16 v c.ranges.value in
    let above = positive-text v (rw e at c.if-value-lt0.false)
    ∙ ap decimal (sym (c.unsigned_abs-magnitude.ensures.value ∙ ap nat_abs e)) in
    let l = ap length above in
    rw above
    (put_then c.put_byte-next.ensures (record { enough = omega (arith, c.requires.enough) }) c.put_number-2.ensures)
