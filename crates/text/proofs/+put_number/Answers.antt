-- The last digit is laid behind the others.
use Rattle.prelude.proofs.{◌+◌, ◌/◌, ◌%◌, sym, ap, ◌∙◌, [], ◌∷◌, length, length-append, arith}
use Rattle.text.specs.{decimal, laid}
use Rattle.text.proofs.Digits.{decimal-one, decimal-more}
use Rattle.text.proofs.Laying.{room-rest, put_then}
use Rattle.text.proofs.+put_number.Goals as goal

pub put_byte-requires : goal.put_byte-requires
put_byte-requires t c =
    record { enough = omega (arith, c.requires.enough, ap length (decimal-one c.args.n (omega arith))) }

pub returns-then-n-lt-TEN : goal.returns-then-n-lt-TEN
returns-then-n-lt-TEN t c =
    let p = c.put_byte.ensures in
    let d = decimal-one c.args.n (omega arith) in
    record {
      behind = p.behind ∙ ap (λ w. c.args.at + length w) (sym d);
      text = p.text ∙ ap (λ w. laid c.args.at w c.args.text.now) (sym d);
    }

pub put_number-next-requires : goal.put_number-next-requires
put_number-next-requires t c =
    let d = ap length (decimal-more c.args.n (omega arith) (omega arith)) in
    let l = length-append (decimal (c.args.n / 10)) ((48 + c.args.n % 10) ∷ []) in
    (omega arith, record { enough = omega (arith, c.requires.enough) })

pub put_byte-requires-2 : goal.put_byte-requires-2
put_byte-requires-2 t c =
    let d = ap length (decimal-more c.args.n (omega arith) (omega arith)) in
    let l = length-append (decimal (c.args.n / 10)) ((48 + c.args.n % 10) ∷ []) in
    room-rest ((48 + c.args.n % 10) ∷ []) c.put_number-next.ensures
    (record { enough = omega (arith, c.requires.enough, d, l) })

pub returns : goal.returns
returns t c =
    let e = decimal-more c.args.n (omega arith) (omega arith) in
    let l = length-append (decimal (c.args.n / 10)) ((48 + c.args.n % 10) ∷ []) in
    let n = ap length e in
    rw e (put_then c.put_number-next.ensures (record { enough = omega (arith, c.requires.enough, n, l) })
    c.put_byte-2.ensures)
