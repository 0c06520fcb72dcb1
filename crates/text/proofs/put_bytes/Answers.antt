-- Before byte i, the first i bytes of the word are laid.
use Rattle.prelude.proofs.{◌+◌, arith, refl, sym, ap, ◌∙◌, get_or, set}
use Rattle.text.specs.{laid}
use Rattle.text.proofs.Laying.{laid_none, laid_next, take_whole}
use Rattle.text.proofs.put_bytes.Goals as goal

pub loop-i-init : goal.loop-i-init
loop-i-init c = sym (laid_none c.args.at c.args.text.now)

pub loop-i-preserved : goal.loop-i-preserved
loop-i-preserved c =
    let at = c.args.at in
    let word = c.args.word.now in
    let i = c.loop-i.i in
    ap (λ b. set b (at + i) (get_or word i 0)) c.loop-i.invariant
    ∙ laid_next at i word c.args.text.now (omega arith) (omega arith)

pub returns : goal.returns
returns c =
    record {
      behind = refl;
      text = c.loop-i.invariant
          ∙ ap (λ w. laid c.args.at w c.args.text.now) (take_whole c.args.word.now c.loop-i.i (omega arith));
    }
