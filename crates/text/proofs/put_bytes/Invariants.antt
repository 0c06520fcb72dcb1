-- Before byte i, the first i bytes of the word are laid.
use Rattle.prelude.proofs.{◌≡◌, take}
use Rattle.text.specs.{laid}
use Rattle.text.proofs.put_bytes.Given as goal

abbrev pub invariant-loop-i : goal.invariant-loop-i
invariant-loop-i l = l.text ≡ laid l.at (take l.i l.word) l.fn.text
