-- What reading the whole input promises.
use Rattle.std.specs.Prelude.{ℕ, ◌≤◌, List, length, Result, IfOk}

-- no more bytes are reported than the buffer has
abbrev pub InputFits : {E : Type 0} → List ℕ → Result ℕ E → Type 0
InputFits file r = IfOk r (λ size. size ≤ length file)
