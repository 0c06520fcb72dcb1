-- Texts as bytes, for small cases.
use Rattle.std.specs.Prelude.{ℕ, List, [], ◌∷◌}
use Prim.Native.Char.{code}
use Prim.Native.String.{String, [] as «end», ◌∷◌ as ◌then◌}

-- the bytes of a text
abbrev pub text : String → List ℕ
text «end» = []
text (c then s) = code c ∷ text s
