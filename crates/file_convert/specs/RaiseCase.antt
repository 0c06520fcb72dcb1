-- Small letters lifted to capitals.
use Rattle.std.specs.Prelude.{ℕ, ◌-◌, cond, List, map}
use Rattle.file_hex.specs.Digit.{is_lowercase}

-- the capital of a letter a to f, the bytes 97 to 102; any other byte as it is
unfoldable pub raise_case : ℕ → ℕ
raise_case b = cond (is_lowercase b) (b - 32) b

-- the bytes of a file so lifted
abbrev pub raised : List ℕ → List ℕ
raised f = map raise_case f
