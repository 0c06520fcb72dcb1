use Rattle.std.specs.Prelude.{ℕ}

-- the version of the library: 2.0.0
abbrev pub version : ℕ
version = 20000
