-- The digits of all bytes, which the writer looks up.
use Rattle.std.specs.Prelude.{ℕ, List}
use Rattle.table.specs.Tree.{up_from}
use Rattle.file_write.specs.Encoded.{digits_of}

-- how many bytes there are
abbrev pub byte_values : ℕ
byte_values = 256

-- the two digits of each byte, in order
unfoldable pub digit_pairs : List ℕ
digit_pairs = digits_of (up_from 0 byte_values)
