-- What an answer leaves in the certificate's buffer.
use Rattle.std.specs.Prelude.{ℕ, List}
use Rattle.gametree.specs.Certificate.{flag}
use Rattle.table.specs.Frame.{frames}
use Rattle.table.specs.Tree.{tree, valuation}
use Rattle.table_positions.specs.Buffer.{written}
use Rattle.certificate_bounds.specs.Marks.{marked}
use Rattle.methods.specs.declared.Answer.{Answer}
use Rattle.methods.specs.declared.Answer.TheVariants.{Found, Spent, Rejected}

-- the flags c afterwards: with a value those read off the bounds of the leaves that b marks, else as they were
abbrev pub certified_flags : Answer → (t b c : List ℕ) → List ℕ
certified_flags (Found f) t b c = written (flag (valuation t) (marked b) (tree t)) (frames t) c
certified_flags (Spent s) t b c = c
certified_flags (Rejected r) t b c = c
