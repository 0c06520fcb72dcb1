-- What every search has in common: its questions, and what it leaves in its buffers.
use Rattle.std.specs.Prelude.{ℕ, List, ◌++◌, length, drop}
use Rattle.std.proofs.Math.Option.{Option}
use Rattle.lists.specs.Lists.{among}
use Rattle.gametree.specs.Certificate.{flag}
use Rattle.table.specs.declared.Rejection.{Rejection}
use Rattle.table.specs.Frame.{frames}
use Rattle.table.specs.Tree.{tree, valuation}
use Rattle.table.specs.Rejection.{◌and_then◌}
use Rattle.table.specs.Check.{rejection, check10}
use Rattle.table_positions.specs.Buffer.{written}
use Rattle.certificate_bounds.specs.Marks.{mark}

-- the first "no" to questions 1 to 10, for buffers of these lengths
abbrev pub search_rejection : List ℕ → List ℕ → Option Rejection
search_rejection t lengths = rejection t and_then check10 (frames t) lengths

-- the marks and the flags that a search of the table t writes over its two buffers if it evaluates these leaves
abbrev pub marks_of : (leaves t marks : List ℕ) → List ℕ
marks_of leaves t marks = written (mark (among leaves)) (frames t) marks

abbrev pub flags_of : (leaves t flags : List ℕ) → List ℕ
flags_of leaves t flags = written (flag (valuation t) (among leaves) (tree t)) (frames t) flags

-- a lent list after it: the numbers of these leaves in the order of their evaluation, then what it held past them
abbrev pub listed : (leaves order : List ℕ) → List ℕ
listed leaves order = leaves ++ drop (length leaves) order
