-- Small trees (SPEC 12.2) with the leaves that a search evaluates, and what follows from them.
use Rattle.std.specs.Prelude.{ℕ, List, [], ◌∷◌, replicate, ℤ, pos, negsuc}
use Rattle.gametree.specs.Bounds.{low, high}
use Rattle.gametree.specs.Certificate.{flag}
use Rattle.gametree.specs.Move.{bound_move}
use Rattle.table.specs.Frame.{frames}
use Rattle.table.specs.Tree.{tree, valuation}
use Rattle.table.specs.Value.{value_of}
use Rattle.table.specs.Results.Cases.{small, lone, single}
use Rattle.table_positions.specs.Buffer.{written}
use Rattle.certificate_bounds.specs.Marks.{marked}

-- a table, the marks of its nodes, and a buffer for the flags
pub record Case : Type 0 where
  pub table : List ℕ
  pub evaluated : List ℕ
  pub certificate : List ℕ

-- the values of the root's two bounds, the move, and the buffer with the flags
pub record Result : Type 0 where
  pub lowest : ℤ
  pub highest : ℤ
  pub move : ℕ
  pub certificate : List ℕ

abbrev pub result_of : Case → Result
result_of c =
    record {
      lowest = value_of (low (valuation c.table) (marked c.evaluated) (tree c.table));
      highest = value_of (high (valuation c.table) (marked c.evaluated) (tree c.table));
      move = bound_move (valuation c.table) (marked c.evaluated) (tree c.table);
      certificate =
          written (flag (valuation c.table) (marked c.evaluated) (tree c.table)) (frames c.table)
          c.certificate;
    }

abbrev pub cases : List Case
cases =
    -- the first row with the leaves of SSS*; the last entry of the buffer is kept
    record { table = small 1 2 3 4; evaluated = 0 ∷ 0 ∷ 0 ∷ 1 ∷ 0 ∷ 1 ∷ 1 ∷ []; certificate = replicate 8 9 }
    -- equal values with the leaves of alpha-beta: the first child counts
    ∷ record { table = small 7 7 7 7; evaluated = 0 ∷ 0 ∷ 0 ∷ 1 ∷ 1 ∷ 1 ∷ 0 ∷ []; certificate = replicate 7 0 }
    -- a leaf of -5; a root with the single leaf 9
    ∷ record { table = lone; evaluated = 1 ∷ []; certificate = 0 ∷ [] }
    ∷ record { table = single; evaluated = 0 ∷ 1 ∷ []; certificate = 0 ∷ 0 ∷ [] }
    ∷ []

abbrev pub results : List Result
results =
    record { lowest = pos 3; highest = pos 3; move = 2; certificate = 3 ∷ 1 ∷ 3 ∷ 1 ∷ 0 ∷ 3 ∷ 2 ∷ 9 ∷ [] }
    ∷ record { lowest = pos 7; highest = pos 7; move = 1; certificate = 3 ∷ 3 ∷ 1 ∷ 3 ∷ 2 ∷ 1 ∷ 0 ∷ [] }
    ∷ record { lowest = negsuc 4; highest = negsuc 4; move = 0; certificate = 3 ∷ [] }
    ∷ record { lowest = pos 9; highest = pos 9; move = 1; certificate = 3 ∷ 3 ∷ [] }
    ∷ []
