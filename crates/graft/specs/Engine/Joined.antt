-- Two tables, one after the other.
use Rattle.std.specs.Prelude.{ℕ, ◌+◌, ◌*◌, ◌<◌, ◌≡◌, List, ◌++◌, length}
use Rattle.table.specs.Frame.{frame_size, frames, byte_of}
use Rattle.graft.specs.Sources.{base}

-- all frames of the first are whole, and source s has a frame in the two
pub record Joined (t u : List ℕ) (s : ℕ) : Type 0 where
  pub whole : length t ≡ frame_size * frames t
  pub inside : s < frames t + frames u

-- source s is node v of the table b, whose root is source r
pub record SourceIn (t u : List ℕ) (s : ℕ) (b : List ℕ) (v r : ℕ) : Type 0 where
  pub within : v < frames b
  pub bytes : (k : ℕ) → k < frame_size → byte_of b v k ≡ byte_of (t ++ u) s k
  pub root : r ≡ base t s
