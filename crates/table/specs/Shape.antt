-- Two tables of one shape, and tables that agree on a leaf (SPEC 3.8).
use Rattle.std.specs.Prelude.{ℕ, ◌<◌, ◌≡◌, List}
use Rattle.table.specs.Frame.{frames, byte_of}

-- equally many frames, alike in bytes 0 to 3
pub record SameShape (t u : List ℕ) : Type 0 where
  pub same_frames : frames t ≡ frames u
  pub same_bytes : (i k : ℕ) → i < frames t → k < 4 → byte_of t i k ≡ byte_of u i k

-- leaf i has the same bytes 4 and 5 in both
pub record AgreeOn (t u : List ℕ) (i : ℕ) : Type 0 where
  pub same_high : byte_of t i 4 ≡ byte_of u i 4
  pub same_low : byte_of t i 5 ≡ byte_of u i 5
