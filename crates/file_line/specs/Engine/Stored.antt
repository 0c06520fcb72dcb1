-- What decoding a line gives.
use Rattle.std.specs.Prelude.{◌≡◌, Bool, cond, List, ℕ}
use Rattle.std.proofs.lemmas.List.Edits.{sets}

-- the answer r to whether a line is right (SPEC 2.2); where it is, its bytes are stored in the table from an index on,
-- and where not, the table is as it was
pub record Stored (is : Bool) (bytes table : List ℕ) (to : ℕ) (after : List ℕ) (r : Bool) : Type 0 where
  pub answered : r ≡ is
  pub stored : after ≡ cond r (sets table to bytes) table
