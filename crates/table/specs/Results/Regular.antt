-- Tables of regular trees (SPEC 18.1; 02: N12): every inner node has the same width, all leaves lie at one depth, and
-- the sides alternate.
use Rattle.std.specs.Prelude.{ℕ, ◌<◌, ◌≡◌, List}
use Rattle.table.specs.Frame.{frames, child_count}
use Rattle.table.specs.Position.{depth_of}
use Rattle.table.specs.Results.Alternating.{Alternating}

-- a tree that is one leaf is regular of depth 0, whatever the width
pub record RegularTable (width depth : ℕ) (t : List ℕ) : Type 0 where
  pub inner_width : (i : ℕ) → i < frames t → 0 < child_count t i → child_count t i ≡ width
  pub leaf_depth : (i : ℕ) → i < frames t → child_count t i ≡ 0 → depth_of t i ≡ depth
  pub alternating : Alternating t
