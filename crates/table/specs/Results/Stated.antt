-- What SPEC 3 says of a table, clause by clause. Acceptance.antt shows that the questions ask exactly this.
use Rattle.std.specs.Prelude.{ℕ, ◌*◌, ◌≤◌, ◌<◌, ◌≡◌, ◌⊎◌, List, length}
use Rattle.gametree.specs.Trees.{Score}
use Rattle.table.specs.Frame.{frame_size, max_nodes, max_children, max_depth, frames, first_child, child_count, byte3}
use Rattle.table.specs.Frame.{same_mover, value_bytes, stored_score, next}
use Rattle.table.specs.Position.{depth_of}

-- node i's frame is as stated
pub record FrameAsStated (t : List ℕ) (i : ℕ) : Type 0 where
  pub mover : (byte3 t i ≡ 0) ⊎ ((byte3 t i ≡ same_mover) × (0 < i) × (0 < child_count t i))
  pub few_children : child_count t i ≤ max_children
  pub leaf_first : child_count t i ≡ 0 → first_child t i ≡ 0
  pub leaf_value : child_count t i ≡ 0 → Score (stored_score t i)
  pub inner_first : 0 < child_count t i → first_child t i ≡ next t i
  pub inner_later : 0 < child_count t i → i < first_child t i
  pub inner_value : 0 < child_count t i → value_bytes t i ≡ 0

-- the table is as stated: whole frames, 1 to 4,096 of them, each as stated, each but the root's a child, none too deep
pub record TableAsStated (t : List ℕ) : Type 0 where
  pub whole : length t ≡ frame_size * frames t
  pub non_empty : 1 ≤ frames t
  pub most : frames t ≤ max_nodes
  pub frame : (i : ℕ) → i < frames t → FrameAsStated t i
  pub total : next t (frames t) ≡ frames t
  pub shallow : (i : ℕ) → i < frames t → depth_of t i ≤ max_depth
