-- The questions of a graft, in order.
use Rattle.std.specs.Prelude.{ℕ, zero, suc, ◌+◌, ◌-◌, ◌*◌, max, Bool, ◌&&◌, List, leb}
use Rattle.std.proofs.Math.Option.{Option}
use Rattle.gametree.specs.declared.Side.TheVariants.{Max}
use Rattle.gametree.specs.Certificate.{same}
use Rattle.table.specs.declared.Rejection.{Rejection}
use Rattle.table.specs.Frame.{frame_size, max_nodes, max_depth, frames, is_leaf}
use Rattle.table.specs.Position.{depth_of, side_of}
use Rattle.table.specs.Rejection.{ask, ◌and_then◌}
use Rattle.table.specs.Check.{rejection}

-- the number of nodes of the grafted tree: those of both, without the leaf
abbrev pub graft_size : (t u : List ℕ) → ℕ
graft_size t u = frames t + frames u - 1

-- is k a leaf with Max to move?
abbrev pub is_max_leaf : (t : List ℕ) (k : ℕ) → Bool
is_max_leaf t k = is_leaf t k && same (side_of t k) Max

-- the greatest depth of the first n nodes
unfoldable pub deepest : (t : List ℕ) (n : ℕ) → ℕ
deepest t zero = 0
deepest t (suc n) = max (deepest t n) (depth_of t n)

-- 17: is the named node a leaf with Max to move?
abbrev pub check17 : (t : List ℕ) (k : ℕ) → Option Rejection
check17 t k = ask (is_max_leaf t k) 17 k

-- 18: has the result at most 4,096 nodes, and none deeper than 18?
abbrev pub check18 : (t : List ℕ) (k : ℕ) (u : List ℕ) → Option Rejection
check18 t k u = ask (leb (graft_size t u) max_nodes && leb (depth_of t k + deepest u (frames u)) max_depth) 18 0

-- 10: has the lent buffer six bytes for each node of the result?
abbrev pub graft_check10 : (t u : List ℕ) (room : ℕ) → Option Rejection
graft_check10 t u room = ask (leb (frame_size * graft_size t u) room) 10 0

-- the first "no" to 17, 18 and 10, for a buffer of so many bytes
abbrev pub leaf_rejection : (t : List ℕ) (k : ℕ) (u : List ℕ) (room : ℕ) → Option Rejection
leaf_rejection t k u room = check17 t k and_then check18 t k u and_then graft_check10 t u room

-- the first "no" to all questions: 1 to 9 of the first table, 1 to 9 of the second, 17, 18 and 10
abbrev pub graft_rejection : (t : List ℕ) (k : ℕ) (u : List ℕ) (room : ℕ) → Option Rejection
graft_rejection t k u room = rejection t and_then rejection u and_then leaf_rejection t k u room
