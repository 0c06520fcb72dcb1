-- The worst-case filling of a table (02: N11, the dearest filling): the ranks 0, 1, 2 and so on at its leaves, in
-- blocks.
use Rattle.std.specs.Prelude.{ℕ, ◌+◌, ◌*◌, ◌/◌, ◌%◌, List, length, set}
use Rattle.gametree.specs.declared.Side.{Side}
use Rattle.gametree.specs.declared.Side.TheVariants.{Max, Min}
use Rattle.gametree.specs.Trees.{Tree, leaf, inner, Children, last, ◌then◌, leaves, leaves_children}
use Rattle.table.specs.Frame.{frame_size}
use Rattle.table.specs.Tree.{tree}

-- the table with the rank r at leaf i: in its bytes 4 and 5, high byte first
unfoldable pub with_rank : (i r : ℕ) → List ℕ → List ℕ
with_rank i r t = set (set t (frame_size * i + 4) (r / 256)) (frame_size * i + 5) (r % 256)

-- the table with the ranks from r on at the leaves of a tree, a child's ranks being a block: at Max the first child's
-- block comes before those of its younger siblings, so that they rise from left to right, at Min after them
abbrev mutual
  pub ranked : (r : ℕ) → Tree → List ℕ → List ℕ
  ranked r (leaf i) t = with_rank i r t
  ranked r (inner i s ks) t = ranked_children r s ks t

  pub ranked_children : (r : ℕ) → Side → Children → List ℕ → List ℕ
  ranked_children r s (last v) t = ranked r v t
  ranked_children r Max (v then vs) t = ranked_children (r + length (leaves v)) Max vs (ranked r v t)
  ranked_children r Min (v then vs) t = ranked (r + length (leaves_children vs)) v (ranked_children r Min vs t)

-- the worst-case filling of the table's shape
unfoldable pub worst_fill : List ℕ → List ℕ
worst_fill t = ranked 0 (tree t) t
