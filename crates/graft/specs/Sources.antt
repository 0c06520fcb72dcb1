-- The nodes of a grafted tree, by where they come from: a source is the number of a node in the first table followed by
-- the second, so the second's numbers begin at the number of the first's frames.
use Rattle.std.specs.Prelude.{ℕ, zero, suc, ◌+◌, cond, List, [], ◌∷◌, ◌++◌, map, ltb, eqb, get_or}
use Rattle.table.specs.Frame.{frames, first_child, child_count}
use Rattle.table.specs.Tree.{up_from}
use Rattle.graft_questions.specs.Questions.{graft_size}

-- the source s, with the second table's root in place of the leaf k of the first
unfoldable pub root_for : (t : List ℕ) (k : ℕ) → ℕ → ℕ
root_for t k s = cond (eqb s k) (frames t) s

-- the offset of the table that source s comes from
unfoldable pub base : List ℕ → ℕ → ℕ
base t s = cond (ltb s (frames t)) 0 (frames t)

-- the children of a source, from left to right
unfoldable pub child_sources : (t : List ℕ) (k : ℕ) (u : List ℕ) → ℕ → List ℕ
child_sources t k u s = map (root_for t k) (up_from (base t s + first_child (t ++ u) s) (child_count (t ++ u) s))

-- the nodes known in breadth-first order after i nodes of a tree have been visited: the root, and the children of each
-- of these nodes in turn
unfoldable pub breadth_first : (children : ℕ → List ℕ) (root : ℕ) → ℕ → List ℕ
breadth_first children root zero = root ∷ []
breadth_first children root (suc i) =
    breadth_first children root i ++ children (get_or (breadth_first children root i) i 0)

-- the sources that are known after i nodes of the grafted tree
abbrev pub known_sources : (t : List ℕ) (k : ℕ) (u : List ℕ) → ℕ → List ℕ
known_sources t k u i = breadth_first (child_sources t k u) (root_for t k 0) i

-- the sources of the grafted tree's nodes, in breadth-first order
abbrev pub sources : (t : List ℕ) (k : ℕ) (u : List ℕ) → List ℕ
sources t k u = known_sources t k u (graft_size t u)
