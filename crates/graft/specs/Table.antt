-- The table of a grafted tree: the frames of its sources, with the first children numbered anew.
use Rattle.std.specs.Prelude.{ℕ, zero, suc, ◌/◌, ◌%◌, List, [], ◌∷◌, ◌++◌, length, get_or}
use Rattle.table.specs.Frame.{byte_of, child_count}
use Rattle.graft_questions.specs.Questions.{graft_size}
use Rattle.graft.specs.Sources.{known_sources}

-- the first child of a node with so many children, which are numbered from `next` on: a leaf's is 0
abbrev pub first_number : (count next : ℕ) → ℕ
first_number zero next = 0
first_number (suc n) next = next

-- node s's frame of the table b, with another first child
abbrev pub renumbered : (b : List ℕ) (s first : ℕ) → List ℕ
renumbered b s first = first / 256 ∷ first % 256 ∷ byte_of b s 2 ∷ byte_of b s 3 ∷ byte_of b s 4 ∷ byte_of b s 5 ∷ []

-- the source of node i
abbrev pub source_at : (t : List ℕ) (k : ℕ) (u : List ℕ) → ℕ → ℕ
source_at t k u i = get_or (known_sources t k u i) i 0

-- its frame: its children are the next to become known
unfoldable pub frame_at : (t : List ℕ) (k : ℕ) (u : List ℕ) → ℕ → List ℕ
frame_at t k u i =
    renumbered (t ++ u) (source_at t k u i)
    (first_number (child_count (t ++ u) (source_at t k u i)) (length (known_sources t k u i)))

-- the frames of the first i nodes
unfoldable pub laid_frames : (t : List ℕ) (k : ℕ) (u : List ℕ) → ℕ → List ℕ
laid_frames t k u zero = []
laid_frames t k u (suc i) = laid_frames t k u i ++ frame_at t k u i

-- the table of the first tree with the second in place of the leaf k
abbrev pub graft_table : (t : List ℕ) (k : ℕ) (u : List ℕ) → List ℕ
graft_table t k u = laid_frames t k u (graft_size t u)
