-- The marks that a search leaves in a lent buffer: one a node, 1 for a leaf that was evaluated.
use Rattle.std.specs.Prelude.{ℕ, Bool, cond, List, [], ◌∷◌, eqb, get_or, set}
use Rattle.lists.specs.Lists.{count_from}

-- a mark: 1 for a node of the set (01: valued), 0 for another
abbrev pub mark : (ℕ → Bool) → ℕ → ℕ
mark E k = cond (E k) 1 0

-- the set of the nodes that are marked 1
abbrev pub marked : List ℕ → ℕ → Bool
marked b k = eqb (get_or b k 0) 1

-- how many of the first n entries are 1
abbrev pub ones : List ℕ → ℕ → ℕ
ones b n = count_from (marked b) 0 n

-- the marks b after these leaves have been evaluated, one after the other
unfoldable pub mark_all : List ℕ → List ℕ → List ℕ
mark_all b [] = b
mark_all b (k ∷ ks) = mark_all (set b k 1) ks
