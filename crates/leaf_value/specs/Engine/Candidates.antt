-- Four scores, tried in this order: the first that reaches the wanted one is the smallest that does. They are that of
-- -32,000 and those of the values that are worth the wanted one as a loss, as they are, and as a win.
use Rattle.std.specs.Prelude.{ℕ, ◌+◌, ◌-◌, Bool, ◌&&◌, Option, Some, None, [], ◌∷◌, leb, ltb, eqb}
use Rattle.std.specs.List.{find}
use Rattle.std.proofs.Math.Option as M
use Rattle.gametree.specs.Trees.{greatest}
use Rattle.gametree.specs.AlphaBeta.{clamp}
use Rattle.table.specs.Tree.{leaf_score}

-- the scores of the values from -32,000 to 32,000: the first, and how many there are
abbrev pub first_score : ℕ
first_score = 1

abbrev pub score_count : ℕ
score_count = 64001

-- does the root get the score w from the score s at a leaf at depth d, where l is its score for the least and u for the
-- greatest score of that leaf?
abbrev pub reaches : (l u d w s : ℕ) → Bool
reaches l u d w s = eqb (clamp l u (leaf_score d s)) w

-- the same, where a leaf can hold s
abbrev pub held_reaches : (l u d w s : ℕ) → Bool
held_reaches l u d w s = (leb first_score s && ltb s greatest) && reaches l u d w s

-- the first candidate that a leaf can hold and that reaches w
abbrev pub candidate : (l u d w : ℕ) → Option ℕ
candidate l u d w = find (held_reaches l u d w) (first_score ∷ (w - d) ∷ w ∷ (w + d) ∷ [])

-- what is found, in the words of `smallest`
abbrev pub as_option : Option ℕ → M.Option ℕ
as_option None = M.none
as_option (Some s) = M.some s
