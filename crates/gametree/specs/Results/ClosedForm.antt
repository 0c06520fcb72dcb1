-- The leaves that SSS* and MTD evaluate, in closed form: from minimax values alone, with no run.
-- It is Baudet's condition with one more demand.
use Rattle.std.specs.Prelude.{ℕ, min, max, cond, ◌&&◌, List, [], ◌∷◌, ◌++◌, leb, ltb}
use Rattle.gametree.specs.Trees.{Side, Max, Min, Tree, leaf, inner, Children, last, ◌then◌, minimax}
use Rattle.gametree.specs.Trees.{minimax_children}
use Rattle.gametree.specs.AlphaBeta.{raise, lower}

-- the most that a rival reaches. A rival of a leaf is a younger sibling, under a Max parent, of a node on the leaf's
-- path; it reaches the lesser of its value and the parent's beta. Here δ is what the rivals further up reach, and y the
-- best value of the younger siblings.
abbrev pub rival : Side → ℕ → ℕ → ℕ → ℕ
rival Max δ β y = max δ (min β y)
rival Min δ β y = δ

-- the leaves whose alpha is less than their beta, and whose beta no rival exceeds
abbrev mutual
  pub unrivalled : (ℕ → ℕ) → ℕ → ℕ → ℕ → Tree → List ℕ
  unrivalled ν α β δ (leaf n) = cond (ltb α β && leb δ β) (n ∷ []) []
  unrivalled ν α β δ (inner n s ks) = unrivalled_children ν s α β δ ks

  pub unrivalled_children : (ℕ → ℕ) → Side → ℕ → ℕ → ℕ → Children → List ℕ
  unrivalled_children ν s α β δ (last t) = unrivalled ν α β δ t
  unrivalled_children ν s α β δ (t then ts) =
      unrivalled ν α β (rival s δ β (minimax_children ν s ts)) t
      ++ unrivalled_children ν s (raise s α (minimax ν t)) (lower s β (minimax ν t)) δ ts
