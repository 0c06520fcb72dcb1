-- The five rules (SPEC 10.3) over a table: what replaces the state that is taken.
use Rattle.std.specs.Prelude.{ℕ, zero, suc, ◌+◌, min, cond, List, ltb}
use Rattle.gametree.specs.declared.Side.{Side}
use Rattle.gametree.specs.declared.Side.TheVariants.{Max, Min}
use Rattle.table.specs.Frame.{first_child, child_count}
use Rattle.table.specs.Position.{parent_of, side_of}
use Rattle.table.specs.Tree.{valuation}
use Rattle.sss_states.specs.declared.Status.{Status}
use Rattle.sss_states.specs.declared.Status.TheVariants.{Live, Solved}
use Rattle.sss_states.specs.declared.Change.{Change}

-- one new state, for node i, at or below p
abbrev pub one : ℕ → ℕ → Status → ℕ → Change
one p i s m = record { node = p; first = i; count = 1; status = s; score = m }

-- a LIVE inner node with n children: of a Max node all children are LIVE, of a Min node the first
abbrev pub of_inner : List ℕ → ℕ → ℕ → Side → ℕ → Change
of_inner t i γ Max n = record { node = i; first = first_child t i; count = n; status = Live; score = γ }
of_inner t i γ Min n = one i (first_child t i) Live γ

-- a LIVE state: a leaf is evaluated, and SOLVED
abbrev pub of_live : List ℕ → ℕ → ℕ → Side → ℕ → Change
of_live t i γ s zero = one i i Solved (min γ (valuation t i))
of_live t i γ s (suc n) = of_inner t i γ s (suc n)

-- a SOLVED child i of p: under Max p is SOLVED; under Min the next sibling is LIVE, after the last p is SOLVED
abbrev pub of_child : List ℕ → ℕ → ℕ → ℕ → Side → Change
of_child t i γ p Max = one p p Solved γ
of_child t i γ p Min = cond (ltb (i + 1) (first_child t p + child_count t p)) (one p (i + 1) Live γ) (one p p Solved γ)

abbrev pub of_state : List ℕ → ℕ → ℕ → Status → Change
of_state t i γ Live = of_live t i γ (side_of t i) (child_count t i)
of_state t i γ Solved = of_child t i γ (parent_of t i) (side_of t (parent_of t i))
