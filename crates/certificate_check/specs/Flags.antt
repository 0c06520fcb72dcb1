-- A lent certificate (01: the proof): one flag a node, and the rule that each node of the table sets for a side's tree.
use Rattle.std.specs.Prelude.{ℕ, zero, suc, Bool, true, false, cond, ◌&&◌, List, eqb, get_or}
use Rattle.lists.specs.Lists.{count_from}
use Rattle.gametree.specs.declared.Side.{Side}
use Rattle.gametree.specs.Certificate.{inside, same}
use Rattle.table.specs.Frame.{first_child, child_count}
use Rattle.table.specs.Position.{side_of}

-- the set of the nodes that the flags put into side p's tree: flagged 1 or 3 for Max, 2 or 3 for Min
abbrev pub member : Side → List ℕ → ℕ → Bool
member p flags k = inside p (get_or flags k 0)

-- how many of its n children a node of side q must have in side p's tree, where b says whether it is in that tree
-- itself: a node outside none, a node in it all of them where p moves, and exactly one where the other side moves
abbrev pub required_of : (p q : Side) → Bool → ℕ → ℕ
required_of p q b zero = 0
required_of p q false (suc n) = 0
required_of p q true (suc n) = cond (same p q) (suc n) 1

-- the root is in side p's tree; of another node nothing is asked here
abbrev pub root_member : Side → List ℕ → ℕ → Bool
root_member p flags zero = member p flags 0
root_member p flags (suc i) = true

-- the rule of node i for side p's tree
unfoldable pub rule_holds : Side → List ℕ → List ℕ → ℕ → Bool
rule_holds p t flags i =
    root_member p flags i
    && eqb (count_from (member p flags) (first_child t i) (child_count t i))
    (required_of p (side_of t i) (member p flags i) (child_count t i))
