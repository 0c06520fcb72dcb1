-- Certificates (SPEC 5.4; 01: the proof): a max and a min solution tree of equal value, as sets of
-- nodes and as flags, and the one read off the bounds.
use Rattle.std.specs.Prelude.{ℕ, suc, ◌+◌, ◌≤◌, ◌≡◌, ◌⊎◌, Bool, true, false, cond, ◌||◌, eqb}
use mathlib.Core.List.{List, [], ◌∷◌, ◌++◌, foldr, map}
use Rattle.lists.specs.Lists.{among}
use Rattle.gametree.specs.Trees.{Side, Max, Min, Tree, leaf, inner, Children, last, ◌then◌, least, greatest}
use Rattle.gametree.specs.Trees.{other, better}
use Rattle.gametree.specs.Trees.{minimax, minimax_children, number, leaves, EveryLeaf}
use Rattle.gametree.specs.Bounds.{known}

-- are two sides the same
abbrev pub same : Side → Side → Bool
same Max Max = true
same Max Min = false
same Min Max = false
same Min Min = true

-- each child, no child, exactly one child is in the set g
abbrev pub Each : (ℕ → Bool) → Children → Type 0
Each g (last t) = g (number t) ≡ true
Each g (t then ts) = (g (number t) ≡ true) × Each g ts

abbrev pub NoneOf : (ℕ → Bool) → Children → Type 0
NoneOf g (last t) = g (number t) ≡ false
NoneOf g (t then ts) = (g (number t) ≡ false) × NoneOf g ts

abbrev pub OneOf : (ℕ → Bool) → Children → Type 0
OneOf g (last t) = g (number t) ≡ true
OneOf g (t then ts) = ((g (number t) ≡ true) × NoneOf g ts) ⊎ ((g (number t) ≡ false) × OneOf g ts)

-- the rule for the children of a node of side q in a solution tree of side p; the Bool says whether the node is in it.
-- If the node is in it, all its children are if p moves at the node, and exactly one if the other side does; if it is
-- outside, no child is.
abbrev pub Rule : (p q : Side) → Bool → (ℕ → Bool) → Children → Type 0
Rule p q true g ks = cond (same p q) (Each g ks) (OneOf g ks)
Rule p q false g ks = NoneOf g ks

-- the rule holds at each inner node
abbrev mutual
  pub Rules : Side → (ℕ → Bool) → Tree → Type 0
  Rules p g (leaf n) = Unit
  Rules p g (inner n q ks) = Rule p q (g n) g ks × RulesChildren p g ks

  pub RulesChildren : Side → (ℕ → Bool) → Children → Type 0
  RulesChildren p g (last t) = Rules p g t
  RulesChildren p g (t then ts) = Rules p g t × RulesChildren p g ts

-- the set g is a solution tree of side p (01: a max tree for Max, a min tree for Min; definition 2.1 of source 000):
-- the root is in it, and the rule holds at each inner node
abbrev pub SolutionTree : Side → (ℕ → Bool) → Tree → Type 0
SolutionTree p g t = (g (number t) ≡ true) × Rules p g t

-- the worst score for a side: every other is better
abbrev pub worst : Side → ℕ
worst Max = least
worst Min = greatest

-- the value of side p's solution tree g: the greatest score of its leaves for Max, the least for Min (definition 2.2 of
-- source 000), a leaf outside it counting as the worst
abbrev pub solution_value : Side → (ℕ → ℕ) → (ℕ → Bool) → Tree → ℕ
solution_value p ν g t = foldr (better p) (worst p) (map (known ν g (worst p)) (leaves t))

-- the sets g and h certify the value v
pub record Certifies (ν : ℕ → ℕ) (t : Tree) (g h : ℕ → Bool) (v : ℕ) : Type 0 where
  pub max_tree : SolutionTree Max g t
  pub min_tree : SolutionTree Min h t
  pub max_value : solution_value Max ν g t ≡ v
  pub min_value : solution_value Min ν h t ≡ v

-- how many leaves are in one of two sets, a shared one counted once
abbrev pub pair_leaves : (ℕ → Bool) → (ℕ → Bool) → Tree → ℕ
pair_leaves g h t = foldr (λ n k. cond (g n || h n) (suc k) k) 0 (leaves t)

-- the flags (01: flag) of a node in the max tree only, in the min tree only, and in both, the greatest; 0 is in neither
abbrev pub in_max : ℕ
in_max = 1

abbrev pub in_min : ℕ
in_min = 2

abbrev pub in_both : ℕ
in_both = 3

-- a flag as the membership in a side's tree
abbrev pub inside : Side → ℕ → Bool
inside Max f = eqb f in_max || eqb f in_both
inside Min f = eqb f in_min || eqb f in_both

-- the nodes of side p's tree read off the valuation μ: the root, and of each node in it all children if p moves there,
-- else the first child with the node's value
abbrev mutual
  pub chosen : Side → (ℕ → ℕ) → Tree → List ℕ
  chosen p μ (leaf n) = n ∷ []
  chosen p μ (inner n q ks) = n ∷ cond (same p q) (chosen_each p μ ks) (chosen_first p μ (minimax_children μ q ks) ks)

  pub chosen_each : Side → (ℕ → ℕ) → Children → List ℕ
  chosen_each p μ (last t) = chosen p μ t
  chosen_each p μ (t then ts) = chosen p μ t ++ chosen_each p μ ts

  pub chosen_first : Side → (ℕ → ℕ) → ℕ → Children → List ℕ
  chosen_first p μ v (last t) = chosen p μ t
  chosen_first p μ v (t then ts) = cond (eqb (minimax μ t) v) (chosen p μ t) (chosen_first p μ v ts)

-- side p's solution tree as the evaluated leaves E give it. Another leaf counts with the other side's worst score: the
-- max tree is read off the highs, the min tree off the lows.
abbrev pub solution_of : Side → (ℕ → ℕ) → (ℕ → Bool) → Tree → ℕ → Bool
solution_of p ν E t k = among (chosen p (known ν E (worst (other p))) t) k

-- the flag of a node: 1 if it is in the max tree, 2 if in the min tree, 3 if in both, else 0
abbrev pub flag : (ℕ → ℕ) → (ℕ → Bool) → Tree → ℕ → ℕ
flag ν E t k = cond (solution_of Max ν E t k) in_max 0 + cond (solution_of Min ν E t k) in_min 0

-- a certificate that no other undercuts in the number of leaves
pub record Smallest (ν : ℕ → ℕ) (t : Tree) (g h : ℕ → Bool) : Type 0 where
  pub value : ℕ
  pub certifies : Certifies ν t g h value
  pub fewest : (g' h' : ℕ → Bool) (v : ℕ) → Certifies ν t g' h' v → pair_leaves g h t ≤ pair_leaves g' h' t

-- each leaf of the set g is in the set E
abbrev pub LeavesIn : (ℕ → Bool) → (ℕ → Bool) → Tree → Type 0
LeavesIn g E t = EveryLeaf (λ n. g n ≡ true → E n ≡ true) t
