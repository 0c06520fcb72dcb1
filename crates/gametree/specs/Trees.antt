-- Game trees, their minimax value, and what makes a tree and its scores proper. A function whose name ends in Children
-- is the part for the children of a node.
use Rattle.std.specs.Prelude.{ℕ, ◌+◌, ◌<◌, min, max, ◌≡◌, ◌⊎◌, Bool, cond, List, [], ◌∷◌, ◌++◌, length}
-- who moves at an inner node: the code's own type. The side is a label of the node, and not found from its depth.
pub use Rattle.gametree.specs.declared.Side.{Side}
pub use Rattle.gametree.specs.declared.Side.TheVariants.{Max, Min}

infixr 50 ◌then◌
-- the opponent
abbrev pub other : Side → Side
other Max = Min
other Min = Max

-- a leaf has its number; an inner node has its number, its side and its children
mutual
  pub data Tree : Type 0 where
    leaf : (number : ℕ) → Tree
    inner : (number : ℕ) (side : Side) (kids : Children) → Tree

  -- the children from left to right, at least one
  pub data Children : Type 0 where
    last : Tree → Children
    ◌then◌ : Tree → Children → Children

-- a leaf's score is its value plus 32,001, so that scores are 1 to 64,001: the score of the value 0
abbrev pub zero_score : ℕ
zero_score = 32001

-- the scores of -32,001 and 32,001, which no leaf has (minus and plus infinity in the sources)
abbrev pub least : ℕ
least = 0

abbrev pub greatest : ℕ
greatest = 64002

-- the better of two scores for the side that moves
abbrev pub better : Side → ℕ → ℕ → ℕ
better Max a b = max a b
better Min a b = min a b

-- the minimax value under the valuation ν, which gives each leaf its score: a leaf has its own, a Max node the greatest
-- of its children's, a Min node the least
abbrev mutual
  pub minimax : (ℕ → ℕ) → Tree → ℕ
  minimax ν (leaf n) = ν n
  minimax ν (inner n s ks) = minimax_children ν s ks

  pub minimax_children : (ℕ → ℕ) → Side → Children → ℕ
  minimax_children ν s (last t) = minimax ν t
  minimax_children ν s (t then ts) = better s (minimax ν t) (minimax_children ν s ts)

-- the number of a tree's root
abbrev pub number : Tree → ℕ
number (leaf n) = n
number (inner n s ks) = n

-- the nodes from left to right, each before those below it
abbrev mutual
  pub nodes : Tree → List ℕ
  nodes (leaf n) = n ∷ []
  nodes (inner n s ks) = n ∷ nodes_children ks

  pub nodes_children : Children → List ℕ
  nodes_children (last t) = nodes t
  nodes_children (t then ts) = nodes t ++ nodes_children ts

-- how many there are
abbrev pub size : Tree → ℕ
size t = length (nodes t)

abbrev pub size_children : Children → ℕ
size_children ks = length (nodes_children ks)

-- the leaves from left to right
abbrev mutual
  pub leaves : Tree → List ℕ
  leaves (leaf n) = n ∷ []
  leaves (inner n s ks) = leaves_children ks

  pub leaves_children : Children → List ℕ
  leaves_children (last t) = leaves t
  leaves_children (t then ts) = leaves t ++ leaves_children ts

-- how many leaves are in the set E
abbrev mutual
  pub leaf_count : (ℕ → Bool) → Tree → ℕ
  leaf_count E (leaf n) = cond (E n) 1 0
  leaf_count E (inner n q ks) = leaf_count_children E ks

  pub leaf_count_children : (ℕ → Bool) → Children → ℕ
  leaf_count_children E (last t) = leaf_count E t
  leaf_count_children E (t then ts) = leaf_count E t + leaf_count_children E ts

-- p is the number of a node
abbrev mutual
  pub In : ℕ → Tree → Type 0
  In p (leaf n) = p ≡ n
  In p (inner n s ks) = (p ≡ n) ⊎ InChildren p ks

  pub InChildren : ℕ → Children → Type 0
  InChildren p (last t) = In p t
  InChildren p (t then ts) = In p t ⊎ InChildren p ts

-- P holds of each leaf
abbrev mutual
  pub EveryLeaf : (ℕ → Type 0) → Tree → Type 0
  EveryLeaf P (leaf n) = P n
  EveryLeaf P (inner n s ks) = EveryLeafChildren P ks

  pub EveryLeafChildren : (ℕ → Type 0) → Children → Type 0
  EveryLeafChildren P (last t) = EveryLeaf P t
  EveryLeafChildren P (t then ts) = EveryLeaf P t × EveryLeafChildren P ts

-- each leaf's score is a real one, between `least` and `greatest`
abbrev pub Score : ℕ → Type 0
Score v = (least < v) × (v < greatest)

abbrev pub Scored : (ℕ → ℕ) → Tree → Type 0
Scored ν t = EveryLeaf (λ n. Score (ν n)) t

abbrev pub ScoredChildren : (ℕ → ℕ) → Children → Type 0
ScoredChildren ν ks = EveryLeafChildren (λ n. Score (ν n)) ks

-- no two nodes have the same number
abbrev mutual
  pub Distinct : Tree → Type 0
  Distinct (leaf n) = Unit
  Distinct (inner n s ks) = (InChildren n ks → ⊥) × DistinctChildren ks

  pub DistinctChildren : Children → Type 0
  DistinctChildren (last t) = Distinct t
  DistinctChildren (t then ts) = Distinct t × DistinctChildren ts × ((p : ℕ) → In p t → InChildren p ts → ⊥)

-- a tree as the theorems require it: no number occurs twice, and each leaf's score is a real one
pub record Proper (ν : ℕ → ℕ) (t : Tree) : Type 0 where
  pub scored : Scored ν t
  pub distinct : Distinct t
