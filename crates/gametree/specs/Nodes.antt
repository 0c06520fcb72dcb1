-- What SSS* asks of a tree by the numbers of its nodes: a node's subtree and its link to its parent, whether it is
-- above another (its ancestor), and whether it is left of it (in the subtree of an elder sibling of a node on the
-- other's path).
use Rattle.std.specs.Prelude.{ℕ, Bool, false, cond, not, ◌&&◌, List, [], ◌∷◌, eqb}
use Rattle.std.proofs.Math.Option.{Option, none, some}
use Rattle.lists.specs.Lists.{among}
use Rattle.gametree.specs.Trees.{Side, Tree, leaf, inner, Children, last, ◌then◌, number, nodes}

-- the root, or a node under a parent, with the parent's side and the next sibling (01: brother)
pub data Link : Type 0 where
  root : Link
  under : (parent : ℕ) (side : Side) (next : Option ℕ) → Link

-- the first child's number, and those of the others
abbrev pub first_of : Children → ℕ
first_of (last t) = number t
first_of (t then ts) = number t

abbrev pub others_of : Children → List ℕ
others_of (last t) = []
others_of (t then ts) = first_of ts ∷ others_of ts

-- the subtree at p, which is one of the tree's nodes
abbrev mutual
  pub subtree_at : ℕ → Tree → Tree
  subtree_at p (leaf n) = leaf n
  subtree_at p (inner n s ks) = cond (eqb p n) (inner n s ks) (subtree_at_children p ks)

  pub subtree_at_children : ℕ → Children → Tree
  subtree_at_children p (last t) = subtree_at p t
  subtree_at_children p (t then ts) = cond (among (nodes t) p) (subtree_at p t) (subtree_at_children p ts)

-- the link of p, which is one of the tree's nodes; the tree's own node is the root
abbrev mutual
  pub link_in : Tree → ℕ → Link
  link_in (leaf n) p = root
  link_in (inner n s ks) p = cond (eqb p n) root (link_in_children n s ks p)

  pub link_in_children : ℕ → Side → Children → ℕ → Link
  link_in_children n s (last t) p = cond (eqb p (number t)) (under n s none) (link_in t p)
  link_in_children n s (t then ts) p =
      cond (eqb p (number t)) (under n s (some (first_of ts)))
      (cond (among (nodes t) p) (link_in t p) (link_in_children n s ts p))

-- is p above q: q is another node of the subtree at p
abbrev pub above_in : Tree → ℕ → ℕ → Bool
above_in t p q = among (nodes (subtree_at p t)) q && not (eqb q p)

-- does p come before q in a list
abbrev pub before : List ℕ → ℕ → ℕ → Bool
before [] p q = false
before (x ∷ xs) p q = cond (eqb p x) (among xs q) (before xs p q)

-- is p left of q: it comes before q among the nodes, and is not above it
abbrev pub left_in : Tree → ℕ → ℕ → Bool
left_in t p q = before (nodes t) p q && not (above_in t p q)
