-- Another score at a leaf, a tree in place of a leaf (02: a graft), and other numbers for the nodes of a tree.
use Rattle.std.specs.Prelude.{ℕ, cond, eqb}
use Rattle.gametree.specs.Trees.{Tree, leaf, inner, Children, last, ◌then◌}

-- the valuation with the score x at the leaf k
abbrev pub substituted : (ℕ → ℕ) → (k x : ℕ) → ℕ → ℕ
substituted ν k x n = cond (eqb n k) x (ν n)

-- the tree with the tree v in place of the leaf k
abbrev mutual
  pub grafted : (k : ℕ) (v : Tree) → Tree → Tree
  grafted k v (leaf n) = cond (eqb n k) v (leaf n)
  grafted k v (inner n s ks) = inner n s (grafted_children k v ks)

  pub grafted_children : (k : ℕ) (v : Tree) → Children → Children
  grafted_children k v (last t) = last (grafted k v t)
  grafted_children k v (t then ts) = grafted k v t then grafted_children k v ts

-- the tree with the number f n for each n
abbrev mutual
  pub relabelled : (f : ℕ → ℕ) → Tree → Tree
  relabelled f (leaf n) = leaf (f n)
  relabelled f (inner n s ks) = inner (f n) s (relabelled_children f ks)

  pub relabelled_children : (f : ℕ → ℕ) → Children → Children
  relabelled_children f (last t) = last (relabelled f t)
  relabelled_children f (t then ts) = relabelled f t then relabelled_children f ts
