-- The minimax value as a function of one leaf's score: the score, brought between the values for the least and the
-- greatest score of that leaf.
use Rattle.prelude.proofs.{ℕ, ◌≤◌, min, max, arith, ◌≡◌, Bool, true, false, cond, eqb}
use Rattle.gametree.specs.declared.Side.{Side}
use Rattle.gametree.specs.declared.Side.TheVariants.{Max, Min}
use Rattle.gametree.specs.{Tree, leaf, inner, Children, last, ◌then◌, least, greatest, better, minimax}
use Rattle.gametree.specs.{minimax_children}
use Rattle.gametree.specs.{clamp, substituted}

-- v is the score x, brought between l and u
record Between (l u x v : ℕ) : Type 0 where
  above : l ≤ v
  below : v ≤ u
  most : v ≤ max l x
  fewest : min u x ≤ v

-- and that determines it
between-clamp : (l u x v : ℕ) → Between l u x v → v ≡ clamp l u x
between-clamp l u x v b = omega (arith, b.above, b.below, b.most, b.fewest)

at_leaf : (b : Bool) (v x : ℕ) → x ≤ greatest → Between (cond b least v) (cond b greatest v) x (cond b x v)
at_leaf true v x h = record { above = omega arith; below = h; most = omega arith; fewest = omega arith }
at_leaf false v x h = record { above = omega arith; below = omega arith; most = omega arith; fewest = omega arith }

-- the better of two such scores is between the better bounds
between-better : (s : Side) {a b c d x p q : ℕ} → Between a b x p → Between c d x q
    → Between (better s a c) (better s b d) x (better s p q)
between-better Max m n =
    record {
      above = omega (arith, m.above, n.above);
      below = omega (arith, m.below, n.below);
      most = omega (arith, m.most, n.most);
      fewest = omega (arith, m.fewest, n.fewest);
    }
between-better Min m n =
    record {
      above = omega (arith, m.above, n.above);
      below = omega (arith, m.below, n.below);
      most = omega (arith, m.most, n.most);
      fewest = omega (arith, m.fewest, n.fewest);
    }

module _ (ν : ℕ → ℕ) (k x : ℕ) (h : x ≤ greatest) where
  mutual
    between : (t : Tree)
        → Between (minimax (substituted ν k least) t) (minimax (substituted ν k greatest) t) x
        (minimax (substituted ν k x) t)
    between (leaf n) = at_leaf (eqb n k) (ν n) x h
    between (inner n s ks) = between_children s ks

    between_children : (s : Side) (ks : Children)
        → Between (minimax_children (substituted ν k least) s ks) (minimax_children (substituted ν k greatest) s ks) x
        (minimax_children (substituted ν k x) s ks)
    between_children s (last t) = between t
    between_children s (t then ts) = between-better s (between t) (between_children s ts)

  -- the two values are in order
  pub low-high : (t : Tree) → minimax (substituted ν k least) t ≤ minimax (substituted ν k greatest) t
  low-high t = omega (arith, (between t).above, (between t).below)

  -- the minimax value is the leaf's score, brought between the values for the least and the greatest score
  pub median : (t : Tree)
      → minimax (substituted ν k x) t
      ≡ clamp (minimax (substituted ν k least) t) (minimax (substituted ν k greatest) t) x
  median t = between-clamp _ _ _ _ (between t)
