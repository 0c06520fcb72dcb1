-- The check of a certificate by counting children, node by node, as a loop over a table does it.
use Rattle.prelude.proofs.{ℕ, suc, ◌+◌, Bool, true, cond, ◌&&◌, eqb}
use Rattle.gametree.specs.declared.Side.{Side}
use Rattle.gametree.specs.declared.Side.TheVariants.{Max, Min}
use Rattle.gametree.specs.{Tree, leaf, inner, Children, last, ◌then◌, number, same, solution_value}

-- how many children there are, and how many of them are in the set g
abbrev pub kid_count : Children → ℕ
kid_count (last t) = 1
kid_count (t then ts) = suc (kid_count ts)

abbrev pub members : (ℕ → Bool) → Children → ℕ
members g (last t) = cond (g (number t)) 1 0
members g (t then ts) = cond (g (number t)) 1 0 + members g ts

-- how many children of a node of side q are in a solution tree of side p, where b says whether the node is in it
abbrev pub required : Side → Side → Bool → Children → ℕ
required p q b ks = cond b (cond (same p q) (kid_count ks) 1) 0

-- the rules of a solution tree, by counting
abbrev mutual
  pub rules_hold : Side → (ℕ → Bool) → Tree → Bool
  rules_hold p g (leaf n) = true
  rules_hold p g (inner n q ks) = eqb (members g ks) (required p q (g n) ks) && rules_hold_children p g ks

  pub rules_hold_children : Side → (ℕ → Bool) → Children → Bool
  rules_hold_children p g (last t) = rules_hold p g t
  rules_hold_children p g (t then ts) = rules_hold p g t && rules_hold_children p g ts

-- both sets are solution trees, and their values are equal
abbrev pub certificate? : (ℕ → ℕ) → Tree → (ℕ → Bool) → (ℕ → Bool) → Bool
certificate? ν t g h =
    (g (number t) && rules_hold Max g t) && (h (number t) && rules_hold Min h t)
    && eqb (solution_value Max ν g t) (solution_value Min ν h t)
