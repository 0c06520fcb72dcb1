-- The nodes and the leaves of a tree.
use Rattle.prelude.proofs.{ℕ, ◌+◌, ◌≡◌, refl, sym, ◌∙◌, inl, inr, ⊎_elim, true, false, or-false, eqb, length-append}
use Rattle.prelude.proofs.{eqb-true, eq-eqb}
use Rattle.lists.specs.{All, among, Once}
use Rattle.gametree.specs.{Tree, leaf, inner, Children, last, ◌then◌, number, leaves, leaves_children, In, InChildren}
use Rattle.gametree.specs.{nodes, nodes_children, size, size_children, Distinct, DistinctChildren, first_of, others_of}
use Rattle.lists.proofs.Choice.{is_false, or_left, or_right, or_cases}
use Rattle.lists.proofs.Lists.{all_append, all_map, among-append, among-left, among-right, once-append}

-- a tree's root is a node of it
pub number_in : (t : Tree) → In (number t) t
number_in (leaf n) = refl
number_in (inner n s ks) = inl refl

-- so is a node's first child
pub first-in : (ks : Children) → InChildren (first_of ks) ks
first-in (last t) = number_in t
first-in (t then ts) = inl (number_in t)

-- and its other children
pub others-in : (ks : Children) → All (λ k. InChildren k ks) (others_of ks)
others-in (last t) = tt
others-in (t then ts) = (inr (first-in ts), all_map _ _ (λ k i. inr i) (others_of ts) (others-in ts))

mutual
  -- a node's number is among the nodes
  pub in-nodes : (p : ℕ) (t : Tree) → In p t → among (nodes t) p ≡ true
  in-nodes p (leaf n) e = or_left (eqb p n) false (eq-eqb p n e)
  in-nodes p (inner n s ks) (inl e) = or_left (eqb p n) (among (nodes_children ks) p) (eq-eqb p n e)
  in-nodes p (inner n s ks) (inr i) = or_right (eqb p n) (among (nodes_children ks) p) (in-nodes_children p ks i)

  pub in-nodes_children : (p : ℕ) (ks : Children) → InChildren p ks → among (nodes_children ks) p ≡ true
  in-nodes_children p (last t) i = in-nodes p t i
  in-nodes_children p (t then ts) (inl i) = among-left (nodes t) (nodes_children ts) p (in-nodes p t i)
  in-nodes_children p (t then ts) (inr i) = among-right (nodes t) (nodes_children ts) p (in-nodes_children p ts i)

mutual
  -- and a number among them is a node's
  pub nodes-in : (p : ℕ) (t : Tree) → among (nodes t) p ≡ true → In p t
  nodes-in p (leaf n) e = eqb-true p n (sym (or-false (eqb p n)) ∙ e)
  nodes-in p (inner n s ks) e =
      ⊎_elim (λ h. inl (eqb-true p n h)) (λ h. inr (nodes_children-in p ks h))
      (or_cases (eqb p n) (among (nodes_children ks) p) e)

  pub nodes_children-in : (p : ℕ) (ks : Children) → among (nodes_children ks) p ≡ true → InChildren p ks
  nodes_children-in p (last t) e = nodes-in p t e
  nodes_children-in p (t then ts) e =
      ⊎_elim (λ h. inl (nodes-in p t h)) (λ h. inr (nodes_children-in p ts h))
      (or_cases (among (nodes t) p) (among (nodes_children ts) p)
      (sym (among-append (nodes t) (nodes_children ts) p) ∙ e))

-- so no other number is among them
pub out-nodes : (p : ℕ) (t : Tree) → (In p t → ⊥) → among (nodes t) p ≡ false
out-nodes p t h = is_false (among (nodes t) p) (λ e. h (nodes-in p t e))

-- nor among those of children
pub out-nodes_children : (p : ℕ) (ks : Children) → (InChildren p ks → ⊥) → among (nodes_children ks) p ≡ false
out-nodes_children p ks h = is_false (among (nodes_children ks) p) (λ e. h (nodes_children-in p ks e))

-- the nodes of children are those of the first and those of the others
pub size-then : (t : Tree) (ts : Children) → size_children (t then ts) ≡ size t + size_children ts
size-then t ts = length-append (nodes t) (nodes_children ts)

-- the leaves of a tree are nodes of it
mutual
  pub leaves_in : (t : Tree) → All (λ k. In k t) (leaves t)
  leaves_in (leaf n) = (refl, tt)
  leaves_in (inner n s ks) = all_map _ _ (λ k i. inr i) (leaves_children ks) (leaves_children-in ks)

  pub leaves_children-in : (ks : Children) → All (λ k. InChildren k ks) (leaves_children ks)
  leaves_children-in (last t) = leaves_in t
  leaves_children-in (t then ts) =
      all_append _ (leaves t) (leaves_children ts) (all_map _ _ (λ k i. inl i) (leaves t) (leaves_in t))
      (all_map _ _ (λ k i. inr i) (leaves_children ts) (leaves_children-in ts))

-- and none stands twice among them
mutual
  pub leaves-once : (t : Tree) → Distinct t → Once (leaves t)
  leaves-once (leaf n) d = (tt, tt)
  leaves-once (inner n s ks) d = leaves_children-once ks d.1

  leaves_children-once : (ks : Children) → DistinctChildren ks → Once (leaves_children ks)
  leaves_children-once (last t) d = leaves-once t d
  leaves_children-once (t then ts) d =
      once-append (λ k. In k t) (λ k. InChildren k ts) d.2 (leaves t) (leaves_children ts) (leaves-once t d.0)
      (leaves_children-once ts d.1)
      (leaves_in t) (leaves_children-in ts)
