-- How many leaves a set, a pair of sets and a list have.
use Rattle.prelude.proofs.{ℕ, ◌+◌, ◌≤◌, le_refl, arith, ◌≡◌, refl, sym, ◌∙◌, ap, ap₂, subst, inl, inr, ⊎_elim, Bool}
use Rattle.prelude.proofs.{true, false, cond, ◌||◌, List, [], ◌∷◌, ◌++◌, append_assoc, eqb, length, length-append}
use Rattle.prelude.proofs.{eqb-true, ne_eqb}
use Rattle.lists.specs.{All, among, Once}
use Rattle.gametree.specs.{Tree, leaf, inner, Children, last, ◌then◌, In, InChildren, EveryLeafChildren, Distinct}
use Rattle.gametree.specs.{DistinctChildren, size, size_children, leaves, leaves_children, leaf_count}
use Rattle.gametree.specs.{leaf_count_children}
use Rattle.gametree.specs.{nodes, pair_leaves, LeavesIn}
use Rattle.lists.proofs.Choice.{cond_cases, true-not-false, or_left, or_cases}
use Rattle.lists.proofs.Lists.{among-left, among-right, all-zip, all_among, once-length}
use Rattle.gametree_theory.proofs.Minimax.Nodes.{in-nodes, nodes-in}
use Rattle.gametree_theory.proofs.Certificates.Leaves.{pair-count}

-- a leaf in one of two sets of evaluated leaves is evaluated
pair-leaf : (a b c : Bool) → (a ≡ true → c ≡ true) → (b ≡ true → c ≡ true) → cond (a || b) 1 0 ≤ cond c 1 0
pair-leaf true b c f g = rw (f refl) (le_refl 1)
pair-leaf false true c f g = rw (g refl) (le_refl 1)
pair-leaf false false c f g = omega arith

-- two sets of evaluated leaves have no more leaves than are evaluated
mutual
  either≤ : (g h E : ℕ → Bool) (t : Tree) → LeavesIn g E t → LeavesIn h E t
      → leaf_count (λ n. g n || h n) t ≤ leaf_count E t
  either≤ g h E (leaf n) i j = pair-leaf (g n) (h n) (E n) i j
  either≤ g h E (inner n q ks) i j = either_children≤ g h E ks i j

  either_children≤ : (g h E : ℕ → Bool) (ks : Children) → EveryLeafChildren (λ n. g n ≡ true → E n ≡ true) ks
      → EveryLeafChildren (λ n. h n ≡ true → E n ≡ true) ks
      → leaf_count_children (λ n. g n || h n) ks ≤ leaf_count_children E ks
  either_children≤ g h E (last t) i j = either≤ g h E t i j
  either_children≤ g h E (t then ts) i j =
      omega (arith, either≤ g h E t i.0 j.0, either_children≤ g h E ts i.1 j.1)

pub pair_leaves≤ : (g h E : ℕ → Bool) (t : Tree) → LeavesIn g E t → LeavesIn h E t → pair_leaves g h t ≤ leaf_count E t
pair_leaves≤ g h E t i j = rw (pair-count g h t) (either≤ g h E t i j)

-- a number that is no node's is no leaf's
mutual
  count-absent : (x : ℕ) (t : Tree) → (In x t → ⊥) → leaf_count (λ n. eqb n x) t ≡ 0
  count-absent x (leaf n) h = rw (ne_eqb n x (λ e. h (sym e))) refl
  count-absent x (inner n q ks) h = count_children-absent x ks (λ i. h (inr i))

  count_children-absent : (x : ℕ) (ks : Children) → (InChildren x ks → ⊥) → leaf_count_children (λ n. eqb n x) ks ≡ 0
  count_children-absent x (last t) h = count-absent x t h
  count_children-absent x (t then ts) h =
      omega (arith, count-absent x t (λ i. h (inl i)), count_children-absent x ts (λ i. h (inr i)))

-- and else of one leaf at most
mutual
  count-one : (x : ℕ) (t : Tree) → Distinct t → leaf_count (λ n. eqb n x) t ≤ 1
  count-one x (leaf n) d = cond_cases (λ k. k ≤ 1) (eqb n x) 1 0 (λ _. omega arith) (λ _. omega arith)
  count-one x (inner n q ks) d = count_children-one x ks d.1

  count_children-one : (x : ℕ) (ks : Children) → DistinctChildren ks → leaf_count_children (λ n. eqb n x) ks ≤ 1
  count_children-one x (last t) d = count-one x t d
  count_children-one x (t then ts) d =
      either (among (nodes t) x) refl (count-one x t d.0) (count_children-one x ts d.1)
    where
      either : (b : Bool) → among (nodes t) x ≡ b → leaf_count (λ n. eqb n x) t ≤ 1
          → leaf_count_children (λ n. eqb n x) ts ≤ 1
          → leaf_count (λ n. eqb n x) t + leaf_count_children (λ n. eqb n x) ts ≤ 1
      either true e i j = omega (arith, count_children-absent x ts (λ k. d.2 x (nodes-in x t e) k))
      either false e i j = omega (arith, count-absent x t (λ k. true-not-false (in-nodes x t k) e))

or_count : (a b : Bool) → cond (a || b) 1 0 ≤ cond a 1 0 + cond b 1 0
or_count true b = omega arith
or_count false b = omega arith

mutual
  count-or : (E F : ℕ → Bool) (t : Tree) → leaf_count (λ n. E n || F n) t ≤ leaf_count E t + leaf_count F t
  count-or E F (leaf n) = or_count (E n) (F n)
  count-or E F (inner n q ks) = count_children-or E F ks

  count_children-or : (E F : ℕ → Bool) (ks : Children)
      → leaf_count_children (λ n. E n || F n) ks ≤ leaf_count_children E ks + leaf_count_children F ks
  count_children-or E F (last t) = count-or E F t
  count_children-or E F (t then ts) = omega (arith, count-or E F t, count_children-or E F ts)

mutual
  count_none : (t : Tree) → leaf_count (λ n. false) t ≡ 0
  count_none (leaf n) = refl
  count_none (inner n q ks) = count_children-none ks

  count_children-none : (ks : Children) → leaf_count_children (λ n. false) ks ≡ 0
  count_children-none (last t) = count_none t
  count_children-none (t then ts) = omega (arith, count_none t, count_children-none ts)

-- a list names no more leaves than it is long
pub count-list : (w : List ℕ) (t : Tree) → Distinct t → leaf_count (among w) t ≤ length w
count-list [] t d = omega (arith, count_none t)
count-list (x ∷ w) t d = omega (arith, count-or (λ n. eqb n x) (among w) t, count-one x t d, count-list w t d)

-- the elements of a list that are in the set E
abbrev filter : (ℕ → Bool) → List ℕ → List ℕ
filter E [] = []
filter E (x ∷ xs) = cond (E x) (x ∷ []) [] ++ filter E xs

filter-append : (E : ℕ → Bool) (xs ys : List ℕ) → filter E (xs ++ ys) ≡ filter E xs ++ filter E ys
filter-append E [] ys = refl
filter-append E (x ∷ xs) ys =
    ap (◌++◌ (cond (E x) (x ∷ []) [])) (filter-append E xs ys)
    ∙ sym (append_assoc (cond (E x) (x ∷ []) []) (filter E xs) (filter E ys))

filter-among : (E : ℕ → Bool) (xs : List ℕ) (k : ℕ) → E k ≡ true → among xs k ≡ true → among (filter E xs) k ≡ true
filter-among E [] k e h = h
filter-among E (x ∷ xs) k e h =
    ⊎_elim
    (λ d.
    let z : E x ≡ true = subst (λ y. E y ≡ true) (eqb-true k x d) e in
    among-left (cond (E x) (x ∷ []) []) (filter E xs) k (rw z (or_left (eqb k x) false d)))
    (λ d. among-right (cond (E x) (x ∷ []) []) (filter E xs) k (filter-among E xs k e d))
    (or_cases (eqb k x) (among xs k) h)

leaf-length : (b : Bool) (n : ℕ) → length (cond b (n ∷ []) [] ++ []) ≡ cond b 1 0
leaf-length true n = refl
leaf-length false n = refl

-- the leaves of the tree that are in E are as many as are counted
mutual
  filter-count : (E : ℕ → Bool) (t : Tree) → length (filter E (leaves t)) ≡ leaf_count E t
  filter-count E (leaf n) = leaf-length (E n) n
  filter-count E (inner n q ks) = filter_children-count E ks

  filter_children-count : (E : ℕ → Bool) (ks : Children) → length (filter E (leaves_children ks))
      ≡ leaf_count_children E ks
  filter_children-count E (last t) = filter-count E t
  filter_children-count E (t then ts) =
      ap length (filter-append E (leaves t) (leaves_children ts))
      ∙ length-append (filter E (leaves t)) (filter E (leaves_children ts))
      ∙ ap₂ ◌+◌ (filter-count E t) (filter_children-count E ts)

-- a list without repetition of a tree's leaves names as many leaves as it is long
pub once-count : (w : List ℕ) (t : Tree) → Distinct t → Once w → All (λ k. among (leaves t) k ≡ true) w
    → leaf_count (among w) t ≡ length w
once-count w t d o a =
    let b =
    all-zip _ _ (λ k. among (filter (among w) (leaves t)) k ≡ true)
    (λ k x y. filter-among (among w) (leaves t) k x y) w (all_among w) a in
    omega (arith, count-list w t d, once-length w (filter (among w) (leaves t)) o b, filter-count (among w) t)

-- a tree has no more leaves than nodes
mutual
  pub leaves-size : (t : Tree) → length (leaves t) ≤ size t
  leaves-size (leaf n) = le_refl 1
  leaves-size (inner n s ks) = omega (arith, leaves_children-size ks)

  leaves_children-size : (ks : Children) → length (leaves_children ks) ≤ size_children ks
  leaves_children-size (last t) = leaves-size t
  leaves_children-size (t then ts) = simp length-append (omega (arith, leaves-size t, leaves_children-size ts))

leaf-once : (b : Bool) → cond b 1 0 ≤ 1
leaf-once true = le_refl 1
leaf-once false = omega arith

-- a set has no more leaves of a tree than there are
mutual
  count-all : (E : ℕ → Bool) (t : Tree) → leaf_count E t ≤ length (leaves t)
  count-all E (leaf n) = leaf-once (E n)
  count-all E (inner n s ks) = count_children-all E ks

  count_children-all : (E : ℕ → Bool) (ks : Children) → leaf_count_children E ks ≤ length (leaves_children ks)
  count_children-all E (last t) = count-all E t
  count_children-all E (t then ts) = simp length-append (omega (arith, count-all E t, count_children-all E ts))

-- nor have two sets
pub pair_leaves-all : (g h : ℕ → Bool) (t : Tree) → pair_leaves g h t ≤ length (leaves t)
pair_leaves-all g h t = rw (pair-count g h t) (count-all (λ n. g n || h n) t)
