-- The tree at each source of a graft and the place of each, from those of the two tables; and the sources are listed in
-- breadth-first order, as many as both tables have nodes but the leaf.
use Rattle.prelude.proofs.{ℕ, ◌+◌, ◌-◌, ◌≤◌, ◌<◌, arith, ℕ_discrete, ◌≡◌, refl, sym, ap, ap₂, ◌∙◌, ⊎_elim, cond, List}
use Rattle.prelude.proofs.{◌++◌, ltb, length, get_or, lt-ltb, le-ltb, eq-eqb, ne_eqb}
use Rattle.gametree.specs.declared.Position.{Position}
use Rattle.gametree.specs.{Tree, leaf, size, grafted, relabelled}
use Rattle.table.specs.{max_nodes, frames, first_child, child_count, byte3, root_position, child_position, position_of}
use Rattle.table.specs.{depth_of, side_of, up_from, node, tree_at, tree, WellFormed, ChildOf, Accepted, TableAsStated}
use Rattle.table.proofs.Next.{child-within}
use Rattle.table.proofs.Acceptance.{accepted-stated, accepted-formed}
use Rattle.table.proofs.Positions.{position-root, position-child}
use Rattle.table.proofs.Trees.{tree-node, tree-leaf, node-same}
use Rattle.graft_questions.specs.{graft_size, MaxLeaf}
use Rattle.graft.specs.{root_for, base, child_sources, known_sources, sources, graft_tree}
use Rattle.graft_questions.specs.Graftable.{Graftable}
use Rattle.graft.proofs.Sizes.{graft-size}
use Rattle.graft.proofs.Listing.{Weighs, waits, kind, list_all}
use Rattle.graft.proofs.Nodes.{node-shifted, relabelled-node, grafted-node, node-size, weight-map, all_up}
use Rattle.graft.proofs.Joined.{source-cases, joined-first, joined-second}

-- a graft that is well-formed, though it may be too deep
pub record Fitting (t : List ℕ) (k : ℕ) (u : List ℕ) : Type 0 where
  pub first : Accepted t
  pub second : Accepted u
  pub leaf : MaxLeaf t k
  pub at_most : graft_size t u ≤ max_nodes

pub fitting : {t : List ℕ} {k : ℕ} {u : List ℕ} → Graftable t k u → Fitting t k u
fitting g = record { first = g.first; second = g.second; leaf = g.leaf; at_most = g.at_most }

-- the place d plies further down
abbrev deeper : ℕ → Position → Position
deeper d p = record { depth = d + p.depth; side = p.side }

-- byte 3 alone decides who moves at a child
child-same : (r t : List ℕ) (j c : ℕ) (p : Position) → byte3 r j ≡ byte3 t c
    → child_position r j p ≡ child_position t c p
child-same r t j c p e = rw e

module _ (t : List ℕ) (k : ℕ) (u : List ℕ) where
  -- the grafted tree's nodes: all but the leaf
  pub record Source (s : ℕ) : Type 0 where
    pub inside : s < frames t + frames u
    pub other : s ≡ k → ⊥

  abbrev second : Tree
  second = relabelled (λ v. frames t + v) (tree u)

  -- the tree at a source, and its place
  abbrev pub tree_of : ℕ → Tree
  tree_of s =
      cond (ltb s (frames t)) (grafted k second (tree_at t s))
      (relabelled (λ v. frames t + v) (tree_at u (s - frames t)))

  abbrev pub position_at : ℕ → Position
  position_at s = cond (ltb s (frames t)) (position_of t s) (deeper (depth_of t k) (position_of u (s - frames t)))

  abbrev pub first_in : ℕ → ℕ
  first_in s = base t s + first_child (t ++ u) s

  abbrev pub count_in : ℕ → ℕ
  count_in s = child_count (t ++ u) s

  module _ (g : Fitting t k u) where
    -- both tables are as stated, and well-formed
    pub first-stated : TableAsStated t
    first-stated = accepted-stated t g.first

    pub second-stated : TableAsStated u
    second-stated = accepted-stated u g.second

    pub first-formed : WellFormed t
    first-formed = accepted-formed t g.first

    pub second-formed : WellFormed u
    second-formed = accepted-formed u g.second

    pub graft-some : 1 ≤ graft_size t u
    graft-some = omega (arith, first-formed.non_empty, second-formed.non_empty)

    -- a source of the first table
    tree-first : (s : ℕ) → s < frames t → tree_of s ≡ grafted k second (tree_at t s)
    tree-first s h = rw (lt-ltb s (frames t) h)

    pub position_first : (s : ℕ) → s < frames t → position_at s ≡ position_of t s
    position_first s h = rw (lt-ltb s (frames t) h)

    pub first-first : (s : ℕ) → s < frames t → first_in s ≡ first_child t s
    unfolding base
    first-first s h =
        rw (lt-ltb s (frames t) h)
        (omega (
          arith,
          joined-first t u first-stated.whole s 0 h (omega arith),
          joined-first t u first-stated.whole s 1 h (omega arith),
        ))

    -- of the second
    tree-second : (v : ℕ) → tree_of (frames t + v) ≡ relabelled (λ v. frames t + v) (tree_at u v)
    tree-second v =
        let e : frames t + v - frames t ≡ v = omega arith in rw (le-ltb (frames t + v) (frames t) (omega arith), e)

    pub position-second : (v : ℕ) → position_at (frames t + v) ≡ deeper (depth_of t k) (position_of u v)
    position-second v =
        let e : frames t + v - frames t ≡ v = omega arith in rw (le-ltb (frames t + v) (frames t) (omega arith), e)

    first-second : (v : ℕ) → first_in (frames t + v) ≡ frames t + first_child u v
    unfolding base
    first-second v =
        rw (le-ltb (frames t + v) (frames t) (omega arith))
        (omega (arith, joined-second t u first-stated.whole v 0, joined-second t u first-stated.whole v 1))

    -- where a node of the first table is replaced
    pub replaced-leaf : root_for t k k ≡ frames t + 0
    unfolding root_for
    replaced-leaf = rw (eq-eqb k k refl) (omega arith)

    pub replaced-same : (c : ℕ) → (c ≡ k → ⊥) → root_for t k c ≡ c
    unfolding root_for
    replaced-same c h = rw (ne_eqb c k h)

    -- what stands there is the graft of the node's tree, at the node's place
    replaced-tree : (c : ℕ) → c < frames t → grafted k second (tree_at t c) ≡ tree_of (root_for t k c)
    replaced-tree c h =
        elim (ℕ_discrete c k) [
          | yes e ↦ rw e
              (ap (grafted k second) (tree-leaf t first-formed k g.leaf.inside g.leaf.childless) ∙ at_leaf
              ∙ sym (tree-second 0) ∙ ap tree_of (sym replaced-leaf))
          | no e ↦ rw (replaced-same c e) (sym (tree-first c h))
        ]
      where
        at_leaf : grafted k second (leaf k) ≡ second
        at_leaf = rw (eq-eqb k k refl)

    repositiond-position : (c : ℕ) → c < frames t → position_at (root_for t k c) ≡ position_of t c
    repositiond-position c h =
        elim (ℕ_discrete c k) [
          | yes e ↦ rw e
              (ap position_at replaced-leaf ∙ position-second 0 ∙ ap (deeper (depth_of t k)) (position-root u)
              ∙ at-root)
          | no e ↦ rw (replaced-same c e) (position_first c h)
        ]
      where
        at-root : deeper (depth_of t k) root_position ≡ position_of t k
        at-root = ap₂ (λ d s. record { depth = d; side = s }) (omega arith) (sym g.leaf.mover)

    -- byte 3 is zero on the leaf and on the second root
    leaf-byte : byte3 t k ≡ 0
    leaf-byte =
        ⊎_elim (λ z. z) (λ m. absurd (omega (arith, m.2, g.leaf.childless)))
        (first-stated.frame k g.leaf.inside).mover

    root-byte : byte3 u 0 ≡ 0
    root-byte =
        ⊎_elim (λ z. z) (λ m. absurd (omega (arith, m.1))) (second-stated.frame 0 second-formed.non_empty).mover

    -- so byte 3 of what stands in a node's position is the node's
    replaced-byte : (c : ℕ) → c < frames t → byte3 (t ++ u) (root_for t k c) ≡ byte3 t c
    replaced-byte c h =
        elim (ℕ_discrete c k) [
          | yes e ↦ rw (e, replaced-leaf) (joined-second t u first-stated.whole 0 3 ∙ root-byte ∙ sym leaf-byte)
          | no e ↦ rw (replaced-same c e) (joined-first t u first-stated.whole c 3 h (omega arith))
        ]

    -- a child of a node of the first table, and of the second
    pub count-first : (s : ℕ) → s < frames t → count_in s ≡ child_count t s
    count-first s h = joined-first t u first-stated.whole s 2 h (omega arith)

    pub count-second : (v : ℕ) → count_in (frames t + v) ≡ child_count u v
    count-second v = joined-second t u first-stated.whole v 2

    child-first : (s m : ℕ) → s < frames t → m < count_in s → ChildOf t s (first_in s + m)
    child-first s m h l =
        record {
          from = omega (arith, first-first s h);
          to = omega (arith, first-first s h, count-first s h);
        }

    child-second : (v m : ℕ) → m < count_in (frames t + v) → ChildOf u v (first_child u v + m)
    child-second v m l = record { from = omega arith; to = omega (arith, count-second v) }

    pub second-replaced : (v m : ℕ) → root_for t k (first_in (frames t + v) + m) ≡ frames t + (first_child u v + m)
    second-replaced v m =
        let e : first_in (frames t + v) + m ≡ frames t + (first_child u v + m) = omega (arith, first-second v) in
        ap (root_for t k) e ∙ replaced-same (frames t + (first_child u v + m)) (λ q. omega (arith, g.leaf.inside))

    module _ (s : ℕ) (x : Source s) where
      -- the children of a source are sources
      pub source-child : (m : ℕ) → m < count_in s → Source (root_for t k (first_in s + m))
      source-child m l =
          source-cases (frames t) (frames u) s x.inside
          (λ h. let w = child-within t first-formed h (child-first s m h l) in
          elim (ℕ_discrete (first_in s + m) k) [
            | yes e ↦ rw (e, replaced-leaf)
                (record {
                  inside = omega (arith, second-stated.non_empty);
                  other = λ q. omega (arith, g.leaf.inside);
                })
            | no e ↦ rw (replaced-same (first_in s + m) e) (record { inside = omega arith; other = e })
          ])
          (λ v h e.
          let l' = rw e at l in
          let w = child-within u second-formed h (child-second v m l') in
          rw (e, second-replaced v m) (record { inside = omega arith; other = λ q. omega (arith, g.leaf.inside) }))

      -- they stand one ply below it, moved by byte 3 of their own frames
      pub source-position : (r : List ℕ) (j m : ℕ) → m < count_in s
          → byte3 r j ≡ byte3 (t ++ u) (root_for t k (first_in s + m))
          → child_position r j (position_at s) ≡ position_at (root_for t k (first_in s + m))
      source-position r j m l b =
          source-cases (frames t) (frames u) s x.inside
          (λ h. let c = child-first s m h l in
          let w = child-within t first-formed h c in
          ap (child_position r j) (position_first s h)
          ∙ child-same r t j (first_in s + m) (position_of t s) (b ∙ replaced-byte (first_in s + m) w)
          ∙ sym (position-child t first-formed h c) ∙ sym (repositiond-position (first_in s + m) w))
          (λ v h e.
          let l' = rw e at l in
          let b' = rw (e, second-replaced v m) at b in
          let c = child-second v m l' in
          rw (
            e,
            second-replaced v m,
            position-second v,
            position-second (first_child u v + m),
            position-child u second-formed h c,
          )
          (child-same r u j (first_child u v + m) (deeper (depth_of t k) (position_of u v))
          (b' ∙ joined-second t u first-stated.whole (first_child u v + m) 3)
          ∙ ap (λ d. record { depth = d; side = (child_position u (first_child u v + m) (position_of u v)).side })
          (omega arith)))

      -- the tree at a source is a node over its children's
      pub source-tree : tree_of s ≡ node s (position_at s).side (λ c. tree_of (root_for t k c)) (first_in s)
          (count_in s)
      source-tree =
          source-cases (frames t) (frames u) s x.inside
          (λ h.
          tree-first s h ∙ ap (grafted k second) (tree-node t first-formed s h)
          ∙ grafted-node k second s (side_of t s) (tree_at t) (first_child t s) (child_count t s) x.other
          ∙ node-same s (side_of t s) (λ c. grafted k second (tree_at t c)) (λ c. tree_of (root_for t k c))
          (first_child t s) (child_count t s)
          (λ c a b. replaced-tree c (child-within t first-formed h (record { from = a; to = b })))
          ∙ rw (position_first s h, first-first s h, count-first s h))
          (λ v h e.
          rw e
          (tree-second v ∙ ap (relabelled (λ v. frames t + v)) (tree-node u second-formed v h)
          ∙ relabelled-node (λ v. frames t + v) v (side_of u v) (tree_at u) (first_child u v) (child_count u v)
          ∙ node-shifted (side_of u v) (λ c. relabelled (λ v. frames t + v) (tree_at u c))
          (λ c. tree_of (root_for t k c))
          (frames t + v) (first_child u v) (first_in (frames t + v)) (child_count u v)
          (λ m l. sym (ap tree_of (second-replaced v m) ∙ tree-second (first_child u v + m)))
          ∙ rw (position-second v, count-second v)))

    -- the root's tree is the graft, at the root's place
    pub root-tree : tree_of (root_for t k 0) ≡ graft_tree t k u
    root-tree = sym (replaced-tree 0 (omega (arith, first-stated.non_empty)))

    pub root-position : position_at (root_for t k 0) ≡ root_position
    root-position = repositiond-position 0 (omega (arith, first-stated.non_empty)) ∙ position-root t

    root-source : Source (root_for t k 0)
    root-source =
        elim (ℕ_discrete 0 k) [
          | yes e ↦ rw (e, replaced-leaf)
              (record { inside = omega (arith, second-stated.non_empty); other = λ q. omega (arith, g.leaf.inside) })
          | no e ↦ rw (replaced-same 0 e) (record { inside = omega (arith, first-stated.non_empty); other = e })
        ]

    -- each source weighs its tree's size
    weighs : Weighs Source (child_sources t k u) (λ s. size (tree_of s)) (root_for t k 0)
    unfolding child_sources
    weighs =
        record {
          start = root-source;
          below = λ s x. all_up Source (root_for t k) (first_in s) (count_in s) (source-child s x);
          weighs = λ s x.
              ap size (source-tree s x)
              ∙ node-size s (position_at s).side (λ c. tree_of (root_for t k c)) (first_in s) (count_in s)
              ∙ ap (λ x. 1 + x)
              (sym (weight-map (λ s. size (tree_of s)) (root_for t k) (up_from (first_in s) (count_in s))));
        }

    weight-all : size (tree_of (root_for t k 0)) ≡ graft_size t u
    weight-all =
        ap size root-tree ∙ graft-size t k u first-formed second-formed g.leaf.inside g.leaf.childless

    -- while nodes are left, one waits; it is a source; and in the end all are known
    pub source-waits : (i : ℕ) → i < graft_size t u → i < length (known_sources t k u i)
    source-waits i h = waits (child_sources t k u) (root_for t k 0) Source _ weighs i (omega (arith, weight-all))

    pub source-kind : (i : ℕ) → i < graft_size t u → Source (get_or (known_sources t k u i) i 0)
    source-kind i h = kind (child_sources t k u) (root_for t k 0) Source _ weighs i (omega (arith, weight-all))

    pub sources-all : length (sources t k u) ≡ graft_size t u
    sources-all = rw weight-all at (list_all (child_sources t k u) (root_for t k 0) Source _ weighs)
