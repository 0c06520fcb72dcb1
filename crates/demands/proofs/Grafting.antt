-- Grafting a deeper analysis (02: N9), sentence by sentence, over the definition that the contract of the call cites.
-- The first table is t, the named node k, the second table u, the lent buffer b; the table at the buffer's front after
-- a call that gives n nodes is `handed t k u b n`. Its minimax value: `graft-value` in Sentences.antt; a refusal:
-- `graft-keeps` in TheSentence.antt.
use Rattle.prelude.proofs.{ℕ, ◌+◌, ◌-◌, ◌*◌, ◌≤◌, ◌<◌, arith, dec_le, ◌≡◌, ap, ◌⊎◌, inl, inr, ◌↔◌, some, List, ◌++◌}
use Rattle.prelude.proofs.{Ok, Err}
use Rattle.prelude.proofs.{length, get_or, drop}
use Rattle.gametree.specs.declared.Side.TheVariants.{Max}
use Rattle.gametree.specs.{other, relabelled}
use Rattle.table.specs.declared.Rejection.{Rejection}
use Rattle.table.specs.{frame_size, max_nodes, max_depth, frames, byte_of, child_count, parent_of, depth_of, side_of}
use Rattle.table.specs.{tree}
use Rattle.table.specs.{rejection, Accepted}
use Rattle.table.proofs.Positions.{position-root}
use Rattle.table.proofs.Acceptance.{accepted-formed}
use Rattle.graft_questions.specs.{graft_size, MaxLeaf}
use Rattle.graft.specs.{sources, graft_table, graft_outcome, graft_tree, handed}
use Rattle.graft_questions.specs.Graftable.{Graftable}
use Rattle.graft.proofs.Acceptance.{accepted-graftable}
use Rattle.graft.proofs.Grafting.{leaf-other, graft-first, graft-second, graft-no-leaf, graft-too-large, graft-deep}
use Rattle.graft.proofs.Grafting.{graft-short, graft-gives, given-graftable, grafted-nodes, grafted-rest}
use Rattle.graft.proofs.Grafting.{grafted-accepted, grafted-tree, grafted-bytes}

-- "A leaf's mover is the other side of its parent's"
pub leaf-mover : (t : List ℕ) (k : ℕ) → Accepted t → 0 < k → k < frames t → child_count t k ≡ 0
    → side_of t k ≡ other (side_of t (parent_of t k))
leaf-mover = leaf-other

-- "a leaf at node 0 belongs to Max"
pub root-mover : (t : List ℕ) → side_of t 0 ≡ Max
root-mover t = ap (λ p. p.side) (position-root t)

module _ (t : List ℕ) (k : ℕ) (u b : List ℕ) where
  -- "Add a call that puts the second tree in that leaf's place, .. and gives its number of nodes": with room there is
  -- one
  pub nodes-given : Graftable t k u → frame_size * graft_size t u ≤ length b
      → (graft_outcome t k u b).answer ≡ Ok (graft_size t u)
  nodes-given = graft-gives t k u b

  module _ (n : ℕ) (e : (graft_outcome t k u b).answer ≡ Ok n) where
    -- only what can be grafted gets one
    pub only-graftable : Graftable t k u
    only-graftable = given-graftable t k u b n e

    -- it is one node less than both tables have together
    pub one-node-less : n + 1 ≡ frames t + frames u
    one-node-less = grafted-nodes t k u b n e

    -- "numbers the result breadth-first, writes it as a table to a third buffer": an accepted table of n frames
    pub result-accepted : Accepted (handed t k u b n) × (frames (handed t k u b n) ≡ n)
    result-accepted = grafted-accepted t k u b n e

    -- its tree is the first with the second in the leaf's place: each node i numbered by its source, a number of a node
    -- in the first table followed by the second
    pub second-in-place : relabelled (λ i. get_or (sources t k u) i 0) (tree (handed t k u b n)) ≡ graft_tree t k u
    second-in-place = grafted-tree t k u b n e

    -- and each node has the count of children, the byte 3 and the value of its source
    pub bytes-carried : (i j : ℕ) → i < n → 2 ≤ j → j < frame_size
        → byte_of (handed t k u b n) i j ≡ byte_of (t ++ u) (get_or (sources t k u) i 0) j
    bytes-carried = grafted-bytes t k u b n e

    -- "Bytes past the result keep their contents"
    pub rest-kept : drop (frame_size * n) (graft_outcome t k u b).left ≡ drop (frame_size * n) b
    rest-kept = grafted-rest t k u b n e

  -- "The tables are questioned in turn, the first before the second"
  pub first-in-turn : (r : Rejection) → rejection t ≡ some r → (graft_outcome t k u b).answer ≡ Err r
  first-in-turn = graft-first t k u b

  pub second-in-turn : (r : Rejection) → Accepted t → rejection u ≡ some r
      → (graft_outcome t k u b).answer ≡ Err r
  second-in-turn = graft-second t k u b

  -- "the named node is no leaf with Max to move, 17, place the node as named"
  pub no-max-leaf : Accepted t → Accepted u → (MaxLeaf t k → ⊥)
      → (graft_outcome t k u b).answer ≡ Err (record { number = 17; place = k })
  no-max-leaf = graft-no-leaf t k u b

  -- "a result of more than 4,096 nodes or 18 plies, 18, place 0", where 17 passes: a node of the second tree would
  -- stand deeper in the result; and 18 is given in no other case
  pub too_large : Accepted t → Accepted u → MaxLeaf t k
      → ((graft_outcome t k u b).answer ≡ Err (record { number = 18; place = 0 }))
      ↔ ((max_nodes < graft_size t u) ⊎ ((v : ℕ) × (v < frames u) × (max_depth < depth_of t k + depth_of u v)))
  too_large a c l = (
    λ e. elim (dec_le (graft_size t u) max_nodes) [
      | no f ↦ inl (omega arith)
      | yes f ↦ inr (
        frames u - 1,
        omega (arith, (accepted-formed u c).non_empty),
        graft-deep t k u b a c l f e,
      )
    ],
    λ h. graft-too-large t k u b a c l (λ r.
        let g = accepted-graftable t k u a c l r in
        elim h [
          | inl f ↦ omega (arith, g.at_most)
          | inr f ↦ omega (arith, f.2, g.shallow f.0 f.1)
        ]),
  )

  -- so a result that would not be an accepted table gets 18, and where it would be one, 18 passes
  pub unaccepted-result : Accepted t → Accepted u → MaxLeaf t k → (Accepted (graft_table t k u) → ⊥)
      → (graft_outcome t k u b).answer ≡ Err (record { number = 18; place = 0 })
  unaccepted-result = graft-too-large t k u b

  pub accepted-result : Accepted t → Accepted u → MaxLeaf t k → Accepted (graft_table t k u) → Graftable t k u
  accepted-result = accepted-graftable t k u

  -- "before 10, which wants six bytes for each node of the result"
  pub short-result : Graftable t k u → length b < frame_size * graft_size t u
      → (graft_outcome t k u b).answer ≡ Err (record { number = 10; place = 0 })
  short-result = graft-short t k u b
