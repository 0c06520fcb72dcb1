-- The worst-case filling of an accepted table: an accepted table of the same shape, whose leaves hold the ranks, each
-- once; alpha-beta reaches every leaf, and what the leaves held has no influence.
use Rattle.prelude.proofs.{ℕ, ◌+◌, ◌*◌, ◌/◌, ◌%◌, ◌≤◌, ◌<◌, arith, dec_lt, ℕ_discrete, ◌≡◌, sym, ◌∙◌, subst, true, List}
use Rattle.prelude.proofs.{length, get_or, ext_get_or}
use Rattle.lists.specs.{among}
use Rattle.lists.proofs.Lists.{all-at}
use Rattle.gametree.specs.{zero_score, least, greatest, leaves, EveryLeaf, reached}
use Rattle.gametree_theory.proofs.Alphabeta.WorstCase.{Blocks, blocks_more, blocks_at, blocks-once, blocks-all}
use Rattle.gametree_theory.proofs.Alphabeta.WorstCase.{all-reached}
use Rattle.gametree_theory.proofs.Minimax.Counts.{leaves-size}
use Rattle.table.specs.{frame_size, max_nodes, frames, byte_of, child_count, value_bytes, stored_score, depth_of, tree}
use Rattle.table.specs.{valuation, WellFormed, SameShape, AgreeOn, Accepted, Leaf}
use Rattle.table.proofs.Acceptance.{accepted-stated, accepted-formed}
use Rattle.table.proofs.Leaves.{leaf-listed}
use Rattle.table.proofs.Nodes.{in_tree, tree-distinct}
use Rattle.table.proofs.OtherValues.{same-accepted}
use Rattle.table.proofs.Proper.{every-leaf}
use Rattle.table.proofs.Shapes.{same_count, same-tree}
use Rattle.table.proofs.Totals.{tree-size}
use Rattle.table.proofs.Trees.{zero-or-suc}
use Rattle.table.proofs.Worth.{score-other}
use Rattle.worst_fill.specs.{ranked, worst_fill}
use Rattle.worst_fill.proofs.Ranks.{Off, off-other, ranked-length, ranked-other, ranked-alike, ranked-same}
use Rattle.worst_fill.proofs.Blocks.{ranked-blocks}
use Rattle.worst_fill.proofs.Kept.{Kept, ranked-kept, ranked-front}

module _ (t : List ℕ) (a : Accepted t) where
  formed : WellFormed t
  formed = accepted-formed t a

  -- every leaf is a node without children
  leaves-inside : EveryLeaf (λ n. n < frames t) (tree t)
  leaves-inside = every-leaf t formed (λ n. n < frames t) (λ i h _. h) 0 formed.non_empty

  -- there are at most 4,096
  pub leaves-few : length (leaves (tree t)) ≤ max_nodes
  leaves-few = omega (arith, leaves-size (tree t), tree-size t formed, formed.at_most)

  pub worst-kept : Kept t (worst_fill t)
  unfolding worst_fill
  worst-kept = ranked-kept 0 (tree t) t formed leaves-inside (omega (arith, leaves-few))

  -- bytes 0 to 3 stay
  pub worst-front : (i k : ℕ) → k < 4 → byte_of (worst_fill t) i k ≡ byte_of t i k
  unfolding worst_fill
  worst-front i k h = ranked-front 0 (tree t) t i k h

  -- and all bytes of inner nodes
  pub worst-inner : (i k : ℕ) → k < frame_size → 0 < child_count t i → byte_of (worst_fill t) i k ≡ byte_of t i k
  unfolding worst_fill
  worst-inner i k h c =
      ranked-other 0 (tree t) t (frame_size * i + k)
      (every-leaf t formed (Off (frame_size * i + k))
      (λ n _ z. off-other i k n h (λ e. omega (arith, rw e at c))) 0 formed.non_empty)

  -- the ranks stand in blocks
  pub worst-blocks : Blocks (value_bytes (worst_fill t)) 0 (tree t)
  unfolding worst_fill
  worst-blocks =
      ranked-blocks (frames t) 0 (tree t) t (omega arith) leaves-inside (tree-distinct t formed 0 formed.non_empty)

  -- a leaf is listed among the leaves
  pub listed : {x : ℕ} → Leaf t x → among (leaves (tree t)) x ≡ true
  listed {x} l =
      leaf-listed t formed 0 formed.non_empty x (in_tree t formed x l.inside) l.childless

  -- each rank is below the number of leaves
  pub rank_below : {x : ℕ} → Leaf t x → value_bytes (worst_fill t) x < length (leaves (tree t))
  rank_below {x} l = omega (arith, blocks_at (value_bytes (worst_fill t)) 0 (tree t) worst-blocks x (listed l))

  -- no two leaves have one rank
  pub rank-once : {x y : ℕ} → Leaf t x → Leaf t y → value_bytes (worst_fill t) x ≡ value_bytes (worst_fill t) y → x ≡ y
  rank-once {x} {y} l m e =
      blocks-once (value_bytes (worst_fill t)) 0 (tree t) worst-blocks x y (listed l) (listed m) e

  -- each number below that of the leaves is a rank
  pub rank-every : (r : ℕ) → r < length (leaves (tree t)) → (x : ℕ) × Leaf t x × (value_bytes (worst_fill t) x ≡ r)
  rank-every r h =
      blocks-all (Leaf t) (value_bytes (worst_fill t)) 0 (tree t)
      (every-leaf t formed (Leaf t) (λ i l z. record { inside = l; childless = z }) 0 formed.non_empty) worst-blocks r
      (omega arith) (omega arith)

  -- a leaf's score is that of its rank
  pub rank-score : {x : ℕ} → Leaf t x → valuation (worst_fill t) x ≡ value_bytes (worst_fill t) x + zero_score
  unfolding valuation
  rank-score {x} l =
      let h = rank_below l in
      let s : stored_score (worst_fill t) x ≡ value_bytes (worst_fill t) x + zero_score = omega (arith, leaves-few) in
      score-other (depth_of (worst_fill t) x) (stored_score (worst_fill t) x) (omega (arith, leaves-few)) (omega arith)
      ∙ s

  -- the filled table is accepted
  pub worst-accepted : Accepted (worst_fill t)
  worst-accepted =
      let k = worst-kept in
      let n = k.shape.same_frames in
      same-accepted t (worst_fill t) k.shape a
      (λ i h z. k.formed.scored i (omega arith) (worst-front i 2 (omega arith) ∙ z))
      (λ i h c.
      let p = worst-inner i 4 (omega arith) c in
      let q = worst-inner i 5 (omega arith) c in
      omega (arith, ((accepted-stated t a).frame i h).inner_value c))
      k.long

  -- its tree is that of the table
  pub worst-tree : tree (worst_fill t) ≡ tree t
  worst-tree = sym (same-tree t (worst_fill t) worst-kept.shape formed worst-kept.formed)

  -- alpha-beta reaches every leaf
  pub worst-reached : reached (valuation (worst_fill t)) least greatest (tree (worst_fill t)) ≡ leaves (tree t)
  worst-reached =
      rw worst-tree
      (all-reached (valuation (worst_fill t)) (0 + zero_score) least greatest (tree t)
      (blocks_more (value_bytes (worst_fill t)) (valuation (worst_fill t)) zero_score 0 (tree t)
      (every-leaf t formed (λ n. valuation (worst_fill t) n ≡ value_bytes (worst_fill t) n + zero_score)
      (λ i l z. rank-score (record { inside = l; childless = z })) 0 formed.non_empty)
      worst-blocks)
      (omega arith) (omega (arith, leaves-few)))

-- two accepted tables of one shape become one table
module _ (t u : List ℕ) (a : Accepted t) (b : Accepted u) (s : SameShape t u) where
  same_length : length t ≡ length u
  same_length = omega (arith, (accepted-stated t a).whole, (accepted-stated u b).whole, s.same_frames)

  -- a byte that is alike in both, or is part of a leaf's value
  same_byte : (i k : ℕ) → i < frames t → k < frame_size
      → byte_of (ranked 0 (tree t) t) i k ≡ byte_of (ranked 0 (tree t) u) i k
  same_byte i k h l =
      elim (dec_lt k 4) [
        | yes f ↦ alike (s.same_bytes i k h f)
        | no f ↦ zero-or-suc (child_count t i) (λ z. value (omega arith) (same-leaf z)) (λ n c.
            let x = ((accepted-stated t a).frame i h).inner_value (omega arith) in
            let y = ((accepted-stated u b).frame i (omega (arith, s.same_frames))).inner_value
            (omega (arith, same_count t u s i h)) in
            alike (value {v = t} {w = u} (omega arith) (record { same_high = omega arith; same_low = omega arith })))
      ]
    where
      alike : byte_of t i k ≡ byte_of u i k → byte_of (ranked 0 (tree t) t) i k ≡ byte_of (ranked 0 (tree t) u) i k
      alike e = ranked-alike 0 (tree t) t u same_length (frame_size * i + k) e

      same-leaf : child_count t i ≡ 0 → AgreeOn (ranked 0 (tree t) t) (ranked 0 (tree t) u) i
      same-leaf z =
          all-at _ (leaves (tree t))
          (ranked-same (frames t) 0 (tree t) t u same_length (omega arith) (leaves-inside t a)) i
          (listed t a (record { inside = h; childless = z }))

      value : {v w : List ℕ} → 4 ≤ k → AgreeOn v w i → byte_of v i k ≡ byte_of w i k
      value {v} {w} m e =
          elim (ℕ_discrete k 4) [
            | yes q ↦ rw q e.same_high
            | no q ↦ (let q : k ≡ 5 = omega arith in rw q e.same_low)
          ]

  pub same-worst : worst_fill t ≡ worst_fill u
  unfolding worst_fill
  same-worst =
      rw (← same-tree t u s (accepted-formed t a) (accepted-formed u b))
      (ext_get_or 0 (ranked 0 (tree t) t) (ranked 0 (tree t) u)
      (ranked-length 0 (tree t) t ∙ same_length ∙ sym (ranked-length 0 (tree t) u)) (λ p h.
      let q : frame_size * (p / frame_size) + p % frame_size ≡ p = omega arith in
      subst (λ j. get_or (ranked 0 (tree t) t) j 0 ≡ get_or (ranked 0 (tree t) u) j 0) q
      (same_byte (p / frame_size) (p % frame_size)
      (omega (arith, ranked-length 0 (tree t) t, (accepted-stated t a).whole)) (omega arith))))
