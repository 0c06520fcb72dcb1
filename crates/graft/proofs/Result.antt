-- The tree of the result, numbered by its sources, is the grafted tree; so its value is that of the first tree with the
-- leaf's score replaced by the second tree's value, depths counted in the result.
use Rattle.prelude.proofs.{ℕ, ◌+◌, ◌<◌, arith, ◌≡◌, sym, ap, ap₂, ◌∙◌, List, ◌++◌, get_or}
use Rattle.gametree.specs.{minimax, relabelled, substituted}
use Rattle.gametree_theory.proofs.Minimax.Grafts.{graft-value, relabelled-value, minimax-same}
use Rattle.table.specs.{frames, first_child, child_count, stored_score, depth_of, side_of, node, tree_at, tree}
use Rattle.table.specs.{valuation}
use Rattle.table.specs.{leaf_score}
use Rattle.table.proofs.Parents.{bottom-up}
use Rattle.table.proofs.Trees.{tree-node}
use Rattle.table.proofs.Proper.{every-leaf}
use Rattle.graft_questions.specs.{graft_size}
use Rattle.graft.specs.{root_for, sources, graft_table, graft_tree, valuation_from, graft_value}
use Rattle.graft.proofs.Nodes.{node-shifted, relabelled-node}
use Rattle.graft.proofs.Joined.{joined-first, joined-second}
use Rattle.graft.proofs.Sources.{Fitting, first-stated, first-formed, second-formed, tree_of, position_at, first_in}
use Rattle.graft.proofs.Sources.{source-tree, root-tree, position_first, position-second}
use Rattle.graft.proofs.Laid.{result-frames, result-formed, result-source, result_count, result-carried}
use Rattle.graft.proofs.Laid.{result-child, result-root, result-position}

module _ (t : List ℕ) (k : ℕ) (u : List ℕ) (g : Fitting t k u) where
  abbrev R : List ℕ
  R = graft_table t k u

  abbrev S : ℕ → ℕ
  S i = get_or (sources t k u) i 0

  -- the tree at each node, numbered by sources, is that of its source
  result-tree-at : (i : ℕ) → i < frames R → relabelled S (tree_at R i) ≡ tree_of t k u (S i)
  result-tree-at =
      bottom-up R (result-formed t k u g) (λ i. relabelled S (tree_at R i) ≡ tree_of t k u (S i)) (λ i h f.
      let n : i < graft_size t u = omega (arith, result-frames t k u) in
      ap (relabelled S) (tree-node R (result-formed t k u g) i h)
      ∙ relabelled-node S i (side_of R i) (tree_at R) (first_child R i) (child_count R i)
      ∙ node-shifted (side_of R i) (λ c. relabelled S (tree_at R c)) (λ c. tree_of t k u (root_for t k c)) (S i)
      (first_child R i)
      (first_in t k u (S i)) (child_count R i)
      (λ m l. f (first_child R i + m) (record { from = omega arith; to = omega arith })
      ∙ ap (tree_of t k u) (result-child t k u g i m n l))
      ∙ ap₂ (λ s c. node (S i) s (λ c. tree_of t k u (root_for t k c)) (first_in t k u (S i)) c)
      (ap (λ p. p.side) (result-position t k u g i h)) (result_count t k u g i n)
      ∙ sym (source-tree t k u g (S i) (result-source t k u g i n)))

  -- the result's tree, numbered by sources, is the first tree with the second in the place of the leaf
  pub result-tree : relabelled S (tree R) ≡ graft_tree t k u
  result-tree =
      result-tree-at 0 (result-formed t k u g).non_empty ∙ ap (tree_of t k u) (result-root t k u g) ∙ root-tree t k u g

  -- the score of each source
  abbrev ν : ℕ → ℕ
  ν s = leaf_score (position_at t k u s).depth (stored_score (t ++ u) s)

  result-score : (i : ℕ) → i < frames R → valuation R i ≡ ν (S i)
  unfolding valuation
  result-score i h =
      let n : i < graft_size t u = omega (arith, result-frames t k u) in
      let e : stored_score R i ≡ stored_score (t ++ u) (S i) =
      rw (
        result-carried t k u g i 4 n (omega arith) (omega arith),
        result-carried t k u g i 5 n (omega arith) (omega arith),
      ) in
      ap₂ leaf_score (ap (λ p. p.depth) (result-position t k u g i h)) e

  first-score : (i : ℕ) → i < frames t → ν i ≡ valuation t i
  unfolding valuation
  first-score i h =
      let e : stored_score (t ++ u) i ≡ stored_score t i =
      rw (
        joined-first t u (first-stated t k u g).whole i 4 h (omega arith),
        joined-first t u (first-stated t k u g).whole i 5 h
            (omega arith),
      ) in
      ap₂ leaf_score (ap (λ p. p.depth) (position_first t k u g i h)) e

  second-score : (v : ℕ) → ν (frames t + v) ≡ valuation_from (depth_of t k) u v
  unfolding valuation_from
  second-score v =
      let e : stored_score (t ++ u) (frames t + v) ≡ stored_score u v =
      rw (joined-second t u (first-stated t k u g).whole v 4, joined-second t u (first-stated t k u g).whole v 5) in
      ap₂ leaf_score (ap (λ p. p.depth) (position-second t k u g v)) e

  -- the result's value is that of the first tree with the leaf's score replaced
  pub result_value : minimax (valuation R) (tree R) ≡ graft_value t k u
  result_value =
      let wr = result-formed t k u g in
      let wt = first-formed t k u g in
      let wu = second-formed t k u g in
      let v = relabelled-value ν (λ v. frames t + v) (tree u)
      ∙ minimax-same _ (valuation_from (depth_of t k) u) (tree u)
      (every-leaf u wu _ (λ i h e. second-score i) 0 wu.non_empty) in
      minimax-same (valuation R) (λ i. ν (S i)) (tree R)
      (every-leaf R wr _ (λ i h e. result-score i h) 0 wr.non_empty)
      ∙ sym (relabelled-value ν S (tree R)) ∙ ap (minimax ν) result-tree
      ∙ graft-value ν k (relabelled (λ v. frames t + v) (tree u)) (tree t)
      ∙ ap (λ x. minimax (substituted ν k x) (tree t)) v
      ∙ minimax-same _ _ (tree t)
      (every-leaf t wt (λ n. substituted ν k _ n ≡ substituted (valuation t) k _ n)
      (λ i h e. rw (first-score i h)) 0 wt.non_empty)
