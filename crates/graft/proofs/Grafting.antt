-- What a call leaves, over the outcome that the contract cites: when it gives a number of nodes, what the table at the
-- buffer's front is then, and what each rejection means.
use Rattle.prelude.proofs.{ℕ, ◌+◌, ◌-◌, ◌*◌, ◌≤◌, ◌<◌, arith, dec_le, ◌≡◌, sym, ap, subst, ◌∙◌, ⊎_elim, none, some}
use Rattle.prelude.proofs.{Ok, Err}
use Rattle.prelude.proofs.{List}
use Rattle.prelude.proofs.{◌++◌, length, get_or, take, drop, take_at, drop_at}
use Rattle.lists.proofs.Choice.{is_false, clash}
use Rattle.gametree.specs.{other, minimax, relabelled}
use Rattle.table.specs.declared.Rejection.{Rejection}
use Rattle.table.specs.{frame_size, max_nodes, max_depth, frames, byte_of, child_count, parent_of, depth_of, side_of}
use Rattle.table.specs.{tree}
use Rattle.table.specs.{valuation, rejection, Accepted, answer}
use Rattle.table.proofs.Asked.{refused, answer-nodes, answer-rejected, answer-of}
use Rattle.table.proofs.Acceptance.{accepted-stated, accepted-formed}
use Rattle.table.proofs.Parents.{parent-child}
use Rattle.table.proofs.Sides.{mover-other}
use Rattle.graft_questions.specs.{graft_size, is_max_leaf, deepest, leaf_rejection, graft_rejection, MaxLeaf}
use Rattle.graft.specs.{sources, graft_table, graft_outcome, graft_tree, graft_value, handed}
use Rattle.graft_questions.specs.Graftable.{Graftable}
use Rattle.graft_questions.proofs.Questions.{max-leaf, leaf-max, refusal, no-leaf, too_many, too-deep, too_short}
use Rattle.graft_questions.proofs.Questions.{all_right, first-refused, second-refused, both-accepted, passed-graftable}
use Rattle.graft_questions.proofs.Questions.{graftable-deepest}
use Rattle.graft_questions.proofs.Heights.{deepest-at, last-deepest}
use Rattle.graft.proofs.Sources.{fitting}
use Rattle.graft.proofs.Laid.{laid-length, result-frames, result-carried}
use Rattle.graft.proofs.Acceptance.{result-accepted}
use Rattle.graft.proofs.Result.{result-tree, result_value}

-- byte 3 of a leaf is zero, so the other side moves there than at its parent
pub leaf-other : (t : List ℕ) (k : ℕ) → Accepted t → 0 < k → k < frames t → child_count t k ≡ 0
    → side_of t k ≡ other (side_of t (parent_of t k))
leaf-other t k a l h e =
    let wf = accepted-formed t a in
    let p = parent-child t wf k l h in
    mover-other t wf p.0 p.1
    (⊎_elim (λ z. z) (λ m. absurd (omega (arith, m.2))) ((accepted-stated t a).frame k h).mover)

-- a number of nodes is no refusal, and a refusal has one number
nodes-apart : (n q p : ℕ) → Ok n ≡ refused q p → ⊥
nodes-apart n q p e = clash (cc)

refused-number : (q q' : ℕ) {p p' : ℕ} → refused q p ≡ refused q' p' → q ≡ q'
refused-number q q' {p} {p'} e = let r : refusal q p ≡ refusal q' p' = cc in ap (λ x. x.number) r

module _ (t : List ℕ) (k : ℕ) (u b : List ℕ) where
  answered : (graft_outcome t k u b).answer ≡ answer (graft_size t u) (graft_rejection t k u (length b))
  answered = answer-of (graft_rejection t k u (length b)) _ _ _ _

  -- what the questions say is what is answered
  rejected-by : (r : Rejection) → graft_rejection t k u (length b) ≡ some r
      → (graft_outcome t k u b).answer ≡ Err r
  rejected-by r e = rw e

  -- a rejection is the first "no", and the buffer is as it was
  pub graft-keeps : (r : Rejection) → (graft_outcome t k u b).answer ≡ Err r
      → (graft_rejection t k u (length b) ≡ some r) × ((graft_outcome t k u b).left ≡ b)
  graft-keeps r e =
      let p = answer-rejected (graft_size t u) r (graft_rejection t k u (length b)) (sym e ∙ answered) in
      (p, rw p)

  -- the tables in turn
  pub graft-first : (r : Rejection) → rejection t ≡ some r → (graft_outcome t k u b).answer ≡ Err r
  graft-first r e = rejected-by r (first-refused t k u (length b) r e)

  pub graft-second : (r : Rejection) → Accepted t → rejection u ≡ some r → (graft_outcome t k u b).answer ≡ Err r
  graft-second r a e = rejected-by r (second-refused t k u (length b) r a e)

  module _ (a : Accepted t) (c : Accepted u) where
    by-leaf : (r : Rejection) → leaf_rejection t k u (length b) ≡ some r → (graft_outcome t k u b).answer ≡ Err r
    by-leaf r e = rejected-by r (both-accepted t k u (length b) a c ∙ e)

    -- 17
    pub graft-no-leaf : (MaxLeaf t k → ⊥) → (graft_outcome t k u b).answer ≡ refused 17 k
    graft-no-leaf n =
        by-leaf (refusal 17 k) (no-leaf t k u (length b) (is_false (is_max_leaf t k) (λ e. n (max-leaf t k e))))

    -- 18: the table of the graft would not be accepted
    pub graft-too-large : MaxLeaf t k → (Accepted (graft_table t k u) → ⊥)
        → (graft_outcome t k u b).answer ≡ refused 18 0
    graft-too-large l n =
        let m = leaf-max t k l in
        by-leaf (refusal 18 0)
        (elim (dec_le (graft_size t u) max_nodes) [
          | yes f ↦ too-deep t k u (length b) m f (deep l n f)
          | no f ↦ too_many t k u (length b) m (omega arith)
        ])
      where
        deep : MaxLeaf t k → (Accepted (graft_table t k u) → ⊥) → graft_size t u ≤ max_nodes
            → max_depth < depth_of t k + deepest u (frames u)
        deep l n f =
            elim (dec_le (depth_of t k + deepest u (frames u)) max_depth) [
              | yes d ↦ absurd (n (result-accepted t k u (record {
                first = a;
                second = c;
                leaf = l;
                at_most = f;
                shallow = λ v h. omega (arith, deepest-at u v (frames u) h);
              })))
              | no d ↦ omega arith
            ]

    -- so 18 is given for a result of few enough nodes only where its last node, the deepest, is too deep
    pub graft-deep : MaxLeaf t k → graft_size t u ≤ max_nodes → (graft_outcome t k u b).answer ≡ refused 18 0
        → max_depth < depth_of t k + depth_of u (frames u - 1)
    graft-deep l f e =
        elim (dec_le (depth_of t k + depth_of u (frames u - 1)) max_depth) [
          | no d ↦ omega arith
          | yes d ↦ absurd (passes d)
        ]
      where
        passes : depth_of t k + depth_of u (frames u - 1) ≤ max_depth → ⊥
        passes d =
            let m = leaf-max t k l in
            let deep : depth_of t k + deepest u (frames u) ≤ max_depth =
            omega (arith, last-deepest u (accepted-formed u c)) in
            let asked = both-accepted t k u (length b) a c in
            elim (dec_le (frame_size * graft_size t u) (length b)) [
              | yes h ↦ nodes-apart _ 18 0
                  (sym (answered ∙ ap (answer (graft_size t u)) (asked ∙ all_right t k u (length b) m f deep h)) ∙ e)
              | no h ↦ omega (
                arith,
                refused-number 10 18
                    (sym (by-leaf (refusal 10 0) (too_short t k u (length b) m f deep (omega arith))) ∙ e),
              )
            ]

  module _ (g : Graftable t k u) where
    -- 10
    pub graft-short : length b < frame_size * graft_size t u → (graft_outcome t k u b).answer ≡ refused 10 0
    graft-short h =
        by-leaf g.first g.second (refusal 10 0)
        (too_short t k u (length b) (leaf-max t k g.leaf) g.at_most (graftable-deepest t k u (length b) g) h)

    -- no "no"
    pub graft-gives : frame_size * graft_size t u ≤ length b → (graft_outcome t k u b).answer ≡ Ok (graft_size t u)
    graft-gives h =
        answered ∙ ap (answer (graft_size t u)) (both-accepted t k u (length b) g.first g.second
        ∙ all_right t k u (length b) (leaf-max t k g.leaf) g.at_most (graftable-deepest t k u (length b) g) h)

  -- a call that gives the number of nodes n
  module _ (n : ℕ) (e : (graft_outcome t k u b).answer ≡ Ok n) where
    passed : (graft_rejection t k u (length b) ≡ none) × (n ≡ graft_size t u)
    passed = answer-nodes (graft_size t u) n (graft_rejection t k u (length b)) (sym e ∙ answered)

    pub given-graftable : Graftable t k u
    given-graftable = (passed-graftable t k u (length b) passed.0).0

    written : (graft_outcome t k u b).left ≡ graft_table t k u ++ drop (frame_size * graft_size t u) b
    written = rw passed.0

    table-length : length (graft_table t k u) ≡ frame_size * n
    table-length = omega (arith, laid-length t k u (graft_size t u), passed.1)

    -- the table at the buffer's front is that of the graft
    handed-is : graft_table t k u ≡ handed t k u b n
    handed-is = sym (ap (take (frame_size * n)) written ∙ take_at (graft_table t k u) _ (frame_size * n) table-length)

    -- the number of nodes is that of both tables without the leaf
    pub grafted-nodes : n + 1 ≡ frames t + frames u
    grafted-nodes = omega (arith, passed.1, (accepted-formed t given-graftable.first).non_empty)

    -- bytes past the result keep their contents
    pub grafted-rest : drop (frame_size * n) (graft_outcome t k u b).left ≡ drop (frame_size * n) b
    grafted-rest =
        ap (drop (frame_size * n)) written ∙ drop_at (graft_table t k u) _ (frame_size * n) table-length
        ∙ ap (λ m. drop (frame_size * m) b) (sym passed.1)

    -- the result is an accepted table of n frames
    pub grafted-accepted : Accepted (handed t k u b n) × (frames (handed t k u b n) ≡ n)
    grafted-accepted =
        subst (λ x. Accepted x × (frames x ≡ n)) handed-is
        (result-accepted t k u given-graftable, result-frames t k u ∙ sym passed.1)

    -- its tree, numbered by sources, is the first with the second in the place of the leaf
    pub grafted-tree : relabelled (λ i. get_or (sources t k u) i 0) (tree (handed t k u b n)) ≡ graft_tree t k u
    grafted-tree =
        subst (λ x. relabelled (λ i. get_or (sources t k u) i 0) (tree x) ≡ graft_tree t k u) handed-is
        (result-tree t k u (fitting given-graftable))

    -- each node has its source's bytes from the third on
    pub grafted-bytes : (i j : ℕ) → i < n → 2 ≤ j → j < frame_size
        → byte_of (handed t k u b n) i j ≡ byte_of (t ++ u) (get_or (sources t k u) i 0) j
    grafted-bytes i j h l m =
        subst (λ x. byte_of x i j ≡ byte_of (t ++ u) (get_or (sources t k u) i 0) j) handed-is
        (result-carried t k u (fitting given-graftable) i j (omega (arith, passed.1)) l m)

    -- its value is the first's with the leaf's score replaced by the second's value, depths counted in the result
    pub grafted-value : minimax (valuation (handed t k u b n)) (tree (handed t k u b n)) ≡ graft_value t k u
    grafted-value =
        subst (λ x. minimax (valuation x) (tree x) ≡ graft_value t k u) handed-is
        (result_value t k u (fitting given-graftable))
