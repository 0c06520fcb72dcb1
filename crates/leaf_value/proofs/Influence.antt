-- What the named leaf held before has no influence: two tables that differ in bytes 4 and 5 of that node alone.
use Rattle.prelude.proofs.{ℕ, ◌<◌, arith, dec_lt, ℕ_discrete, ◌≡◌, refl, sym, ap, ap₂, ◌∙◌, Bool, true, false, List}
use Rattle.prelude.proofs.{Err}
use Rattle.prelude.proofs.{eqb}
use Rattle.prelude.proofs.{ℤ, lt-ltb, le-ltb, eq-eqb, ne_eqb}
use Rattle.gametree.specs.{minimax, substituted}
use Rattle.gametree_theory.proofs.Minimax.Grafts.{minimax-same}
use Rattle.table.specs.{is_leaf, frames, stored_score, depth_of, tree, valuation, leaf_score, value_of, score_of}
use Rattle.table.specs.{WellFormed}
use Rattle.table.specs.{unless}
use Rattle.table.specs.{Accepted, Leaf}
use Rattle.table.proofs.Acceptance.{accepted-formed}
use Rattle.table.proofs.Proper.{every-leaf}
use Rattle.table.proofs.Shapes.{same-position, same-score, same-tree}
use Rattle.leaf_value.specs.{check20, root_score, smallest, answer_for, least_value, first_score, score_count}
use Rattle.leaf_value.specs.{root_value, SameBut, held_value}
use Rattle.leaf_value.proofs.First.{first-same}
use Rattle.table.proofs.Values.{score-back}
use Rattle.leaf_value.proofs.Bounds.{leaf-is}
use Rattle.leaf_value.proofs.Questions.{due, no-leaf, table-accepted}

-- two tables that differ in bytes 4 and 5 of one node alone
module _ (t u : List ℕ) (k : ℕ) (d : SameBut t u k) (a : Accepted t) (b : Accepted u) where
  wt : WellFormed t
  wt = accepted-formed t a

  wu : WellFormed u
  wu = accepted-formed u b

  -- the root has the same score where the node holds the same
  pub same-root : k < frames t → (s : ℕ) → root_score t k s ≡ root_score u k s
  unfolding root_score
  same-root h s =
      let x = leaf_score (depth_of t k) s in
      minimax-same (substituted (valuation t) k x) (substituted (valuation u) k x) (tree t)
      (every-leaf t wt _ (λ i l c.
      elim (ℕ_discrete i k) [
        | yes z ↦ rw (eq-eqb i k z)
        | no z ↦ rw (ne_eqb i k z) (same-score t u d.shape i l (d.others i l z))
      ]) 0 wt.non_empty)
      ∙ ap₂ (λ e T. minimax (substituted (valuation u) k (leaf_score e s)) T)
      (ap (λ p. p.depth) (same-position t u d.shape k h)) (same-tree t u d.shape wt wu)

  -- it is the value of the table that holds it
  pub root-held : k < frames t → minimax (valuation u) (tree u) ≡ root_score t k (stored_score u k)
  unfolding root_score valuation
  root-held h =
      minimax-same (valuation u) (substituted (valuation u) k (valuation u k)) (tree u)
      (every-leaf u wu _ (λ i l c.
      elim (ℕ_discrete i k) [
        | yes z ↦ rw (eq-eqb i k z, z)
        | no z ↦ rw (ne_eqb i k z)
      ]) 0 wu.non_empty)
      ∙ sym (same-root h (stored_score u k))

  pub value-held : Leaf t k → value_of (minimax (valuation u) (tree u)) ≡ root_value t k (held_value u k)
  value-held l =
      let n = d.shape.same_frames in
      let c = d.shape.same_bytes k 2 l.inside (omega arith) in
      let i = wu.scored k (omega (arith, l.inside)) (sym c ∙ l.childless) in
      ap value_of (root-held l.inside ∙ ap (root_score t k) (sym (score-back (stored_score u k))))

  -- both are leaves, or neither
  same_test : is_leaf t k ≡ is_leaf u k
  same_test =
      elim (dec_lt k (frames t)) [
        | yes h ↦ rw (
          lt-ltb k (frames t) h,
          lt-ltb k (frames u) (omega (arith, d.shape.same_frames)),
          d.shape.same_bytes k 2 h (omega arith),
        )
        | no h ↦ rw (le-ltb k (frames t) (omega arith), le-ltb k (frames u) (omega (arith, d.shape.same_frames)))
      ]

  -- so the answer is the same
  pub same_answer : (w : ℤ) → least_value t k w ≡ least_value u k w
  unfolding smallest
  same_answer w =
      table-accepted t k w a ∙ by (is_leaf t k) refl ∙ sym (table-accepted u k w b)
    where
      by : (c : Bool) → is_leaf t k ≡ c → due t k w ≡ due u k w
      by true e =
          rw (e, sym same_test ∙ e)
          (ap (λ o. unless (check20 w) Err (answer_for k o)) (first-same _ _ first_score score_count (λ s p q.
          ap (λ r. eqb r (score_of w)) (same-root (leaf-is t k e).0 s))))
      by false e = no-leaf t k w e ∙ sym (no-leaf u k w (sym same_test ∙ e))
