-- The steps of a whole search: Max's turn at the root gives the minimax value, and its marks are those of all leaves.
use Rattle.prelude.proofs.{ℕ, ◌≤◌, arith, ◌≡◌, ap, ◌∙◌, List, [], ◌∷◌, length, ℤ, Ok}
use Rattle.gametree.specs.declared.Side.TheVariants.{Max}
use Rattle.gametree.specs.{greatest, minimax, bound_move, flag}
use Rattle.gametree_theory.proofs.Theorems.{value-score, all-deciding}
use Rattle.table.specs.{max_depth, frames, tree, valuation, value_of, Accepted}
use Rattle.table.proofs.Asked.{answer-nodes}
use Rattle.table.proofs.Acceptance.{accepted-stated, accepted-formed}
use Rattle.table.proofs.Proper.{tree-proper}
use Rattle.table_positions.specs.{written}
use Rattle.certificate_bounds.specs.{marked, mark_all}
use Rattle.certificate_write.specs.{search_rejection, marks_of, flags_of}
use Rattle.certificate_write.proofs.Questions.{passed-room, asked}
use Rattle.certificate_write.proofs.Outcomes.{search-concludes}
use Rattle.certificate_write.proofs.Searchable.{searchable-root}
use Rattle.plain.specs.{all_leaves, plain_found, Ready}

-- with nodes for an answer to the questions the search may be run
pub may-run : (t : List ℕ) (e c n : ℕ) → Ok n ≡ asked t (e ∷ c ∷ [])
    → Accepted t × ((frames t ≤ e) × (frames t ≤ c))
may-run t e c n h =
    let p = passed-room t (e ∷ c ∷ []) (answer-nodes (frames t) n (search_rejection t (e ∷ c ∷ [])) h).0 in
    (p.0, (p.1.0, p.1.1.0))

module _ (t : List ℕ) (a : Accepted t) where
  -- after the clearing it is Max's turn at the root
  pub root-ready : (e e₁ : List ℕ) (n left : ℕ) → e₁ ≡ written (λ k. 0) n e → n ≡ frames t → frames t ≤ length e₁
      → left ≡ max_depth → Ready t e₁ Max 0 left
  root-ready e e₁ n left h q l m =
      record {
        searchable = rw m (searchable-root t (accepted-formed t a) e e₁ n h q l);
        remaining = omega arith;
        shallow = (accepted-stated t a).shallow;
      }

  -- the minimax value is small
  pub score-small : (v : ℕ) → v ≡ minimax (valuation t) (tree t) → v ≤ greatest
  score-small v e =
      omega (arith, e, value-score (valuation t) (tree t) (tree-proper t (accepted-formed t a)).scored)

  -- the steps together: e is cleared to e₁ and marked to e₂, and c₂, m and v follow from that
  pub run-gives : (e e₁ e₂ e₃ c c₂ : List ℕ) (r m : ℕ) (v : ℤ)
      → e₁ ≡ written (λ k. 0) (frames t) e
      → r ≡ minimax (valuation t) (tree t)
      → e₂ ≡ mark_all e₁ (all_leaves t)
      → m ≡ bound_move (valuation t) (marked e₂) (tree t)
      → c₂ ≡ written (flag (valuation t) (marked e₂) (tree t)) (frames t) c
      → e₃ ≡ e₂
      → v ≡ value_of r
      → (record { value = v; root_move = m } ≡ plain_found t)
      × ((e₃ ≡ marks_of (all_leaves t) t e) × (c₂ ≡ flags_of (all_leaves t) t c))
  run-gives e e₁ e₂ e₃ c c₂ r m v cleared score marks move flags kept value =
      let wf = accepted-formed t a in
      let b =
      search-concludes t wf (all_leaves t) (all-deciding (valuation t) (tree t) (tree-proper t wf)) e e₁ e₂ e₃ c c₂ m
      cleared marks move flags kept in
      let d : v ≡ value_of (minimax (valuation t) (tree t)) = value ∙ ap value_of score in
      let n = b.0 in
      (cc, b.1)
