-- The leaves of a table's tree are its nodes without children: each is in the list, and no other node.
use Rattle.prelude.proofs.{ℕ, ◌<◌, arith, ◌≡◌, sym, ◌∙◌, List, eqb, eq-eqb, ne_eqb}
use Rattle.lists.specs.{among}
use Rattle.lists.proofs.Choice.{is_false}
use Rattle.lists.proofs.Lists.{all-at}
use Rattle.gametree_theory.proofs.Theorems.{all-deciding}
use Rattle.table.specs.{frames, child_count, tree, valuation, WellFormed}
use Rattle.table.proofs.Leaves.{leaf-listed}
use Rattle.table.proofs.Nodes.{in_tree}
use Rattle.table.proofs.Proper.{tree-proper}
use Rattle.table.proofs.Trees.{zero-or-suc}
use Rattle.certificate_write.proofs.Marks.{evaluated-hold}
use Rattle.plain.specs.{all_leaves}

module _ (t : List ℕ) (wf : WellFormed t) where
  -- a node is in the list exactly if it has no children
  pub leaves-are : (k : ℕ) → k < frames t → among (all_leaves t) k ≡ eqb (child_count t k) 0
  leaves-are k h =
      zero-or-suc (child_count t k) (λ e.
      leaf-listed t wf 0 wf.non_empty k (in_tree t wf k h) e ∙ sym (eq-eqb (child_count t k) 0 e)) (λ n e.
      is_false (among (all_leaves t) k) (λ x.
      omega (
        arith,
        all-at (λ i. child_count t i ≡ 0) (all_leaves t) (evaluated-hold t wf (λ i. child_count t i ≡ 0)
            (λ i _ z. z) (all-deciding (valuation t) (tree t) (tree-proper t wf))) k x,
      ))
      ∙ sym (ne_eqb (child_count t k) 0 (λ z. omega arith)))
