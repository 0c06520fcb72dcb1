-- The root of a table with cleared marks may be searched, and with a node each of its children whose tree has no mark.
use Rattle.prelude.proofs.{ℕ, ◌≤◌, arith, ◌≡◌, sym, ap, ◌∙◌, List, length}
use Rattle.gametree.specs.declared.Position.{Position}
use Rattle.table.specs.{max_nodes, frames, root_position, child_position, depth_of, tree_at, WellFormed, ChildOf}
use Rattle.table.proofs.Next.{child-within}
use Rattle.table.proofs.Nodes.{tree-range}
use Rattle.table.proofs.Positions.{depth-at-most, position-root, position-child}
use Rattle.table_positions.specs.{written}
use Rattle.certificate_write.specs.{Unmarked, Searchable}
use Rattle.certificate_bounds.proofs.Marking.{cleared-unmarked}

-- the root, after the marks e have been cleared to e₁
pub searchable-root : (t : List ℕ) → WellFormed t → (e e₁ : List ℕ) (n : ℕ) → e₁ ≡ written (λ k. 0) n e → n ≡ frames t
    → frames t ≤ length e₁ → Searchable t e₁ 0 root_position
searchable-root t wf e e₁ n h q l =
    record {
      formed = wf;
      inside = wf.non_empty;
      positioned = sym (position-root t);
      marks = l;
      unmarked = λ k i. cleared-unmarked n e h k (omega (arith, q, tree-range t wf 0 wf.non_empty k i));
    }

module _ (t e : List ℕ) (i : ℕ) (p : Position) (r : Searchable t e i p) where
  -- the depth of the place is the node's own, and small
  pub searchable-depth : (p.depth ≡ depth_of t i) × (p.depth ≤ max_nodes)
  searchable-depth =
      let d = ap (λ x. x.depth) r.positioned in
      (d, omega (arith, d, depth-at-most t i, r.inside, r.formed.at_most))

  -- each child of the node, at its place
  pub searchable-child : (k : ℕ) (e' : List ℕ) (q : Position) → ChildOf t i k → length e' ≡ length e
      → Unmarked e' (tree_at t k) → q ≡ child_position t k p → Searchable t e' k q
  searchable-child k e' q c l u h =
      record {
        formed = r.formed;
        inside = child-within t r.formed r.inside c;
        positioned = h ∙ ap (λ x. child_position t k x) r.positioned
            ∙ sym (position-child t r.formed r.inside c);
        marks = omega (arith, r.marks);
        unmarked = u;
      }
