-- `leaf_value::find` meets its contract: the root's bounds where the leaf alone is unknown give the smallest score.
use Rattle.prelude.proofs.{ℕ, ◌≤◌, ◌<◌, arith, ◌≡◌, ◌∙◌, List, get_or, get_or-replicate, length, length-replicate}
use Rattle.prelude.proofs.{length-set, replicate, set}
use Rattle.certificate_bounds.specs.{marked, bound_of}
use Rattle.gametree.specs.{least, greatest, minimax, substituted}
use Rattle.table.specs.{max_nodes, frames, tree, valuation, WellFormed}
use Rattle.table.proofs.Acceptance.{accepted-formed}
use Rattle.table_positions.specs.{written}
use Rattle.table_positions.proofs.Buffers.{written_at}
use Rattle.table_positions.proofs.Positions.{positioned, positioned-depth}
use Rattle.leaf_value.proofs.Bounds.{leaf-is, leaf-shallow, root-bound, found-smallest}
use Rattle.leaf_value.proofs.find.Goals as goal

-- the array of what is known, of n entries, where the leaf alone is not
module _ (t : List ℕ) (wf : WellFormed t) (n k : ℕ) (h : frames t ≤ n) (l : k < frames t) (e : List ℕ)
    (is : e ≡ set (replicate n 1) k 0) where
  known-room : frames t ≤ length e
  known-room = rw is (simp length-set (omega (arith, length-replicate {A = ℕ} n 1)))

  -- an array of bounds begins with the root's
  root-read : (x : ℕ) (b c : List ℕ) → c ≡ written (bound_of t (marked e) x) (frames t) b
      → get_or c 0 0 ≡ minimax (substituted (valuation t) k x) (tree t)
  root-read x b c i =
      rw i
      (written_at (bound_of t (marked e) x) (frames t) 0 b wf.non_empty
      ∙ rw is
      (root-bound t wf k (replicate n 1) (omega (arith, length-replicate {A = ℕ} n 1))
      (λ j m. get_or-replicate n j 1 0 (omega arith)) x))

pub fill-requires : goal.fill-requires
fill-requires c =
    let formed = accepted-formed _ c.requires.0 in
    record { well_formed = formed; table_in_bounds = formed.at_most }

pub forget-requires : goal.forget-requires
forget-requires c =
    omega (arith, (leaf-is c.args.table.now c.args.leaf c.requires.1).0, (accepted-formed _ c.requires.0).at_most)

pub fill_bounds-requires : goal.fill_bounds-requires
fill_bounds-requires c =
    let formed = accepted-formed _ c.requires.0 in
    record {
      well_formed = (
        formed,
        positioned _ formed _ formed.at_most c.fill.ensures,
        known-room c.args.table.now formed max_nodes c.args.leaf formed.at_most
            (leaf-is c.args.table.now c.args.leaf c.requires.1).0 c.forget.new.known c.forget.ensures,
      );
      table_in_bounds = (formed.at_most, formed.at_most);
    }

pub depth_at-requires : goal.depth_at-requires
depth_at-requires c =
    let formed = accepted-formed _ c.requires.0 in
    let p = positioned _ formed _ formed.at_most c.fill.ensures in
    omega (arith, (leaf-is c.args.table.now c.args.leaf c.requires.1).0, p.room)

pub smallest-requires : goal.smallest-requires
smallest-requires c =
    let formed = accepted-formed _ c.requires.0 in
    let inside = (leaf-is c.args.table.now c.args.leaf c.requires.1).0 in
    let p = positioned _ formed _ formed.at_most c.fill.ensures in
    let d = positioned-depth c.args.table.now _ p c.args.leaf inside in
    let shallow = leaf-shallow c.args.table.now c.requires.0 c.args.leaf inside in
    (omega (arith, c.depth_at.ensures), c.requires.2)

pub returns : goal.returns
returns c =
    let t = c.args.table.now in
    let formed = accepted-formed _ c.requires.0 in
    let inside = (leaf-is t c.args.leaf c.requires.1).0 in
    let p = positioned _ formed _ formed.at_most c.fill.ensures in
    let read = root-read t formed max_nodes c.args.leaf formed.at_most inside c.forget.new.known c.forget.ensures in
    found-smallest t c.requires.0 c.args.leaf inside c.args.wanted c.requires.2 _ _ _ _ c.smallest.ensures
    (read least (replicate max_nodes 0) c.fill_bounds.new.lows c.fill_bounds.ensures.lows_after)
    (read greatest (replicate max_nodes 0) c.fill_bounds.new.highs c.fill_bounds.ensures.highs_after)
    (c.depth_at.ensures ∙ positioned-depth t _ p c.args.leaf inside)
