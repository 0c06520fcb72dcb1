-- The flags that a search writes are a certificate of the minimax value, for every list of leaves that decides the
-- tree.
use Rattle.prelude.proofs.{ℕ, ◌+◌, ◌≤◌, ◌<◌, arith, ◌≡◌, ap, ◌∙◌, Bool, true, false, cond, List, length, get_or}
use Rattle.lists.specs.{among}
use Rattle.gametree.specs.declared.Side.{Side}
use Rattle.gametree.specs.declared.Side.TheVariants.{Max, Min}
use Rattle.gametree.specs.{minimax, other, known, worst, inside, flag, solution_of}
use Rattle.gametree_theory.proofs.Searches.{Deciding}
use Rattle.gametree_theory.proofs.Certificates.ReadOff.{ReadOff, fits}
use Rattle.gametree_theory.proofs.Certificates.Flags.{flag-inside, read-bounds}
use Rattle.table.specs.{frames, tree, valuation, WellFormed, Accepted}
use Rattle.table.proofs.Acceptance.{accepted-formed}
use Rattle.table.proofs.Nodes.{tree-range}
use Rattle.table.proofs.Proper.{tree-proper}
use Rattle.table_positions.proofs.Buffers.{written_at, written-length}
use Rattle.certificate_write.specs.{flags_of}
use Rattle.certificate_check.specs.{member}
use Rattle.certificate_check.specs.Certificate.{Certificate}

-- a flag is at most 3
two-bits : (x y : Bool) → cond x 1 0 + cond y 2 0 ≤ 3
two-bits true true = omega arith
two-bits true false = omega arith
two-bits false true = omega arith
two-bits false false = omega arith

module _ (t : List ℕ) (accepted : Accepted t) (w : List ℕ) (d : Deciding (valuation t) (tree t) w) (c : List ℕ)
    (room : frames t ≤ length c) where
  formed : WellFormed t
  formed = accepted-formed t accepted

  pub flags-at : (k : ℕ) → k < frames t → get_or (flags_of w t c) k 0 ≡ flag (valuation t) (among w) (tree t) k
  flags-at k h = written_at (flag (valuation t) (among w) (tree t)) (frames t) k c h

  pub reads : (p : Side)
      → ReadOff p (known (valuation t) (among w) (worst (other p))) (member p (flags_of w t c)) true (tree t)
  reads p =
      fits p _ (member p (flags_of w t c)) (tree t) (tree-proper t formed).distinct (λ k i.
      ap (inside p) (flags-at k (tree-range t formed 0 formed.non_empty k i).1)
      ∙ flag-inside p (valuation t) (among w) (tree t) k)

  pub written-certificate : Certificate t (flags_of w t c) (minimax (valuation t) (tree t))
  written-certificate =
      let f = flag (valuation t) (among w) (tree t) in
      let x = read-bounds Max (valuation t) (among w) (tree t) (tree-proper t formed) d.decided _ (reads Max) in
      let y = read-bounds Min (valuation t) (among w) (tree t) (tree-proper t formed) d.decided _ (reads Min) in
      record {
        accepted = accepted;
        enough = omega (arith, room, written-length f (frames t) c room);
        in_range = λ i l.
            omega (
              arith,
              flags-at i l,
              two-bits (solution_of Max (valuation t) (among w) (tree t) i)
                  (solution_of Min (valuation t) (among w) (tree t) i),
            );
        certifies = record { max_tree = x.0; min_tree = y.0; max_value = x.1; min_value = y.1 };
      }
