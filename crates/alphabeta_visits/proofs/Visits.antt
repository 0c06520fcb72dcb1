-- What a visit of a node asks and hands back: at a leaf, and at the head of the loop over an inner node's children.
use Rattle.prelude.proofs.{ℕ, suc, ◌+◌, ◌-◌, ◌≤◌, ◌<◌, arith, ◌≡◌, refl, sym, ap, ◌∙◌, List, [], ◌∷◌}
use Rattle.prelude.proofs.{length, length-sets, true, false, leb, leb-true, leb-false}
use Rattle.gametree.specs.declared.Position.{Position}
use Rattle.gametree.specs.{clamp, alpha_beta, raise, lower}
use Rattle.table.specs.{frames, first_child, child_count, child_position, tree_at, valuation, ChildOf}
use Rattle.table.proofs.Nodes.{in-own}
use Rattle.table.proofs.Trees.{tree-leaf, tree-inner}
use Rattle.certificate_bounds.specs.declared.Evaluations.{Evaluations}
use Rattle.certificate_bounds.specs.{ones, mark_all, Evaluable, evaluate_all, Listable, progress_of, SameBuffers}
use Rattle.certificate_bounds.proofs.Listing.{next-counted}
use Rattle.certificate_bounds.proofs.Marking.{mark_all-length}
use Rattle.certificate_write.specs.{Searchable}
use Rattle.certificate_write.proofs.Searchable.{searchable-depth, searchable-child}
use Rattle.certificate_write.proofs.Unmarked.{Unvisited, all-wait}
use Rattle.alphabeta_visits.specs.declared.Window.{Window}
use Rattle.alphabeta_visits.proofs.Evaluated.{visit-waits}
use Rattle.alphabeta_visits.proofs.Pass.{Gives, Remainder, remainder-all, rest, pass-ends, pass-stops, pass-goes-on}

-- a visit of node i in the window w makes f of the evaluations e and hands back the score v: what the rule gives, with
-- the count of the marks
pub record Visit (t : List ℕ) (i : ℕ) (w : Window) (e f : Evaluations) (v : ℕ) : Type 0 where
  pub gives : Gives (alpha_beta (valuation t) w.alpha w.beta (tree_at t i)) (progress_of e) (progress_of f) v
  pub counted : f.leaves ≡ ones f.marks.now (frames t)
  pub same_buffers : SameBuffers e f

-- at the head of the loop over the children of node i, up to `end`: child k is next, the window was w₀ and is w, and
-- the evaluations were e₀ and are e
pub record VisitLoop (t : List ℕ) (i : ℕ) (q : Position) (w₀ : Window) (e₀ : Evaluations) (end : ℕ) (e : Evaluations)
    (w : Window) (k : ℕ) : Type 0 where
  pub child : ChildOf t i k
  pub to : k ≤ end
  pub marks_kept : length e.marks.now ≡ length e₀.marks.now
  pub same_buffers : SameBuffers e₀ e
  pub listable : Listable t (progress_of e)
  pub unvisited : Unvisited t e.marks.now i k
  pub remainder : Remainder (alpha_beta (valuation t) w₀.alpha w₀.beta (tree_at t i))
      (rest (valuation t) (tree_at t) q.side w.alpha w.beta k end) (progress_of e₀) (progress_of e)

-- a node without children whose tree is without a mark may be evaluated
pub searchable-leaf : (t e : List ℕ) (i : ℕ) (q : Position) → Searchable t e i q → child_count t i ≡ 0
    → Evaluable t e i q.depth
searchable-leaf t e i q r z =
    record {
      inside = r.inside;
      leaf = z;
      room = omega (arith, r.inside, r.marks);
      unmarked = r.unmarked i (in-own t r.formed i);
      depth = (searchable-depth t e i q r).0;
      shallow = (searchable-depth t e i q r).1;
    }

-- a leaf is evaluated, and its score brought into the window
pub leaf-visit : {t : List ℕ} {i : ℕ} {w : Window} {e f : Evaluations} {q : Position} {v : ℕ}
    → Searchable t e.marks.now i q → Listable t (progress_of e) → child_count t i ≡ 0
    → v ≡ clamp w.alpha w.beta (valuation t i) → progress_of f ≡ evaluate_all (progress_of e) (i ∷ [])
    → SameBuffers e f → Visit t i w e f v
unfolding mark_all
leaf-visit {t} {i} {w} {e} {f} {q} r l z s o b =
    record {
      gives = rw (tree-leaf t r.formed i r.inside z) (s, o);
      counted =
          ap (λ p. p.leaves) o ∙ next-counted t l (searchable-leaf t _ i q r z)
          ∙ ap (λ p. ones p.marks (frames t)) (sym o);
      same_buffers = b;
    }

module _ {t : List ℕ} {i : ℕ} {q : Position} {e₀ : Evaluations} (r : Searchable t e₀.marks.now i q) {w₀ : Window} where
  -- before the first child all is owed
  pub loop-starts : (first end : ℕ) → Listable t (progress_of e₀) → 0 < child_count t i → first ≡ first_child t i
      → end ≡ first + (child_count t i - 1) → VisitLoop t i q w₀ e₀ end e₀ w₀ first
  unfolding rest
  loop-starts first end l c x z =
      let m : child_count t i ≡ suc (end - first) = omega arith in
      record {
        child = record { from = omega arith; to = omega arith };
        to = omega arith;
        marks_kept = refl;
        same_buffers = (refl, refl);
        listable = l;
        unvisited = all-wait t r.formed i r.inside e₀.marks.now first r.unmarked;
        remainder =
            rw (tree-inner t r.formed i (end - first) r.inside m, r.positioned, x)
            (remainder-all _ (progress_of e₀));
      }

  module _ {end : ℕ} {e : Evaluations} {w : Window} {k : ℕ} (h : VisitLoop t i q w₀ e₀ end e w k) where
    -- the tree of the next child is without a mark
    pub child-searchable : (p : Position) → p ≡ child_position t k q → Searchable t e.marks.now k p
    child-searchable p s =
        searchable-child t _ i q r k _ p h.child h.marks_kept (h.unvisited k (omega arith) h.child) s

    module _ {f : Evaluations} {v : ℕ} (d : Visit t k w e f v) where
      -- after the last child the whole is given
      pub loop-ends : k ≡ end → Visit t i w₀ e₀ f v
      loop-ends z =
          record {
            gives = pass-ends _ _ _ _ _ _ _ h.remainder d.gives z;
            counted = d.counted;
            same_buffers = (d.same_buffers.0 ∙ h.same_buffers.0, d.same_buffers.1 ∙ h.same_buffers.1);
          }

      module _ {w' : Window} (n : (w'.alpha ≡ raise q.side w.alpha v) × (w'.beta ≡ lower q.side w.beta v))
          (l : k < end) where
        -- and after a child that closes the window
        pub loop-stops : leb w'.beta w'.alpha ≡ true → Visit t i w₀ e₀ f v
        loop-stops z =
            record {
              gives = pass-stops _ _ _ _ _ _ _ h.remainder d.gives _ _ l n.0 n.1 (leb-true _ _ z);
              counted = d.counted;
              same_buffers = (d.same_buffers.0 ∙ h.same_buffers.0, d.same_buffers.1 ∙ h.same_buffers.1);
            }

        -- after one that leaves it open the next is owed
        pub loop-goes-on : end ≡ first_child t i + (child_count t i - 1) → leb w'.beta w'.alpha ≡ false
            → VisitLoop t i q w₀ e₀ end f w' (k + 1)
        loop-goes-on x z =
            let marks = ap (λ p. p.marks) d.gives.1 in
            record {
              child = record { from = omega (arith, h.child.from); to = omega (arith, h.child.from) };
              to = omega arith;
              marks_kept = ap length marks ∙ mark_all-length _ _ ∙ h.marks_kept;
              same_buffers = (d.same_buffers.0 ∙ h.same_buffers.0, d.same_buffers.1 ∙ h.same_buffers.1);
              listable =
                  record {
                    at_most = h.listable.at_most;
                    room =
                        omega (arith, ap (λ p. length p.order) d.gives.1, length-sets {A = ℕ}, h.listable.room);
                    counted = d.counted;
                  };
              unvisited = visit-waits t r.formed i r.inside _ _ _ _ _ _ h.child h.unvisited marks;
              remainder = pass-goes-on _ _ _ _ _ _ _ h.remainder d.gives _ _ l n.0 n.1 (leb-false _ _ z);
            }
