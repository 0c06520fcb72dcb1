-- A table of the shape of an accepted one, with values as question 7 wants them, is accepted too.
use Rattle.prelude.proofs.{ℕ, zero, suc, ◌+◌, ◌≤◌, ◌<◌, arith, ◌≡◌, refl, sym, ap, ap₂, ◌∙◌, inl, inr, List, length}
use Rattle.gametree.specs.{Score}
use Rattle.table.specs.{frames, child_count, value_bytes, stored_score, next, WellFormed, SameShape, Accepted}
use Rattle.table.specs.{FrameAsStated}
use Rattle.table.proofs.Acceptance.{accepted-stated, stated-accepted}
use Rattle.table.proofs.Shapes.{same_first, same_count, same-position}

module _ (t u : List ℕ) (s : SameShape t u) where
  same_next : (i : ℕ) → i ≤ frames t → next t i ≡ next u i
  unfolding next
  same_next zero h = refl
  same_next (suc i) h = ap₂ ◌+◌ (same_next i (omega arith)) (same_count t u s i (omega arith))

  same_total : next t (frames t) ≡ frames t → next u (frames u) ≡ frames u
  same_total e = rw (← s.same_frames) (sym (same_next (frames t) (omega arith)) ∙ e)

  -- a table of the shape of a well-formed one, whose leaves have scores in range, is well-formed
  pub same-formed : WellFormed t → ((i : ℕ) → i < frames t → child_count t i ≡ 0 → Score (stored_score u i))
      → WellFormed u
  same-formed wf v =
      let n = s.same_frames in
      record {
        non_empty = omega (arith, wf.non_empty);
        at_most = omega (arith, wf.at_most);
        first = λ i h c.
            let l : i < frames t = omega arith in
            sym (same_first t u s i l) ∙ wf.first i l (omega (arith, same_count t u s i l))
            ∙ same_next i (omega arith);
        later = λ i h c.
            let l : i < frames t = omega arith in
            omega (arith, same_first t u s i l, wf.later i l (omega (arith, same_count t u s i l)));
        total = same_total wf.total;
        scored = λ i h z. let l : i < frames t = omega arith in v i l (same_count t u s i l ∙ z);
      }

  module _ (a : Accepted t) (v : (i : ℕ) → i < frames t → child_count t i ≡ 0 → Score (stored_score u i))
      (z : (i : ℕ) → i < frames t → 0 < child_count t i → value_bytes u i ≡ 0) where
    frame-stated : (i : ℕ) → i < frames t → FrameAsStated u i
    frame-stated i l =
        let f = (accepted-stated t a).frame i l in
        let c = same_count t u s i l in
        let b = s.same_bytes i 3 l (omega arith) in
        record {
          mover = elim f.mover [
            | inl x ↦ inl (sym b ∙ x)
            | inr x ↦ inr (sym b ∙ x.0, x.1, omega (arith, x.2))
          ];
          few_children = omega (arith, f.few_children);
          leaf_first = λ e. sym (same_first t u s i l) ∙ f.leaf_first (c ∙ e);
          leaf_value = λ e. v i l (c ∙ e);
          inner_first = λ e. sym (same_first t u s i l) ∙ f.inner_first (omega arith) ∙ same_next i (omega arith);
          inner_later = λ e. omega (arith, same_first t u s i l, f.inner_later (omega arith));
          inner_value = λ e. z i l (omega arith);
        }

    pub same-accepted : length u ≡ length t → Accepted u
    same-accepted e =
        let w = accepted-stated t a in
        let n = s.same_frames in
        stated-accepted u
        (record {
          whole = omega (arith, w.whole);
          non_empty = omega (arith, w.non_empty);
          most = omega (arith, w.most);
          frame = λ i h. frame-stated i (omega arith);
          total = same_total w.total;
          shallow = λ i h.
              let l : i < frames t = omega arith in
              omega (arith, w.shallow i l, ap (λ p. p.depth) (same-position t u s i l));
        })
