-- The table of a graft, frame by frame: node i has the bytes of its source, and its first child is the next to become
-- known; so each frame is as SPEC 3 states it.
use Rattle.prelude.proofs.{ℕ, zero, suc, ◌+◌, ◌*◌, ◌-◌, ◌≤◌, ◌<◌, arith, dec_lt, ℕ_discrete, ◌≡◌, refl, sym, ap, ◌∙◌}
use Rattle.prelude.proofs.{◌⊎◌, inl, inr, ⊎_elim, List, ◌++◌, length, get_or, length-append, get_or-append}
use Rattle.prelude.proofs.{get_or-append-add}
use Rattle.table.specs.{frame_size, frames, byte_of, first_child, child_count, byte3, next, child_position, position_of}
use Rattle.table.specs.{WellFormed, FrameAsStated}
use Rattle.table.proofs.Next.{child-within}
use Rattle.table.proofs.Parents.{top-down}
use Rattle.table.proofs.Positions.{position-root, position-child}
use Rattle.table.proofs.Acceptance.{stated-formed}
use Rattle.table.proofs.Ranges.{length_up, up_at}
use Rattle.graft_questions.specs.{graft_size}
use Rattle.graft.specs.{root_for, child_sources, breadth_first, known_sources, sources, first_number, source_at}
use Rattle.graft.specs.{frame_at, laid_frames, graft_table}
use Rattle.graft.proofs.Listing.{list-kept, list-child}
use Rattle.graft.proofs.Joined.{source-cases, joined-first, joined-second}
use Rattle.graft.proofs.Sources.{Fitting, Source, position_at, first_in, count_in, source-waits, source-kind}
use Rattle.graft.proofs.Sources.{sources-all, first-stated, second-stated, graft-some, replaced-leaf}
use Rattle.graft.proofs.Sources.{replaced-same, source-position, root-position}

module _ (t : List ℕ) (k : ℕ) (u : List ℕ) where
  frame-length : (i : ℕ) → length (frame_at t k u i) ≡ frame_size
  unfolding frame_at
  frame-length i = refl

  pub laid-length : (i : ℕ) → length (laid_frames t k u i) ≡ frame_size * i
  unfolding laid_frames
  laid-length zero = refl
  laid-length (suc i) =
      omega (arith, length-append (laid_frames t k u i) (frame_at t k u i), laid-length i, frame-length i)

  laid-at : (m i j : ℕ) → i < m → j < frame_size
      → get_or (laid_frames t k u m) (frame_size * i + j) 0 ≡ get_or (frame_at t k u i) j 0
  unfolding laid_frames
  laid-at zero i j h l = absurd (omega arith)
  laid-at (suc m) i j h l =
      elim (dec_lt i m) [
        | yes p ↦ get_or-append (laid_frames t k u m) (frame_at t k u m) 0 (frame_size * i + j)
            (omega (arith, laid-length m))
            ∙ laid-at m i j p l
        | no p ↦ (let q : m ≡ i = omega arith in
            let e : frame_size * i + j ≡ length (laid_frames t k u m) + j = omega (arith, laid-length m) in
            ap (λ x. get_or (laid_frames t k u m ++ frame_at t k u m) x 0) e
            ∙ get_or-append-add (laid_frames t k u m) (frame_at t k u m) j 0
            ∙ ap (λ x. get_or (frame_at t k u x) j 0) q)
      ]

  -- the result has a frame for each node
  pub result-frames : frames (graft_table t k u) ≡ graft_size t u
  result-frames = omega (arith, laid-length (graft_size t u))

  -- its bytes from the third on are the source's
  result-byte : (i j : ℕ) → i < graft_size t u → 2 ≤ j → j < frame_size
      → byte_of (graft_table t k u) i j ≡ byte_of (t ++ u) (source_at t k u i) j
  unfolding frame_at
  result-byte i zero h a b = absurd (omega arith)
  result-byte i (suc zero) h a b = absurd (omega arith)
  result-byte i (suc (suc zero)) h a b = laid-at (graft_size t u) i 2 h b
  result-byte i (suc (suc (suc zero))) h a b = laid-at (graft_size t u) i 3 h b
  result-byte i (suc (suc (suc (suc zero)))) h a b = laid-at (graft_size t u) i 4 h b
  result-byte i (suc (suc (suc (suc (suc zero))))) h a b = laid-at (graft_size t u) i 5 h b
  result-byte i (suc (suc (suc (suc (suc (suc j)))))) h a b = absurd (omega arith)

  -- its first child is the number of nodes known before it
  result-first : (i : ℕ) → i < graft_size t u
      → first_child (graft_table t k u) i ≡ first_number (count_in t k u (source_at t k u i))
      (length (known_sources t k u i))
  unfolding frame_at
  result-first i h =
      omega (arith, laid-at (graft_size t u) i 0 h (omega arith), laid-at (graft_size t u) i 1 h (omega arith))

  pub children-length : (s : ℕ) → length (child_sources t k u s) ≡ count_in t k u s
  unfolding child_sources
  children-length s = length_up (root_for t k) (first_in t k u s) (count_in t k u s)

  result-next : (i : ℕ) → i ≤ graft_size t u → next (graft_table t k u) i ≡ length (known_sources t k u i)
  unfolding next breadth_first
  result-next zero h = refl
  result-next (suc i) h =
      omega (
        arith,
        result-next i (omega arith),
        result-byte i 2 (omega arith) (omega arith) (omega arith),
        length-append (known_sources t k u i) (child_sources t k u (source_at t k u i)),
        children-length (source_at t k u i),
      )

-- a frame with the bytes of a stated one and its own first child
carried : (x y : List ℕ) (i j : ℕ) → ((n : ℕ) → 2 ≤ n → n < frame_size → byte_of x i n ≡ byte_of y j n)
    → FrameAsStated y j → (0 < j → 0 < i) → (child_count x i ≡ 0 → first_child x i ≡ 0)
    → (0 < child_count x i → first_child x i ≡ next x i) → (0 < child_count x i → i < first_child x i)
    → FrameAsStated x i
carried x y i j e s r a b c =
    let e2 = e 2 (omega arith) (omega arith) in
    let e3 = e 3 (omega arith) (omega arith) in
    let e4 = e 4 (omega arith) (omega arith) in
    let e5 = e 5 (omega arith) (omega arith) in
    record {
      mover = ⊎_elim (λ z. inl (e3 ∙ z)) (λ m. inr (e3 ∙ m.0, r m.1, omega (arith, e2, m.2))) s.mover;
      few_children = omega (arith, e2, s.few_children);
      leaf_first = a;
      leaf_value = λ z. rw (e4, e5) (s.leaf_value (sym e2 ∙ z));
      inner_first = b;
      inner_later = c;
      inner_value = λ z. rw (e4, e5) (s.inner_value (omega (arith, e2)));
    }

first-zero : (n x : ℕ) → n ≡ 0 → first_number n x ≡ 0
first-zero zero x h = refl
first-zero (suc n) x h = absurd (omega arith)

pub first_next : (n x : ℕ) → 0 < n → first_number n x ≡ x
first_next zero x h = absurd (omega arith)
first_next (suc n) x h = refl

module _ (t : List ℕ) (k : ℕ) (u : List ℕ) (g : Fitting t k u) where
  abbrev R : List ℕ
  R = graft_table t k u

  count-is : (i : ℕ) → i < graft_size t u → child_count R i ≡ count_in t k u (source_at t k u i)
  count-is i h = result-byte t k u i 2 h (omega arith) (omega arith)

  -- the root's source is one of the roots, so a node with another source comes later
  root-kind : (root_for t k 0 ≡ 0) ⊎ (root_for t k 0 ≡ frames t)
  root-kind =
      elim (ℕ_discrete 0 k) [
        | yes e ↦ inr (omega (arith, ap (root_for t k) e ∙ replaced-leaf t k u g))
        | no e ↦ inl (replaced-same t k u g 0 e)
      ]

  later : (i s : ℕ) → source_at t k u i ≡ s → (s ≡ 0 → ⊥) → (s ≡ frames t → ⊥) → 0 < i
  unfolding breadth_first
  later zero s e a b = ⊎_elim (λ z. absurd (a (sym e ∙ z))) (λ z. absurd (b (sym e ∙ z))) root-kind
  later (suc i) s e a b = omega arith

  pub result-stated : (i : ℕ) → i < graft_size t u → FrameAsStated R i
  result-stated i h =
      let s = source_at t k u i in
      let st = first-stated t k u g in
      let w = source-waits t k u g i h in
      let c = count-is i h in
      let f = result-first t k u i h in
      let n = result-next t k u i (omega arith) in
      let first : child_count R i ≡ 0 → first_child R i ≡ 0 = λ z. f ∙ first-zero (count_in t k u s) _ (sym c ∙ z) in
      let inner : 0 < child_count R i → first_child R i ≡ length (known_sources t k u i) =
      λ z. f ∙ first_next (count_in t k u s) _ (omega (arith, c)) in
      source-cases (frames t) (frames u) s (source-kind t k u g i h).inside
      (λ l.
      carried R t i s (λ m a b. result-byte t k u i m h a b ∙ joined-first t u st.whole s m l b) (st.frame s l)
      (λ a. later i s refl (λ z. omega arith) (λ z. omega arith)) first (λ z. inner z ∙ sym n)
      (λ z. omega (arith, inner z)))
      (λ v l e.
      carried R u i v
      (λ m a b.
      result-byte t k u i m h a b ∙ ap (λ x. byte_of (t ++ u) x m) e ∙ joined-second t u st.whole v m)
      ((second-stated t k u g).frame v l)
      (λ a. later i s refl (λ z. omega (arith, e, st.non_empty)) (λ z. omega (arith, e))) first (λ z. inner z ∙ sym n)
      (λ z. omega (arith, inner z)))

  pub result-total : next R (frames R) ≡ frames R
  result-total =
      let e = result-frames t k u in
      ap (next R) e ∙ result-next t k u (graft_size t u) (omega arith) ∙ sources-all t k u g ∙ sym e

  pub result-formed : WellFormed R
  result-formed =
      let e = result-frames t k u in
      stated-formed R (omega (arith, g.at_most)) (λ i h. result-stated i (omega arith)) result-total

  -- the source of node i
  abbrev S : ℕ → ℕ
  S i = get_or (sources t k u) i 0

  source-same : (i : ℕ) → i < graft_size t u → S i ≡ source_at t k u i
  source-same i h =
      (list-kept (child_sources t k u) (root_for t k 0) i (graft_size t u) i (omega arith) (source-waits t k u g i h)).1

  pub result-source : (i : ℕ) → i < graft_size t u → Source t k u (S i)
  result-source i h = rw (source-same i h) (source-kind t k u g i h)

  pub result_count : (i : ℕ) → i < graft_size t u → child_count R i ≡ count_in t k u (S i)
  result_count i h = rw (source-same i h) (count-is i h)

  -- its bytes from the third on are its source's
  pub result-carried : (i j : ℕ) → i < graft_size t u → 2 ≤ j → j < frame_size
      → byte_of R i j ≡ byte_of (t ++ u) (S i) j
  result-carried i j h l m = rw (source-same i h) (result-byte t k u i j h l m)

  -- the sources of a node's children are its source's children
  pub result-child : (i m : ℕ) → i < graft_size t u → m < child_count R i
      → S (first_child R i + m) ≡ root_for t k (first_in t k u (S i) + m)
  unfolding child_sources
  result-child i m h l =
      let s = source_at t k u i in
      let c = count-is i h in
      let f = result-first t k u i h ∙ first_next (count_in t k u s) _ (omega (arith, c)) in
      let d : m < length (child_sources t k u s) = omega (arith, children-length t k u s) in
      ap (λ x. get_or (sources t k u) (x + m) 0) f
      ∙ list-child (child_sources t k u) (root_for t k 0) i (graft_size t u) m h d
      ∙ up_at (root_for t k) (first_in t k u s) (count_in t k u s) m (omega (arith, c))
      ∙ ap (λ x. root_for t k (first_in t k u x + m)) (sym (source-same i h))

  pub result-root : S 0 ≡ root_for t k 0
  unfolding breadth_first
  result-root = source-same 0 (omega (arith, graft-some t k u g))

  -- each node stands where its source does
  pub result-position : (i : ℕ) → i < frames R → position_of R i ≡ position_at t k u (S i)
  result-position =
      top-down R result-formed (λ i. position_of R i ≡ position_at t k u (S i))
      (position-root R ∙ sym (ap (position_at t k u) result-root ∙ root-position t k u g))
      (λ i j h c e.
      let n : i < graft_size t u = omega (arith, result-frames t k u) in
      let m : j - first_child R i < child_count R i = omega (arith, c.from, c.to) in
      let q : first_child R i + (j - first_child R i) ≡ j = omega (arith, c.from) in
      let x = ap S (sym q) ∙ result-child i (j - first_child R i) n m in
      let b = result-carried j 3 (omega (arith, result-frames t k u, child-within R result-formed h c)) (omega arith)
      (omega arith)
      ∙ ap (λ s. byte3 (t ++ u) s) x in
      position-child R result-formed h c ∙ ap (λ p. child_position R j p) e
      ∙ source-position t k u g (S i) (result-source i n) R j (j - first_child R i) (omega (arith, result_count i n)) b
      ∙ ap (position_at t k u) (sym x))
