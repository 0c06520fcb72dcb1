-- The loop that writes the result: before node i the frames of the nodes before it are laid, the known nodes from i on
-- have their sources in their frames, and what is behind these is as it was.
use Rattle.prelude.proofs.{ℕ, ◌+◌, ◌*◌, ◌-◌, ◌/◌, ◌%◌, ◌≤◌, ◌<◌, arith, dec_lt, add-one, ◌≡◌, refl, sym, ap, ap₂, ◌∙◌}
use Rattle.prelude.proofs.{List, [], ◌∷◌, ◌++◌, length, get_or, take, drop, take-append-drop, sets}
use Rattle.prelude.proofs.{length-sets, take-take}
use Rattle.table.specs.{frame_size, two_bytes, first_child, child_count}
use Rattle.table.proofs.Ranges.{up_at}
use Rattle.graft_questions.specs.{graft_size}
use Rattle.graft.specs.{root_for, child_sources, breadth_first, known_sources, first_number, renumbered, source_at}
use Rattle.graft.specs.{frame_at, laid_frames, graft_table, Joined, SourceIn, with_first, Queued}
use Rattle.graft.proofs.Joined.{source-count, source-first, source-frame}
use Rattle.graft.proofs.Listing.{length_more, list-kept, list-child}
use Rattle.graft.proofs.Sources.{Fitting, Source, first-stated, first_in, count_in}
use Rattle.graft.proofs.Sources.{graft-some, source-child, source-waits, source-kind, sources-all}
use Rattle.graft.proofs.Laid.{children-length}
use Rattle.graft.proofs.Queue.{take-stored, drop-sets, drop_more, first-before, first-behind, first-stored}

-- the loop before node i, with `at` the number of its first child
pub record Writing (t : List ℕ) (k : ℕ) (u b₀ b : List ℕ) (at i : ℕ) : Type 0 where
  pub inside : i ≤ graft_size t u
  pub here : at ≡ length (known_sources t k u i)
  pub long : length b ≡ length b₀
  pub laid : take (frame_size * i) b ≡ laid_frames t k u i
  pub queue : (j : ℕ) → i ≤ j → j < at → first_child b j ≡ get_or (known_sources t k u i) j 0
  pub behind : drop (frame_size * at) b ≡ drop (frame_size * at) b₀

module _ (t : List ℕ) (k : ℕ) (u : List ℕ) (g : Fitting t k u) where
  -- the root's source is stored
  pub writing_begins : (b : List ℕ) (v : ℕ) → v ≡ root_for t k 0 → frame_size ≤ length b → (b' : List ℕ)
      → b' ≡ with_first 0 v b → Writing t k u b' b' 1 0
  unfolding breadth_first laid_frames
  writing_begins b v e h b' s =
      record {
        inside = omega arith;
        here = refl;
        long = refl;
        laid = refl;
        queue = λ j a l. let z : j ≡ 0 = omega arith in rw (z, s) (first-stored b 0 v (omega arith) ∙ e);
        behind = refl;
      }

  module _ {b₀ b : List ℕ} {at i : ℕ} (w : Writing t k u b₀ b at i) (h : i < graft_size t u)
      (s : ℕ) (e : s ≡ first_child b i) where
    waiting : i < at
    waiting = omega (arith, w.here, source-waits t k u g i h)

    -- the node's source is read
    source_is : s ≡ source_at t k u i
    source_is = e ∙ w.queue i (omega arith) waiting

    source : Source t k u s
    source = rw source_is (source-kind t k u g i h)

    -- it has a frame in the two tables
    pub writing-joined : Joined t u s
    writing-joined = record { whole = (first-stated t k u g).whole; inside = source.inside }

    -- node v of the table a is that source, and has n children
    module _ {a : List ℕ} {v r : ℕ} (x : SourceIn t u s a v r) (n : ℕ) (d : n ≡ child_count a v) where
      counted : n ≡ count_in t k u s
      counted = d ∙ source-count x

      -- its children are the next to become known
      known_more : length (known_sources t k u (i + 1)) ≡ at + n
      known_more =
          length_more (child_sources t k u) (root_for t k 0) i
          ∙ ap₂ ◌+◌ (sym w.here)
          (children-length t k u (source_at t k u i) ∙ sym (counted ∙ ap (count_in t k u) source_is))

      pub writing-within : at + n ≤ graft_size t u
      writing-within =
          let m = known_more in
          let l = list-kept (child_sources t k u) (root_for t k 0) (i + 1) (graft_size t u) 0 (omega arith)
          (omega (arith, waiting)) in
          omega (arith, l.0, sources-all t k u g)

      -- they are the sources from r + f on
      module _ (f : ℕ) (q : f ≡ first_child a v) where
        begins : r + f ≡ first_in t k u s
        begins = ap (λ y. r + y) q ∙ source-first x

        -- their numbers fit two bytes
        pub writing-fits : (m : ℕ) → m < n → root_for t k (r + f + m) < two_bytes
        writing-fits m l =
            rw begins (omega (arith, (source-child t k u g s source m (omega (arith, counted))).inside, g.at_most))

        known-child : (m : ℕ) → m < n → get_or (known_sources t k u (i + 1)) (at + m) 0 ≡ root_for t k (r + f + m)
        unfolding child_sources
        known-child m l =
            let o = source_at t k u i in
            let few : m < count_in t k u o = omega (arith, counted, ap (count_in t k u) source_is) in
            ap (λ a. get_or (known_sources t k u (i + 1)) (a + m) 0) w.here
            ∙ list-child (child_sources t k u) (root_for t k 0) i (i + 1) m (omega arith)
            (omega (arith, children-length t k u o))
            ∙ up_at (root_for t k) (first_in t k u o) (count_in t k u o) m few
            ∙ ap (λ a. root_for t k (a + m)) (sym (begins ∙ ap (first_in t k u) source_is))

        -- a turn of the loop: the frame takes the place of its own source, and its children's sources are queued
        pub writing_step : (child : ℕ) → child ≡ first_number n at → frame_size * graft_size t u ≤ length b
            → (b₁ : List ℕ)
            → b₁ ≡ sets b (frame_size * i) (renumbered a v child) → (b' : List ℕ)
            → Queued (λ m. root_for t k (r + f + m)) at n b₁ b'
            → Writing t k u b₀ b' (at + n) (i + 1)
        unfolding laid_frames frame_at
        writing_step child number room b₁ z b' q =
            let later = waiting in
            let frame = renumbered (t ++ u) s child in
            let y : b₁ ≡ sets b (frame_size * i) frame = z ∙ ap (sets b (frame_size * i)) (source-frame x child) in
            let m = frame_size * (i + 1) in
            let six : m ≡ frame_size * i + length frame = omega arith in
            let known = list-kept (child_sources t k u) (root_for t k 0) i (i + 1) in
            record {
              inside = omega arith;
              here = sym known_more;
              long = q.long ∙ ap length y ∙ length-sets b (frame_size * i) frame ∙ w.long;
              laid =
                  sym (take-take m (frame_size * at) b' (omega arith)) ∙ ap (take m) q.before
                  ∙ take-take m (frame_size * at) b₁ (omega arith)
                  ∙ rw (y, six, add-one i)
                  (take-stored frame b (frame_size * i) (omega arith)
                  ∙ ap₂ ◌++◌ w.laid (ap₂ (renumbered (t ++ u)) source_is
                  (number ∙ ap₂ first_number (counted ∙ ap (count_in t k u) source_is) w.here)));
              queue = λ j h l.
                  elim (dec_lt j at) [
                    | yes z ↦ first-before b' b₁ at j q.before z
                        ∙ first-behind b₁ b (i + 1) j
                        (ap (drop m) y ∙ drop-sets frame b (frame_size * i) m (omega arith)) h
                        ∙ w.queue j (omega arith) z
                        ∙ sym (known j (omega arith) (omega (arith, w.here))).1
                    | no z ↦ (let d : at + (j - at) ≡ j = omega arith in
                        rw (← d) (q.entries (j - at) (omega arith) ∙ sym (known-child (j - at) (omega arith))))
                  ];
              behind =
                  q.behind ∙ ap (drop (frame_size * (at + n))) y
                  ∙ drop-sets frame b (frame_size * i) (frame_size * (at + n)) (omega arith)
                  ∙ drop_more b b₀ (frame_size * at) (frame_size * (at + n)) (omega arith) w.behind;
            }

  -- the whole table is written
  pub writing-ends : (b : List ℕ) (v : ℕ) {b₀ b' : List ℕ} {at i : ℕ} → b₀ ≡ with_first 0 v b
      → Writing t k u b₀ b' at i → graft_size t u ≤ i → b' ≡ graft_table t k u ++ drop (frame_size * graft_size t u) b
  writing-ends b v {b₀} {b'} {at} {i} s w h =
      let n = frame_size * graft_size t u in
      let e : i ≡ graft_size t u = omega (arith, w.inside) in
      let a : at ≡ graft_size t u = w.here ∙ ap (λ j. length (known_sources t k u j)) e ∙ sources-all t k u g in
      sym (take-append-drop n b')
      ∙ ap₂ ◌++◌ (rw e at w.laid) (rw a at w.behind ∙ ap (drop n) s
      ∙ drop-sets (v / 256 ∷ v % 256 ∷ []) b 0 n (omega (arith, graft-some t k u g)))
