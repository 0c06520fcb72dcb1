-- The table of a graft is accepted exactly if no node of it is too deep: each node stands where its source does, and
-- each source is some node's.
use Rattle.prelude.proofs.{ℕ, ◌+◌, ◌-◌, ◌≤◌, ◌<◌, arith, ◌≡◌, ap, ◌∙◌, List, get_or}
use Rattle.table.specs.{max_nodes, max_depth, frames, first_child, child_count, depth_of, ChildOf, TableAsStated}
use Rattle.table.specs.{Accepted}
use Rattle.table.proofs.Next.{child-within}
use Rattle.table.proofs.Parents.{top-down}
use Rattle.table.proofs.Acceptance.{accepted-stated, stated-accepted}
use Rattle.graft_questions.specs.{graft_size, MaxLeaf}
use Rattle.graft.specs.{root_for, sources, graft_table}
use Rattle.graft_questions.specs.Graftable.{Graftable}
use Rattle.graft.proofs.Joined.{source-cases}
use Rattle.graft.proofs.Sources.{Fitting, fitting, Source, position_at, first_in, count_in, first-stated}
use Rattle.graft.proofs.Sources.{first-formed}
use Rattle.graft.proofs.Sources.{second-formed, graft-some, position_first, position-second, first-first}
use Rattle.graft.proofs.Sources.{count-first, count-second, replaced-leaf, replaced-same, second-replaced}
use Rattle.graft.proofs.Laid.{laid-length, result-frames, result-stated, result-total, result-formed}
use Rattle.graft.proofs.Laid.{result-source, result_count, result-child, result-root, result-position}

module _ (t : List ℕ) (k : ℕ) (u : List ℕ) (g : Fitting t k u) where
  abbrev R : List ℕ
  R = graft_table t k u

  abbrev S : ℕ → ℕ
  S i = get_or (sources t k u) i 0

  -- the source s is a node's
  record Listed (s : ℕ) : Type 0 where
    node : ℕ
    inside : node < graft_size t u
    source : S node ≡ s

  -- so are a node's children, which are its source's
  listed-child : {s : ℕ} (l : Listed s) (m : ℕ) → m < count_in t k u s → Listed (root_for t k (first_in t k u s + m))
  listed-child l m h =
      let i = l.node in
      let c = result_count t k u g i l.inside ∙ ap (count_in t k u) l.source in
      let d : ChildOf R i (first_child R i + m) = record { from = omega arith; to = omega (arith, c) } in
      let w = child-within R (result-formed t k u g) (omega (arith, l.inside, result-frames t k u)) d in
      record {
        node = first_child R i + m;
        inside = omega (arith, w, result-frames t k u);
        source = result-child t k u g i m l.inside (omega (arith, c))
            ∙ ap (λ s. root_for t k (first_in t k u s + m)) l.source;
      }

  -- each node of the first table has a place in the list, the leaf that of the second root
  listed-first : (c : ℕ) → c < frames t → Listed (root_for t k c)
  listed-first =
      top-down t (first-formed t k u g) (λ c. Listed (root_for t k c))
      (record { node = 0; inside = omega (arith, graft-some t k u g); source = result-root t k u g })
      (λ i c h d l.
      let inner : i ≡ k → ⊥ = λ e. omega (arith, d.from, d.to, ap (child_count t) e, g.leaf.childless) in
      let m : c - first_child t i < count_in t k u i = omega (arith, d.from, d.to, count-first t k u g i h) in
      let e : first_in t k u i + (c - first_child t i) ≡ c = omega (arith, d.from, first-first t k u g i h) in
      let x : Listed i = rw (replaced-same t k u g i inner) at l in
      rw e at (listed-child x (c - first_child t i) m))

  -- and each of the second
  listed-second : (v : ℕ) → v < frames u → Listed (frames t + v)
  listed-second =
      top-down u (second-formed t k u g) (λ v. Listed (frames t + v))
      (rw (replaced-leaf t k u g) at (listed-first k g.leaf.inside))
      (λ i c h d l.
      let m : c - first_child u i < count_in t k u (frames t + i) =
      omega (arith, d.from, d.to, count-second t k u g i) in
      let e : first_child u i + (c - first_child u i) ≡ c = omega (arith, d.from) in
      rw (second-replaced t k u g i (c - first_child u i), e) at (listed-child l (c - first_child u i) m))

  -- so an accepted result is not too deep
  accepted-shallow : Accepted R → (v : ℕ) → v < frames u → depth_of t k + depth_of u v ≤ max_depth
  accepted-shallow a v h =
      let l = listed-second v h in
      let i : l.node < frames R = omega (arith, l.inside, result-frames t k u) in
      let p = ap (λ p. p.depth)
      (result-position t k u g l.node i ∙ ap (position_at t k u) l.source ∙ position-second t k u g v) in
      omega (arith, (accepted-stated R a).shallow l.node i)

module _ (t : List ℕ) (k : ℕ) (u : List ℕ) (g : Graftable t k u) where
  source-shallow : (s : ℕ) → Source t k u s → (position_at t k u s).depth ≤ max_depth
  source-shallow s x =
      source-cases (frames t) (frames u) s x.inside
      (λ h.
      let f = fitting g in
      omega (arith, ap (λ p. p.depth) (position_first t k u f s h), (first-stated t k u f).shallow s h))
      (λ v h e. rw e (omega (arith, ap (λ p. p.depth) (position-second t k u (fitting g) v), g.shallow v h)))

  -- the result is as SPEC 3 states it
  result-as-stated : TableAsStated (graft_table t k u)
  result-as-stated =
      let f = fitting g in
      let e = result-frames t k u in
      record {
        whole = omega (arith, laid-length t k u (graft_size t u));
        non_empty = omega (arith, graft-some t k u f);
        most = omega (arith, g.at_most);
        frame = λ i h. result-stated t k u f i (omega arith);
        total = result-total t k u f;
        shallow = λ i h.
            omega (
              arith,
              ap (λ p. p.depth) (result-position t k u f i h),
              source-shallow (get_or (sources t k u) i 0) (result-source t k u f i (omega arith)),
            );
      }

  -- so questions 1 to 9 accept it
  pub result-accepted : Accepted (graft_table t k u)
  result-accepted = stated-accepted (graft_table t k u) result-as-stated

-- what is accepted can be grafted
pub accepted-graftable : (t : List ℕ) (k : ℕ) (u : List ℕ) → Accepted t → Accepted u → MaxLeaf t k
    → Accepted (graft_table t k u) → Graftable t k u
accepted-graftable t k u a b l r =
    let at_most : graft_size t u ≤ max_nodes =
    omega (arith, (accepted-stated (graft_table t k u) r).most, result-frames t k u) in
    record {
      first = a;
      second = b;
      leaf = l;
      at_most = at_most;
      shallow = accepted-shallow t k u (record { first = a; second = b; leaf = l; at_most = at_most }) r;
    }
