-- The questions of a graft: one law for each answer, and what holds once all have passed.
use Rattle.prelude.proofs.{ℕ, ◌+◌, ◌*◌, ◌-◌, ◌≤◌, ◌<◌, arith, ◌≡◌, refl, true, false, ◌&&◌, none, some, List, ltb, leb}
use Rattle.prelude.proofs.{eqb, lt-ltb, le-leb, lt-leb, eq-eqb, ltb-true, leb-true, eqb-true}
use Rattle.lists.proofs.Choice.{and_both, true-not-false}
use Rattle.gametree.specs.declared.Side.{Side}
use Rattle.gametree.specs.declared.Side.TheVariants.{Max, Min}
use Rattle.gametree.specs.{same}
use Rattle.table.specs.declared.Rejection.{Rejection}
use Rattle.table.specs.{frame_size, max_nodes, max_depth, frames, child_count, depth_of, side_of, rejection, Accepted}
use Rattle.table.proofs.Stated.{ask-yes, both-passed}
use Rattle.table.proofs.Acceptance.{accepted-formed}
use Rattle.graft_questions.specs.{graft_size, is_max_leaf, deepest, check17, check18, graft_check10, leaf_rejection}
use Rattle.graft_questions.specs.{graft_rejection, MaxLeaf}
use Rattle.graft_questions.specs.Graftable.{Graftable}
use Rattle.graft_questions.proofs.Heights.{deepest-at, deepest-most}

same-max : (s : Side) → same s Max ≡ true → s ≡ Max
same-max Max e = refl
same-max Min e = absurd (true-not-false e refl)

module _ (t : List ℕ) (k : ℕ) where
  -- the test says what it is for
  pub max-leaf : is_max_leaf t k ≡ true → MaxLeaf t k
  max-leaf e =
      let s = and_both (ltb k (frames t) && eqb (child_count t k) 0) (same (side_of t k) Max) e in
      let c = and_both (ltb k (frames t)) (eqb (child_count t k) 0) s.0 in
      record {
        inside = ltb-true k (frames t) c.0;
        childless = eqb-true (child_count t k) 0 c.1;
        mover = same-max (side_of t k) s.1;
      }

  pub leaf-max : MaxLeaf t k → is_max_leaf t k ≡ true
  leaf-max m = rw (lt-ltb k (frames t) m.inside, eq-eqb (child_count t k) 0 m.childless, m.mover)

-- a "no" to question q, with its place
abbrev pub refusal : ℕ → ℕ → Rejection
refusal q p = record { number = q; place = p }

module _ (t : List ℕ) (k : ℕ) (u : List ℕ) (room : ℕ) where
  -- 17
  pub no-leaf : is_max_leaf t k ≡ false → leaf_rejection t k u room ≡ some (refusal 17 k)
  no-leaf e = rw e

  module _ (m : is_max_leaf t k ≡ true) where
    -- 18: too many nodes, or too deep
    pub too_many : max_nodes < graft_size t u → leaf_rejection t k u room ≡ some (refusal 18 0)
    too_many l = rw (m, lt-leb (graft_size t u) max_nodes l)

    module _ (l : graft_size t u ≤ max_nodes) where
      pub too-deep : max_depth < depth_of t k + deepest u (frames u) → leaf_rejection t k u room ≡ some (refusal 18 0)
      too-deep d = rw (m, le-leb (graft_size t u) max_nodes l, lt-leb (depth_of t k + deepest u (frames u)) max_depth d)

      module _ (d : depth_of t k + deepest u (frames u) ≤ max_depth) where
        -- 10
        pub too_short : room < frame_size * graft_size t u → leaf_rejection t k u room ≡ some (refusal 10 0)
        too_short r =
            rw (
              m,
              le-leb (graft_size t u) max_nodes l,
              le-leb (depth_of t k + deepest u (frames u)) max_depth d,
              lt-leb (frame_size * graft_size t u) room r,
            )

        -- no "no"
        pub all_right : frame_size * graft_size t u ≤ room → leaf_rejection t k u room ≡ none
        all_right r =
            rw (
              m,
              le-leb (graft_size t u) max_nodes l,
              le-leb (depth_of t k + deepest u (frames u)) max_depth d,
              le-leb (frame_size * graft_size t u) room r,
            )

  -- the tables in turn, the first before the second
  pub first-refused : (r : Rejection) → rejection t ≡ some r → graft_rejection t k u room ≡ some r
  first-refused r e = rw e

  pub second-refused : (r : Rejection) → Accepted t → rejection u ≡ some r → graft_rejection t k u room ≡ some r
  second-refused r a e = rw (a, e)

  pub both-accepted : Accepted t → Accepted u → graft_rejection t k u room ≡ leaf_rejection t k u room
  both-accepted a b = rw (a, b)

  -- once all have passed, the tree can be grafted, and the buffer has room
  pub passed-graftable : graft_rejection t k u room ≡ none → Graftable t k u × (frame_size * graft_size t u ≤ room)
  passed-graftable e =
      let a = both-passed (rejection t) _ e in
      let b = both-passed (rejection u) _ a.1 in
      let c = both-passed (check17 t k) _ b.1 in
      let d = both-passed (check18 t k u) (graft_check10 t u room) c.1 in
      let s = and_both (leb (graft_size t u) max_nodes) _ (ask-yes _ 18 0 d.0) in
      let h = leb-true (depth_of t k + deepest u (frames u)) max_depth s.1 in (
        record {
          first = a.0;
          second = b.0;
          leaf = max-leaf t k (ask-yes _ 17 k c.0);
          at_most = leb-true (graft_size t u) max_nodes s.0;
          shallow = λ v w. omega (arith, deepest-at u v (frames u) w);
        },
        leb-true (frame_size * graft_size t u) room (ask-yes _ 10 0 d.1),
      )

  -- and the other way round, up to the room
  pub graftable-deepest : Graftable t k u → depth_of t k + deepest u (frames u) ≤ max_depth
  graftable-deepest g =
      let h = g.shallow 0 (accepted-formed u g.second).non_empty in
      omega (
        arith,
        deepest-most u (max_depth - depth_of t k) (frames u) (λ v l. omega (arith, g.shallow v l)),
      )
