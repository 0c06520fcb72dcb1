-- The first "no" is the first: laws of `ask`, `_andThen_` and `each_node` (specs/Rejection.antt), and what they say of
-- the questions that are put to each node in turn.
use Rattle.prelude.proofs.{ℕ, zero, suc, ◌+◌, ◌≤◌, ◌<◌, arith, dec_lt, ◌≡◌, refl, sym, ap, subst, ◌∙◌, ◌⊎◌, inl, inr}
use Rattle.prelude.proofs.{⊎_elim, Bool, true, false, Option, none, some, List, leb, leb-true}
use Rattle.lists.proofs.Choice.{clash}
use Rattle.table.specs.declared.Rejection.{Rejection}
use Rattle.table.specs.{max_children, max_depth, frames, child_count, depth_of, ask, ◌and_then◌, each_node, byte3_right}
use Rattle.table.specs.{first_child_right, value_right, check4, check5, check6, check7, check_node, check1, check2}
use Rattle.table.specs.{check3, nodes_rejection, check8, check9, depths_rejection, frames_rejection, rejection}
use Rattle.table.specs.{FirstAt, LowestNo, LowestDeep, rejection_before9}
use Rattle.table.proofs.Stated.{ask-yes, both-passed, passed_then}
use Rattle.table.proofs.Asked.{each-passed}

none-some : {r : Rejection} → none ≡ some r → ⊥
none-some e = clash (cc)

-- a "no" to one question has its number and the place that is asked
pub ask-no : (b : Bool) (q p : ℕ) (r : Rejection) → ask b q p ≡ some r
    → (b ≡ false) × (r ≡ record { number = q; place = p })
ask-no true q p r e = absurd (none-some e)
ask-no false q p r e = (refl, cc)

-- a "no" to two checks in order is that of the first, or the first has none and it is that of the second
pub then-first : (x y : Option Rejection) (r : Rejection) → (x and_then y) ≡ some r
    → (x ≡ some r) ⊎ ((x ≡ none) × (y ≡ some r))
then-first none y r e = inr (refl, e)
then-first (some s) y r e = inl e

module _ (q : ℕ → Option Rejection) (i n : ℕ) (r : Rejection) where
  first-here : q i ≡ some r → FirstAt q i (suc n) r
  first-here h =
      record {
        node = i;
        from = omega arith;
        within = omega arith;
        no = h;
        before = λ k a b. absurd (omega arith);
      }

  first-later : q i ≡ none → FirstAt q (i + 1) n r → FirstAt q i (suc n) r
  first-later h f =
      record {
        node = f.node;
        from = omega (arith, f.from);
        within = omega (arith, f.within);
        no = f.no;
        before = λ k a b. elim (dec_lt i k) [
          | yes l ↦ f.before k (omega arith) b
          | no l ↦ (let z : k ≡ i = omega arith in rw z h)
        ];
      }

-- a "no" to a check put to each node in turn is the first
pub each_first : (q : ℕ → Option Rejection) (i n : ℕ) (r : Rejection) → each_node q i n ≡ some r → FirstAt q i n r
unfolding each_node
each_first q i zero r e = absurd (none-some e)
each_first q i (suc n) r e =
    ⊎_elim (first-here q i n r) (λ h. first-later q i n r h.0 (each_first q (i + 1) n r h.1))
    (then-first (q i) (each_node q (i + 1) n) r e)

-- a "no" to a question put to each node in turn is that of the lowest node
pub lowest-no : (f : ℕ → Bool) (q n : ℕ) (r : Rejection) → each_node (λ i. ask (f i) q i) 0 n ≡ some r
    → LowestNo f q n r
lowest-no f q n r e =
    let a = each_first (λ i. ask (f i) q i) 0 n r e in
    let p = ask-no (f a.node) q a.node r a.no in
    rw p.1
    (record {
      number = refl;
      within = omega (arith, a.within);
      no = p.0;
      before = λ k l. ask-yes (f k) q k (a.before k (omega arith) l);
    })

module _ (t : List ℕ) (r : Rejection) where
  -- each of questions 4 to 7 has the node for its place
  asked-place : (b : Bool) (q i : ℕ) → ask b q i ≡ some r → r.place ≡ i
  asked-place b q i e = ap (λ x. x.place) (ask-no b q i r e).1

  node-place : (i : ℕ) → check_node t i ≡ some r → r.place ≡ i
  node-place i e =
      ⊎_elim (asked-place (byte3_right t i) 4 i) (λ x.
      ⊎_elim (asked-place (leb (child_count t i) max_children) 5 i) (λ y.
      ⊎_elim (asked-place (first_child_right t i (child_count t i)) 6 i) (λ z.
      asked-place (value_right t i (child_count t i)) 7 i z.1)
      (then-first (check6 t i) (check7 t i) r y.1))
      (then-first (check5 t i) (check6 t i and_then check7 t i) r x.1))
      (then-first (check4 t i) (check5 t i and_then check6 t i and_then check7 t i) r e)

  -- questions 4 to 7: the place is the lowest node that gets a "no", and the number is that of its first "no"
  pub nodes-first : nodes_rejection t ≡ some r
      → (r.place < frames t) × (check_node t r.place ≡ some r)
      × ((k : ℕ) → k < r.place → check_node t k ≡ none)
  nodes-first e =
      let a = each_first (check_node t) 0 (frames t) r e in
      let p = node-place a.node a.no in (
        omega (arith, p, a.within),
        subst (λ i. check_node t i ≡ some r) (sym p) a.no,
        λ k l. a.before k (omega arith) (omega (arith, p)),
      )

  -- question 9: the place is the lowest node that is too deep
  pub depth-first : depths_rejection t ≡ some r → LowestDeep t r
  depth-first e = lowest-no _ 9 (frames t) r e

-- frames that pass questions 4 to 8 and have a node that is too deep are rejected by question 9, at the lowest
pub deeper-frames : (t : List ℕ) → (nodes_rejection t and_then check8 t) ≡ none → (k : ℕ) → k < frames t
    → max_depth < depth_of t k → (r : Rejection) × (frames_rejection t ≡ some r) × LowestDeep t r
unfolding frames_rejection
deeper-frames t e k l d = by-depths (depths_rejection t) refl
  where
    by-depths : (o : Option Rejection) → depths_rejection t ≡ o
        → (r : Rejection) × (frames_rejection t ≡ some r) × LowestDeep t r
    by-depths none h =
        let a : depth_of t k ≤ max_depth =
        leb-true _ _ (ask-yes _ _ _ (each-passed (check9 t) 0 (frames t) h k (omega arith) (omega (arith, l)))) in
        absurd (omega (arith, d, a))
    by-depths (some r) h =
        let n = both-passed (nodes_rejection t) (check8 t) e in
        (r, rw (n.0, n.1) h, depth-first t r h)

-- and so is a table that passes questions 1 to 8
pub deeper-rejected : (t : List ℕ) → rejection_before9 t ≡ none → (k : ℕ) → k < frames t → max_depth < depth_of t k
    → (r : Rejection) × (rejection t ≡ some r) × LowestDeep t r
unfolding rejection
deeper-rejected t e k l d =
    let a = both-passed (check1 t) _ e in
    let b = both-passed (check2 t) _ a.1 in
    let c = both-passed (check3 t) _ b.1 in
    let p = deeper-frames t c.1 k l d in (
      p.0,
      passed_then (check1 t) _ a.0 ∙ passed_then (check2 t) _ b.0 ∙ passed_then (check3 t) _ c.0 ∙ p.1,
      p.2,
    )
