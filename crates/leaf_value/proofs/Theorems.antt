-- What the answer says of the root's value, by values.
use Rattle.prelude.proofs.{ℕ, ◌≤◌, arith, ◌≡◌, refl, sym, ap, ◌∙◌, ◌↔◌, Bool, true, false, Option, none, some, List}
use Rattle.prelude.proofs.{Result, Ok, Err}
use Rattle.prelude.proofs.{leb, eqb, ℤ, nat_abs, ◌<ℤ◌, lt-ltb, le-leb, eq-eqb, leb-true, eqb-true}
use Rattle.lists.proofs.Choice.{cond_cases, clash, is_false, true-not-false}
use Rattle.gametree.specs.{Score}
use Rattle.gametree_theory.proofs.Minimax.Bounds.{minimax-score}
use Rattle.table.specs.declared.Rejection.{Rejection}
use Rattle.table.specs.{is_leaf, frames, child_count, depth_of, tree, value_of, score_of, max_value, unless, rejection}
use Rattle.table.specs.{Accepted}
use Rattle.table.specs.{Leaf}
use Rattle.table.proofs.Stated.{ask-yes, both-passed}
use Rattle.table.proofs.Acceptance.{accepted-formed}
use Rattle.table.proofs.Values.{value-range, score-back}
use Rattle.table.proofs.Proper.{every-leaf, leaf-scored}
use Rattle.table.proofs.Worth.{score-kept}
use Rattle.leaf_value.specs.{check19, check20, root_score, smallest, answer_for, value_rejection, least_value}
use Rattle.leaf_value.specs.{first_score, score_count, root_value}
use Rattle.leaf_value.proofs.First.{found_first, found_none, none_found}
use Rattle.leaf_value.proofs.Values.{score-range, score-value, same-scores, smaller}
use Rattle.leaf_value.proofs.Bounds.{leaf-is, leaf-shallow}
use Rattle.leaf_value.proofs.Questions.{refused, no-leaf, out_of_range, in-range, table-accepted}

-- a leaf passes its test, and only a leaf does
pub leaf-test : (t : List ℕ) (k : ℕ) → Leaf t k → is_leaf t k ≡ true
leaf-test t k l = rw (lt-ltb k (frames t) l.inside, eq-eqb (child_count t k) 0 l.childless)

pub test-leaf : (t : List ℕ) (k : ℕ) → is_leaf t k ≡ true → Leaf t k
test-leaf t k e = let b = leaf-is t k e in record { inside = b.0; childless = b.1 }

-- an answer is the earlier "no", or what is found
unless-value : (q : Option Rejection) (a : Result ℤ Rejection) (v : ℤ) → unless q Err a ≡ Ok v
    → (q ≡ none) × (a ≡ Ok v)
unless-value none a v e = (refl, e)
unless-value (some r) a v e = clash (cc)

found_some : (k : ℕ) (o : Option ℕ) (v : ℤ) → answer_for k o ≡ Ok v → (s : ℕ) × (o ≡ some s) × (value_of s ≡ v)
found_some k none v e = clash (cc)
found_some k (some s) v e = (s, refl, cc)

-- the number of a rejection, and its place
abbrev number_of : Result ℤ Rejection → ℕ
number_of (Ok v) = 0
number_of (Err r) = r.number

abbrev position_of : Result ℤ Rejection → ℕ
position_of (Ok v) = 0
position_of (Err r) = r.place

module _ (t : List ℕ) (k : ℕ) (w : ℤ) where
  -- what holds once 1 to 9, 19 and 20 have passed
  pub record Asked : Type 0 where
    pub accepted : Accepted t
    pub leaf : Leaf t k
    pub ranged : nat_abs w ≤ max_value

  pub asked : value_rejection t k w ≡ none → Asked
  asked e =
      let a = both-passed (rejection t) _ e in
      let b = both-passed (check19 t k) (check20 w) a.1 in
      record {
        accepted = a.0;
        leaf = test-leaf t k (ask-yes _ _ _ b.0);
        ranged = leb-true _ _ (ask-yes _ _ _ b.1);
      }

  -- then the answer is what is found
  pub asked-found : Asked → least_value t k w ≡ answer_for k (smallest t k (score_of w))
  asked-found a =
      table-accepted t k w a.accepted
      ∙ in-range t k w (leaf-test t k a.leaf) (le-leb _ _ a.ranged)

  module _ (a : Asked) where
    -- the root's score is a real one
    root-scored : (s : ℕ) → Score s → Score (root_score t k s)
    unfolding root_score
    root-scored s h =
        let wf = accepted-formed t a.accepted in
        let d = leaf-shallow t a.accepted k a.leaf.inside in
        minimax-score _ (tree t) (every-leaf t wf _ (λ i l c.
        cond_cases Score (eqb i k) _ _ (λ e. score-kept (depth_of t k) s (omega arith) h)
        (λ e. leaf-scored t wf i l c)) 0 wf.non_empty)

    -- a score passes the test exactly if it gives the root the wanted value
    pub reached : (s : ℕ) → Score s
        → (eqb (root_score t k s) (score_of w) ≡ true) ↔ (value_of (root_score t k s) ≡ w)
    reached s h = (
      λ e. ap value_of (eqb-true (root_score t k s) (score_of w) e) ∙ score-value w a.ranged,
      λ e. eq-eqb (root_score t k s) (score_of w)
          (same-scores (root_score t k s) (score_of w) (e ∙ sym (score-value w a.ranged))),
    )

    -- where a value does, one is given
    pub value-exists : (u : ℤ) → nat_abs u ≤ max_value → root_value t k u ≡ w → (v : ℤ) × (least_value t k w ≡ Ok v)
    unfolding smallest
    value-exists u h e = by (smallest t k (score_of w)) refl
      where
        by : (o : Option ℕ) → smallest t k (score_of w) ≡ o → (v : ℤ) × (least_value t k w ≡ Ok v)
        by (some s) p = (value_of s, asked-found a ∙ ap (answer_for k) p)
        by none p =
            let i = score-range u h in
            absurd (true-not-false ((reached (score_of u) i).1 e)
            (found_none _ first_score score_count p (score_of u) i.0 (omega (arith, i.1))))

    -- where none does, 21 is given
    pub none-exists : ((u : ℤ) → nat_abs u ≤ max_value → root_value t k u ≡ w → ⊥) → least_value t k w ≡ refused 21 k
    unfolding smallest
    none-exists f =
        asked-found a
        ∙ ap (answer_for k) (none_found _ first_score score_count (λ s p q.
        let i : Score s = (omega arith, omega arith) in
        is_false _ (λ e. f (value_of s) (value-range s i) (rw (score-back s) ((reached s i).0 e)))))

  -- a value that is given: in range, it gives the root the wanted value, and no smaller one does
  pub record Given (v : ℤ) : Type 0 where
    pub asked : Asked
    pub ranged : nat_abs v ≤ max_value
    pub reaches : root_value t k v ≡ w
    pub smallest : (u : ℤ) → nat_abs u ≤ max_value → u <ℤ v → root_value t k u ≡ w → ⊥

  pub given : (v : ℤ) → least_value t k w ≡ Ok v → Given v
  unfolding least_value smallest
  given v e =
      let p = unless-value (value_rejection t k w) _ v e in
      let a = asked p.0 in
      let q = found_some k (smallest t k (score_of w)) v p.1 in
      let f = found_first _ first_score score_count q.0 q.1 in
      let i : Score q.0 = (f.from, omega (arith, f.within)) in
      let r : nat_abs v ≤ max_value = rw q.2 at (value-range q.0 i) in
      let s : score_of v ≡ q.0 = ap score_of (sym q.2) ∙ score-back q.0 in
      record {
        asked = a;
        ranged = r;
        reaches = rw s ((reached a q.0 i).0 f.passes);
        smallest = λ u h l z.
            let j = score-range u h in
            true-not-false ((reached a (score_of u) j).1 z)
            (f.before (score_of u) j.0 (omega (arith, s, smaller u v h r l)));
      }

  -- the place of 21 is the node
  place-named : (o : Option ℕ) (p : ℕ) → answer_for k o ≡ refused 21 p → p ≡ k
  place-named none p e = sym (ap position_of e)
  place-named (some s) p e = clash (cc)

  -- 21 is given of an accepted table only where no value does
  pub only_none : Accepted t → (p : ℕ) → least_value t k w ≡ refused 21 p
      → (p ≡ k) × Leaf t k × (nat_abs w ≤ max_value) × ((u : ℤ) → nat_abs u ≤ max_value → root_value t k u ≡ w → ⊥)
  only_none a p e = by (is_leaf t k) (leb (nat_abs w) max_value) refl refl
    where
      by : (b c : Bool) → is_leaf t k ≡ b → leb (nat_abs w) max_value ≡ c
          → (p ≡ k) × Leaf t k × (nat_abs w ≤ max_value) × ((u : ℤ) → nat_abs u ≤ max_value → root_value t k u ≡ w → ⊥)
      by false c x y =
          let z : ◌≡◌ {A = ℕ} 19 21 = ap number_of (sym (table-accepted t k w a ∙ no-leaf t k w x) ∙ e) in
          absurd (omega arith)
      by true false x y =
          let z : ◌≡◌ {A = ℕ} 20 21 = ap number_of (sym (table-accepted t k w a ∙ out_of_range t k w x y) ∙ e) in
          absurd (omega arith)
      by true true x y =
          let q : Asked = record { accepted = a; leaf = test-leaf t k x; ranged = leb-true _ _ y } in (
            place-named (smallest t k (score_of w)) p (sym (asked-found q) ∙ e),
            q.leaf,
            q.ranged,
            λ u h z.
                let v = value-exists q u h z in
                let n : ◌≡◌ {A = ℕ} 0 21 = ap number_of (sym v.1 ∙ e) in
                omega arith,
          )
