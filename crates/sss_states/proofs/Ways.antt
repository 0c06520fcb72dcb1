-- The nodes around which states stand are the table's; among a node's children, by their numbers, are the one that it
-- goes down to and the leftmost of greatest merit.
use Rattle.prelude.proofs.{ℕ, zero, suc, ◌+◌, ◌≤◌, ◌<◌, arith, dec_le, ◌≡◌, refl, sym, ◌∙◌, ap, subst, inl, inr, List}
use Rattle.prelude.proofs.{[], ◌∷◌, ◌++◌, map, append_assoc, append-nil, le-leb, lt-leb}
use Rattle.gametree.specs.declared.Side.{Side}
use Rattle.gametree.specs.declared.Side.TheVariants.{Max, Min}
use Rattle.gametree.specs.{Tree, leaf, inner, Children, number, State, live}
use Rattle.lists.proofs.Choice.{clash}
use Rattle.gametree_theory.proofs.Sss.Fronts.{ChildIn}
use Rattle.table.specs.{frames, first_child, child_count, parent_of, side_of, WellFormed, ChildOf, up_from}
use Rattle.table.specs.{children_from}
use Rattle.table.specs.{tree_at, tree}
use Rattle.table.proofs.Next.{child-within}
use Rattle.table.proofs.Parents.{parent_is}
use Rattle.table.proofs.Trees.{zero-or-suc, tree-leaf, tree-inner, tree-number}
use Rattle.sss_states.specs.{Arrays, Shows, Siblings, none, one, more, Beside, only, first, later, Around, top}
use Rattle.sss_states.specs.{child, best_at, leftmost_best}
use Rattle.sss_states.proofs.Shown.{beside-child}
use Rattle.sss_states.proofs.Changes.{Fresh, fresh-shows}
use Rattle.sss_states.proofs.Stores.{first-or-later}

-- the children of a run of nodes, by their numbers
child-number : (t : List ℕ) (i n : ℕ) (u : Tree) → ChildIn u (children_from (tree_at t) i n)
    → (k : ℕ) × (i ≤ k) × (k ≤ i + n) × (u ≡ tree_at t k)
unfolding children_from
child-number t i zero u c = (i, omega arith, omega arith, c)
child-number t i (suc n) u (inl c) = (i, omega arith, omega arith, c)
child-number t i (suc n) u (inr c) =
    let r = child-number t (i + 1) n u c in (r.0, omega (arith, r.1), omega (arith, r.2), r.3)

-- what is known of an inner node of the table
pub record Inner (t : List ℕ) (n : ℕ) (q : Side) (ks : Children) : Type 0 where
  pub others : ℕ
  pub count : child_count t n ≡ suc others
  pub side : q ≡ side_of t n
  pub kids : ks ≡ children_from (tree_at t) (first_child t n) others

module _ (t : List ℕ) (wf : WellFormed t) where
  pub inner-is : (n : ℕ) (q : Side) (ks : Children) → inner n q ks ≡ tree_at t n → n < frames t → Inner t n q ks
  inner-is n q ks e h =
      zero-or-suc (child_count t n)
      (λ z. let x : inner n q ks ≡ leaf n = e ∙ tree-leaf t wf n h z in
      clash (cc))
      (λ m z. let x : inner n q ks ≡ inner n (side_of t n) (children_from (tree_at t) (first_child t n) m) =
      e ∙ tree-inner t wf n m h z in
      record { others = m; count = z; side = cc; kids = cc })

  -- a child of one is the table's too
  pub child-is : (n : ℕ) (q : Side) (ks : Children) (u : Tree) → inner n q ks ≡ tree_at t n → n < frames t
      → ChildIn u ks
      → ChildOf t n (number u) × (u ≡ tree_at t (number u))
  child-is n q ks u e h c =
      let i = inner-is n q ks e h in
      let k = child-number t (first_child t n) i.others u (subst (λ x. ChildIn u x) i.kids c) in
      let j : number u ≡ k.0 = ap number k.3 ∙ tree-number t k.0 in
      (rw j (record { from = k.1; to = omega (arith, k.2, i.count) }), rw j k.3)

  -- a node around which states stand is the table's
  pub around-own : {a : Arrays} {m : ℕ} {u : Tree} {A B : List State} → Around a (tree t) m u A B
      → (u ≡ tree_at t (number u)) × (number u < frames t)
  around-own top = (ap (tree_at t) (sym (tree-number t 0)), rw (tree-number t 0) wf.non_empty)
  around-own {a} (child {n = n} {q = s} {ks = ks} {u = u} F G w b h p q) =
      let i = around-own w in
      let c = child-is n s ks u i.0 i.1 (beside-child a b) in (c.1, child-within t wf i.1 c.0)

  -- and the parent of a child beside which states stand is the table's
  pub parent-own : {a : Arrays} {m n : ℕ} {q : Side} {ks : Children} {u : Tree} {X Z F G : List State}
      → Around a (tree t) m (inner n q ks) X Z → Beside a q m ks u F G → parent_of t (number u) ≡ n
  parent-own {a} {n = n} {q = s} {ks = ks} {u = u} w b =
      let o = around-own w in parent_is t wf o.1 (child-is n s ks u o.0 o.1 (beside-child a b)).0

-- the child of number c, with its states between those of its siblings
pub record Chosen (a : Arrays) (q : Side) (ks : Children) (m : ℕ) (L : List State) (c : ℕ) : Type 0 where
  pub tree : Tree
  pub number_is : number tree ≡ c
  pub before : List State
  pub states : List State
  pub behind : List State
  pub beside : Beside a q (a.best c) ks tree before behind
  pub shown : Shows a tree states
  pub parts : L ≡ before ++ (states ++ behind)
  pub limit : a.best c ≤ m

module _ (t : List ℕ) (a : Arrays) where
  siblings-to : (m x i n : ℕ) (L : List State) → Siblings a Max m (children_from (tree_at t) i n) L
      → ((k : ℕ) → i ≤ k → k ≤ i + n → a.best k < x) → Siblings a Max x (children_from (tree_at t) i n) L
  unfolding children_from
  siblings-to m x i zero L (one _ s h) f = one x s (rw (tree-number t i) (f i (omega arith) (omega arith)))
  siblings-to m x i (suc n) L (more _ F G s h r e) f =
      more x F G s (rw (tree-number t i) (f i (omega arith) (omega arith)))
      (siblings-to m x (i + 1) n G r (λ k p q. f k (omega arith) (omega arith))) e

  first-chosen : {m i : ℕ} {ks : Children} {F G L : List State} → Shows a (tree_at t i) F
      → a.best (number (tree_at t i)) < m + 1 → Beside a Max (a.best i) ks (tree_at t i) [] G → L ≡ F ++ G
      → Chosen a Max ks m L i
  first-chosen {i = i} {F = F} {G = G} s h b e =
      let l = rw (tree-number t i) at h in
      record {
        tree = tree_at t i;
        number_is = tree-number t i;
        before = [];
        states = F;
        behind = G;
        beside = b;
        shown = s;
        parts = e;
        limit = omega arith;
      }

  -- the leftmost of greatest merit among siblings
  pub leftmost-chosen : (m i n c : ℕ) (L : List State) → Siblings a Max (m + 1) (children_from (tree_at t) i n) L
      → i ≤ c
      → c ≤ i + n → ((k : ℕ) → i ≤ k → k < c → a.best k < a.best c)
      → ((k : ℕ) → i ≤ k → k ≤ i + n → a.best k ≤ a.best c) → Chosen a Max (children_from (tree_at t) i n) m L c
  unfolding children_from
  leftmost-chosen m i zero c L (one _ s h) x y f g =
      let z : c ≡ i = omega arith in rw z (first-chosen s h only (sym (append-nil L)))
  leftmost-chosen m i (suc n) c L (more _ F G s h r e) x y f g =
      first-or-later i c x
      (λ z. let b = siblings-to (m + 1) (a.best c + 1) (i + 1) n G r
      (λ k p q. let j = g k (omega arith) (omega arith) in omega arith) in
      rw z (first-chosen s h (first (rw z at b)) e))
      (λ o. let v = leftmost-chosen m (i + 1) n c G r o (omega arith) (λ k p q. f k (omega arith) (omega arith))
      (λ k p q. g k (omega arith) (omega arith)) in
      let elder = one (a.best c) s (rw (tree-number t i) (f i (omega arith) (omega arith))) in
      record {
        tree = v.tree;
        number_is = v.number_is;
        before = F ++ v.before;
        states = v.states;
        behind = v.behind;
        beside = later F v.before elder v.beside refl;
        shown = v.shown;
        parts = e ∙ ap (λ l. F ++ l) v.parts ∙ sym (append_assoc F v.before (v.states ++ v.behind));
        limit = v.limit;
      })

  -- LIVE states of siblings
  fresh-siblings : (m i n : ℕ) → ((k : ℕ) → i ≤ k → k ≤ i + n → Fresh a m k)
      → Siblings a Max (m + 1) (children_from (tree_at t) i n) (map (λ k. live k m) (i ∷ up_from (i + 1) n))
  unfolding children_from up_from
  fresh-siblings m i zero f =
      let h = f i (omega arith) (omega arith) in
      one (m + 1) (fresh-shows a m (tree_at t i) (tree-number t i) h) (rw (tree-number t i) (omega (arith, h.2)))
  fresh-siblings m i (suc n) f =
      let h = f i (omega arith) (omega arith) in
      more (m + 1) _ _ (fresh-shows a m (tree_at t i) (tree-number t i) h) (rw (tree-number t i) (omega (arith, h.2)))
      (fresh-siblings m (i + 1) n (λ k p q. f k (omega arith) (omega arith))) refl

  -- beside the first of all children
  pub first-beside : (m i n : ℕ) → ((k : ℕ) → i ≤ k → k ≤ i + n → Fresh a m k)
      → Beside a Max m (children_from (tree_at t) i n) (tree_at t i) [] (map (λ k. live k m) (up_from (i + 1) n))
  unfolding children_from up_from
  first-beside m i zero f = only
  first-beside m i (suc n) f = first (fresh-siblings m (i + 1) n (λ k p q. f k (omega arith) (omega arith)))

  -- beside the child of number k of a Min node
  pub sole-beside : (m i n k : ℕ) → i ≤ k → k ≤ i + n
      → Beside a Min m (children_from (tree_at t) i n) (tree_at t k) [] []
  unfolding children_from
  sole-beside m i zero k x y = let e : k ≡ i = omega arith in rw e only
  sole-beside m i (suc n) k x y =
      first-or-later i k x (λ e. rw e (first none))
      (λ l. later [] [] none (sole-beside m (i + 1) n k l (omega arith)) refl)

-- c is the leftmost of greatest merit among i, .., i + n
pub record Leftmost (w : List ℕ) (i n c : ℕ) : Type 0 where
  pub from : i ≤ c
  pub to : c ≤ i + n
  pub greatest : (k : ℕ) → i ≤ k → k ≤ i + n → best_at w k ≤ best_at w c
  pub leftmost : (k : ℕ) → i ≤ k → k < c → best_at w k < best_at w c

-- it is the one that the definition says
pub leftmost-is : (w : List ℕ) (i n : ℕ) → Leftmost w i n (leftmost_best w i n)
unfolding leftmost_best
leftmost-is w i zero =
    record {
      from = omega arith;
      to = omega arith;
      greatest = λ k a b. let e : k ≡ i = omega arith in rw e (omega arith);
      leftmost = λ k a b. absurd (omega arith);
    }
leftmost-is w i (suc n) =
    let r = leftmost-is w (i + 1) n in
    let j = leftmost_best w (i + 1) n in
    elim (dec_le (best_at w j) (best_at w i)) [
      | yes l ↦ rw (le-leb (best_at w j) (best_at w i) l) (record {
        from = omega arith;
        to = omega arith;
        greatest = λ k a b. first-or-later i k a (λ e. rw e (omega arith))
            (λ h. let g = r.greatest k h (omega arith) in omega arith);
        leftmost = λ k a b. absurd (omega arith);
      })
      | no l ↦ rw (lt-leb (best_at w j) (best_at w i) (omega arith)) (record {
        from = omega (arith, r.from);
        to = omega (arith, r.to);
        greatest = λ k a b. first-or-later i k a (λ e. rw e (omega arith)) (λ h. r.greatest k h (omega arith));
        leftmost = λ k a b. first-or-later i k a (λ e. rw e (omega arith)) (λ h. r.leftmost k h b);
      })
    ]
