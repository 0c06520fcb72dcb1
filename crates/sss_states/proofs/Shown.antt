-- Laws of fronts kept in arrays: their merits, that they are fronts of the tree, how the states around a node and those
-- below it make the whole, and the way down to the best state.
use Rattle.prelude.proofs.{ℕ, ◌+◌, ◌≤◌, ◌<◌, arith, ◌≡◌, refl, sym, ◌∙◌, ap, ap₂, subst, inl, inr, List, [], ◌∷◌, ◌++◌}
use Rattle.prelude.proofs.{append_assoc, append-nil}
use Rattle.gametree.specs.declared.Side.{Side}
use Rattle.gametree.specs.{Tree, Children, number, State}
use Rattle.gametree_theory.proofs.Sss.Fronts as fronts
use Rattle.lists.proofs.Lists.{all_append, all_map}
use Rattle.sss_states.specs.{Arrays, Listed, Leads, Shows, listed, expanded, Siblings, none, one, more, Beside}
use Rattle.sss_states.specs.{only, first, later, Around, top, child, Below, BestFound, state_at}

-- merits below m are below what is no less
below : {m k : ℕ} (L : List State) → m ≤ k → Below m L → Below k L
below {m} {k} L h = all_map (λ s. s.merit < m) (λ s. s.merit < k) (λ s i. omega arith) L

-- MERITS

module _ (a : Arrays) where
  mutual
    -- the states shown at and below a node have at most its greatest merit
    shown-merits : {t : Tree} {L : List State} → Shows a t L → Below (a.best (number t) + 1) L
    shown-merits (listed h) = rw h.only (omega arith, tt)
    shown-merits (expanded {n = n} F M G l h b e) =
        let r = beside-merits b in
        rw e (all_append (λ s. s.merit < a.best n + 1) F (M ++ G) (below F (omega arith) r.0)
        (all_append (λ s. s.merit < a.best n + 1) M G (rw l.best (shown-merits h)) r.1))

    siblings-merits : {q : Side} {m : ℕ} {ks : Children} {L : List State} → Siblings a q m ks L → Below m L
    siblings-merits none = tt
    siblings-merits (one {L = L} m h i) = below L (omega arith) (shown-merits h)
    siblings-merits (more m F G h i b e) =
        rw e (all_append (λ s. s.merit < m) F G (below F (omega arith) (shown-merits h)) (siblings-merits b))

    -- the states around a child have lesser merits before, and no greater ones behind
    beside-merits : {q : Side} {m : ℕ} {ks : Children} {u : Tree} {F G : List State} → Beside a q m ks u F G
        → Below m F × Below (m + 1) G
    beside-merits only = (tt, tt)
    beside-merits (first b) = (tt, siblings-merits b)
    beside-merits (later {m = m} F₁ F₂ b c e) =
        let r = beside-merits c in
        (rw e (all_append (λ s. s.merit < m) F₁ F₂ (siblings-merits b) r.0), r.1)

  -- so have the states around a node on the way down
  around-merits : {r : Tree} {m : ℕ} {u : Tree} {A B : List State} → Around a r m u A B → Below m A × Below (m + 1) B
  around-merits top = (tt, tt)
  around-merits {m = m} (child {X = X} {Z = Z} F G w b h p q) =
      let o = around-merits w in
      let s = beside-merits b in (
        rw p (all_append (λ s. s.merit < m) X F o.0 s.0),
        rw q (all_append (λ s. s.merit < m + 1) G Z s.1 o.1),
      )

  -- u is one of the children
  pub beside-child : {q : Side} {m : ℕ} {ks : Children} {u : Tree} {F G : List State} → Beside a q m ks u F G
      → fronts.ChildIn u ks
  beside-child only = refl
  beside-child (first b) = inl refl
  beside-child (later F₁ F₂ b c e) = inr (beside-child c)

-- THE STATES SHOWN ARE A FRONT OF THE TREE

module _ (a : Arrays) where
  mutual
    -- at and below a node
    shown-front : {t : Tree} {L : List State} → Shows a t L → fronts.Front t L
    shown-front (listed {t = t} h) = rw h.only (fronts.alone-front t (state_at (number t) h.status _) refl)
    shown-front (expanded {q = q} {ks = ks} {u = u} F M G l h b e) =
        rw e (inr (fronts.beside-front q ks u F G M (beside-front b) (shown-front h)))

    siblings-front : {q : Side} {m : ℕ} {ks : Children} {L : List State} → Siblings a q m ks L → fronts.Siblings q ks L
    siblings-front none = refl
    siblings-front (one m h i) = shown-front h
    siblings-front (more m F G h i b e) = (F, G, e, shown-front h, siblings-front b)

    -- beside a child
    pub beside-front : {q : Side} {m : ℕ} {ks : Children} {u : Tree} {F G : List State} → Beside a q m ks u F G
        → fronts.Beside q ks u F G
    beside-front only = (refl, refl, refl)
    beside-front (first b) = inl (refl, refl, siblings-front b)
    beside-front (later F₁ F₂ b c e) = inr (F₁, F₂, e, siblings-front b, beside-front c)

  -- and around it
  pub around-within : {r : Tree} {m : ℕ} {u : Tree} {A B : List State} → Around a r m u A B → fronts.Within r u A B
  around-within top = fronts.top
  around-within (child F G w b h p q) = fronts.child F G (around-within w) (beside-front b) p q

-- THE WAY DOWN

-- the states before, below and behind u, as those before, below and behind its parent
pub regroup : {A B : List State} (X F M G Z : List State) → A ≡ X ++ F → B ≡ G ++ Z
    → X ++ ((F ++ (M ++ G)) ++ Z) ≡ A ++ (M ++ B)
regroup X F M G Z p q = rw (p, q) (simp append_assoc)

-- node c is on the way down to the best state of the list L, of merit m
pub record Standing (a : Arrays) (r : Tree) (m : ℕ) (L : List State) (c : ℕ) : Type 0 where
  pub tree : Tree
  pub number_is : number tree ≡ c
  pub left : List State
  pub states : List State
  pub right : List State
  pub around : Around a r m tree left right
  pub shown : Shows a tree states
  pub best : a.best c ≡ m
  pub parts : left ++ (states ++ right) ≡ L

module _ (a : Arrays) where
  -- the whole, from the states around a node of greatest merit and those that it shows
  pub whole : {r : Tree} {m : ℕ} {u : Tree} {A B : List State} → Around a r m u A B → (M : List State) → Shows a u M
      → a.best (number u) ≡ m → Shows a r (A ++ (M ++ B)) × (a.best (number r) ≡ m)
  whole {r} top M h e = (subst (λ L. Shows a r L) (sym (append-nil M)) h, e)
  whole {r} (child {X = X} {Z = Z} F G w b l p q) M h e =
      let leads : Leads a _ _ = record { link = l.link; later = l.later; best = l.best ∙ sym e } in
      let v = whole w (F ++ (M ++ G)) (expanded F M G leads h (rw l.best b) refl) l.best in
      (subst (λ L. Shows a r L) (regroup X F M G Z p q) v.0, v.1)

  -- a node without a link is on the list
  shows-listed : {t : Tree} {L : List State} → Shows a t L → a.link (number t) ≡ 0 → Listed a (number t) L
  shows-listed (listed h) e = h
  shows-listed (expanded F M G l h b i) e = absurd (omega (arith, l.link, l.later))

  -- the root is on the way
  pub standing-root : (r : Tree) (L : List State) → Shows a r L → Standing a r (a.best (number r)) L (number r)
  standing-root r L h =
      record {
        tree = r;
        number_is = refl;
        left = [];
        states = L;
        right = [];
        around = top;
        shown = h;
        best = refl;
        parts = append-nil L;
      }

  down : {r u : Tree} {m : ℕ} {A M B : List State} → Around a r m u A B → Shows a u M → a.best (number u) ≡ m
      → 0 < a.link (number u) → Standing a r m (A ++ (M ++ B)) (a.link (number u)) × (number u < a.link (number u))
  down w (listed h) e l = absurd (omega (arith, h.link))
  down {A = A} {B = B} w (expanded F M G i h b j) e l = (
    record {
      tree = _;
      number_is = sym i.link;
      left = A ++ F;
      states = M;
      right = G ++ B;
      around = child F G w (rw e at b) (record { link = i.link; later = i.later; best = e }) refl refl;
      shown = h;
      best = ap a.best i.link ∙ sym i.best ∙ e;
      parts = sym (regroup A F M G B refl refl) ∙ ap (λ l. A ++ (l ++ B)) (sym j);
    },
    omega (arith, i.link, i.later),
  )

  -- the way goes down by the link, to a larger number
  pub standing-down : {r : Tree} {m : ℕ} {L : List State} {c : ℕ} → Standing a r m L c → 0 < a.link c
      → Standing a r m L (a.link c) × (c < a.link c)
  standing-down {r} {m} {L} {c} s l =
      let e = s.number_is in
      let d = down s.around s.shown (ap a.best e ∙ s.best) (subst (λ k. 0 < a.link k) (sym e) l) in
      let d0 = subst (λ k. Standing a r m k (a.link (number s.tree))) s.parts d.0 in
      (subst (λ k. Standing a r m L (a.link k)) e d0, subst (λ k. k < a.link k) e d.1)

  -- at its end is the leftmost state of greatest merit
  pub standing-found : {r : Tree} {m : ℕ} {L : List State} {c : ℕ} → Standing a r m L c → a.link c ≡ 0
      → BestFound a r m L c
  standing-found {r} {m} {L} {c} s e =
      let i = s.number_is in
      let h = shows-listed s.shown (ap a.link i ∙ e) in
      let g = around-merits a s.around in
      let j : a.best (number s.tree) ≡ m = ap a.best i ∙ s.best in
      record {
        tree = s.tree;
        number_is = i;
        status = h.status;
        says = subst (λ k. a.says c h.status k) j (subst (λ k. a.says k h.status (a.best (number s.tree))) i
            h.says);
        left = s.left;
        right = s.right;
        around = s.around;
        parts = sym s.parts ∙ ap (λ l. s.left ++ (l ++ s.right))
            (h.only ∙ ap₂ (λ x y. state_at x h.status y ∷ []) i j);
        lesser = g.0;
        no-greater = all_map (λ s. s.merit < m + 1) (λ s. s.merit ≤ m) (λ s i. omega arith) s.right g.1;
      }
