-- Where the merit of a node fell, the entries above it are made anew up to a node whose greatest merit stays; from
-- there the links lead to the state to take.
use Rattle.prelude.proofs.{ℕ, zero, suc, ◌+◌, ◌≤◌, ◌<◌, arith, ◌≡◌, refl, sym, ◌∙◌, ap, ap₂, subst, inl, List, [], ◌++◌}
use Rattle.prelude.proofs.{append-nil, length, set, length-set, get_or-set_same, get_or-set_other, eqb, ltb-true}
use Rattle.prelude.proofs.{ltb-false}
use Rattle.prelude.proofs.{eqb-true, eqb-false}
use Rattle.lists.proofs.Choice.{cond_cases}
use Rattle.gametree.specs.declared.Side.{Side}
use Rattle.gametree.specs.declared.Side.TheVariants.{Max, Min}
use Rattle.gametree.specs.{Tree, inner, Children, number, InChildren, Distinct}
use Rattle.gametree.specs.Sss as theory
use Rattle.gametree_theory.proofs.Sss.FrontSteps.{in-child}
use Rattle.table.specs.{max_nodes, frames, first_child, parent_of, WellFormed, ChildOf, tree}
use Rattle.table.proofs.Next.{child-within, child-later}
use Rattle.table.proofs.Nodes.{tree-distinct}
use Rattle.table.proofs.Trees.{tree-number}
use Rattle.sss_states.specs.declared.State.{State}
use Rattle.sss_states.specs.{Above, Leads, Shows, expanded, Siblings, Beside, Around, top, child, best_at, link_at}
use Rattle.sss_states.specs.{packed_entry, arrays_of, leftmost_best, chosen_by_side, chosen_of, renewed, needs_refresh}
use Rattle.sss_states.specs.{Refreshed, refreshed, descended}
use Rattle.sss_states.proofs.Shown.{beside-child, whole, regroup, Standing, standing-root, standing-down}
use Rattle.sss_states.proofs.Changes.{AgreeAt, child-distinct, shown-same, beside_same, around-distinct}
use Rattle.sss_states.proofs.Changes.{around-same}
use Rattle.sss_states.proofs.Changes.{beside-all, beside-min}
use Rattle.sss_states.proofs.Ways.{Inner, inner-is, child-is, around-own, parent-own, Chosen, leftmost-chosen}
use Rattle.sss_states.proofs.Ways.{leftmost-is}

-- the other entries stay
agree-set : (ls : List State) (w : List ℕ) (p v k : ℕ) → (k ≡ p → ⊥)
    → AgreeAt (arrays_of ls w) (arrays_of ls (set w p v)) k
agree-set ls w p v k n =
    record {
      says = λ s m h. h;
      link = rw (get_or-set_other w p k v 0 n);
      best = rw (get_or-set_other w p k v 0 n);
    }

module _ (t : List ℕ) (wf : WellFormed t) (ls : List State) (γ : ℕ) where
  -- the list L is shown, with the state to take at or below the top
  abbrev Settled : List theory.State → Refreshed → Type 0
  Settled L r = Standing (arrays_of ls r.front) (tree t) (best_at r.front 0) L r.top

  distinct : Distinct (tree t)
  distinct = tree-distinct t wf 0 wf.non_empty

  -- at the root the fall ends
  at-root : (w : List ℕ) (u : Tree) (A M B : List theory.State) → Around (arrays_of ls w) (tree t) γ u A B
      → Shows (arrays_of ls w) u M → number u ≡ 0 → Settled (A ++ (M ++ B)) (record { front = w; top = 0 })
  at-root w u A M B top h e =
      subst (λ k. Standing (arrays_of ls w) (tree t) (best_at w k) (M ++ []) k) e
      (standing-root (arrays_of ls w) (tree t) (M ++ []) (rw (append-nil M) h))
  at-root w u A M B (child F G a b h' p q) h e = absurd (omega (arith, h'.later))

  -- and where the greatest merit stays
  at-stay : (w : List ℕ) (u : Tree) (k : ℕ) (A M B : List theory.State) → Around (arrays_of ls w) (tree t) γ u A B
      → Shows (arrays_of ls w) u M → number u ≡ k → best_at w k ≡ γ
      → Settled (A ++ (M ++ B)) (record { front = w; top = k })
  at-stay w u k A M B a h e i =
      let v = whole (arrays_of ls w) a M h (ap (best_at w) e ∙ i) in
      let z : γ ≡ best_at w 0 = sym v.1 ∙ ap (best_at w) (tree-number t 0) in
      record {
        tree = u;
        number_is = e;
        left = A;
        states = M;
        right = B;
        around = subst (λ m. Around (arrays_of ls w) (tree t) m u A B) z a;
        shown = h;
        best = i ∙ z;
        parts = refl;
      }

  -- what falling from a node promises, with f for the steps
  abbrev Falls : ℕ → Type 0
  Falls f =
      (w : List ℕ) (u : Tree) (k : ℕ) (A M B : List theory.State) → frames t ≤ length w
      → Around (arrays_of ls w) (tree t) γ u A B → Shows (arrays_of ls w) u M → number u ≡ k → best_at w k ≤ γ → k ≤ f
      → Settled (A ++ (M ++ B)) (refreshed f t γ w k)

  -- the child that the parent of u, whose merit may have fallen, goes down to then
  choice : (w : List ℕ) (u : Tree) (n : ℕ) (q : Side) (ks : Children) (F M G : List theory.State) → Inner t n q ks
      → Beside (arrays_of ls w) q γ ks u F G → Above (arrays_of ls w) γ n u → Shows (arrays_of ls w) u M
      → best_at w (number u) ≤ γ → Chosen (arrays_of ls w) q ks γ (F ++ (M ++ G)) (chosen_of t w n)
  choice w u n Max ks F M G i b p h g =
      let x = arrays_of ls w in
      let m = leftmost-is w (first_child t n) i.others in
      let e : chosen_of t w n ≡ leftmost_best w (first_child t n) i.others =
      ap₂ (λ s j. chosen_by_side t w n s j) (sym i.side) i.count in
      rw (e, i.kids) (leftmost-chosen t x γ (first_child t n) i.others _ (F ++ (M ++ G))
      (subst (λ z. Siblings x Max (γ + 1) z (F ++ (M ++ G))) i.kids (beside-all x M b h g)) m.from m.to
      m.leftmost m.greatest)
  choice w u n Min ks F M G i b p h g =
      let e : chosen_of t w n ≡ number u = ap₂ (λ s j. chosen_by_side t w n s j) (sym i.side) i.count ∙ p.link in
      rw e (record {
        tree = u;
        number_is = refl;
        before = F;
        states = M;
        behind = G;
        beside = beside-min (arrays_of ls w) _ b;
        shown = h;
        parts = refl;
        limit = g;
      })

  -- its entry is made anew, and the fall goes on
  refresh-ancestors-over : (f : ℕ) → Falls f → (w : List ℕ) (u : Tree) (n : ℕ) (q : Side) (ks : Children)
      (X F M G Z : List theory.State)
      → frames t ≤ length w → Around (arrays_of ls w) (tree t) γ (inner n q ks) X Z
      → Beside (arrays_of ls w) q γ ks u F G → Above (arrays_of ls w) γ n u → Shows (arrays_of ls w) u M
      → best_at w (number u) ≤ γ → n ≤ f
      → Settled (X ++ ((F ++ (M ++ G)) ++ Z)) (refreshed f t γ (renewed t w n) n)
  refresh-ancestors-over f again w u n q ks X F M G Z r a b p h g l =
      let x = arrays_of ls w in
      let o = around-own t wf a in
      let c = choice w u n q ks F M G (inner-is t wf n q ks o.0 o.1) b p h g in
      let j = chosen_of t w n in
      let i = beside-child x c.beside in
      let ch : ChildOf t n j = rw c.number_is at (child-is t wf n q ks c.tree o.0 o.1 i).0 in
      let later = child-later t wf o.1 ch in
      let small : j < max_nodes = omega (arith, child-within t wf o.1 ch, wf.at_most) in
      let room : n < length w = omega (arith, o.1) in
      let v = packed_entry (best_at w j) j in
      let y = arrays_of ls (set w n v) in
      let d = around-distinct x a distinct in
      let agree : (k : ℕ) → (k ≡ n → ⊥) → AgreeAt x y k = λ k. agree-set ls w n v k in
      let within : (k : ℕ) → InChildren k ks → AgreeAt x y k =
      λ k j. agree k (λ z. d.0 (subst (λ q. InChildren q ks) z j)) in
      let e = get_or-set_same w n v 0 room in
      let best_n : best_at (set w n v) n ≡ best_at w j = rw e (omega arith) in
      let link_n : link_at (set w n v) n ≡ j = rw e (omega arith) in
      let leads : Leads y n c.tree = record {
        link = link_n ∙ sym c.number_is;
        later = rw c.number_is later;
        best = best_n ∙ sym (agree j (λ z. omega arith)).best ∙ ap (best_at (set w n v)) (sym c.number_is);
      } in
      again (set w n v) (inner n q ks) n X (F ++ (M ++ G)) Z (rw (length-set w n v) r)
      (around-same x y distinct (λ k j. agree k (λ z. j (inl z))) a)
      (expanded c.before c.states c.behind leads
      (shown-same x y c.shown (child-distinct c.tree ks i d.1) (λ k j. within k (in-child k c.tree ks i j)))
      (rw best_n (beside_same x y c.beside d.1 (λ k j _. within k j))) c.parts) refl (rw best_n c.limit) l

  -- a step up
  refresh-ancestors-step : (f : ℕ) → Falls f → (w : List ℕ) (u : Tree) (k : ℕ) (A M B : List theory.State)
      → frames t ≤ length w
      → Around (arrays_of ls w) (tree t) γ u A B → Shows (arrays_of ls w) u M → number u ≡ k → best_at w k < γ → 0 < k
      → k ≤ suc f → Settled (A ++ (M ++ B)) (refreshed f t γ (renewed t w (parent_of t k)) (parent_of t k))
  refresh-ancestors-step f again w u k A M B r top h e b z l = absurd (omega (arith, tree-number t 0))
  refresh-ancestors-step f again w u k A M B r (child {n = n} {q = q} {ks = ks} {X = X} {Z = Z} F G a s p i j) h e b z
      l =
      let m : parent_of t k ≡ n = ap (parent_of t) (sym e) ∙ parent-own t wf a s in
      subst (λ x. Settled (A ++ (M ++ B)) (refreshed f t γ (renewed t w x) x)) (sym m)
      (subst (λ L. Settled L (refreshed f t γ (renewed t w n) n)) (regroup X F M G Z i j)
      (refresh-ancestors-over f again w u n q ks X F M G Z r a s p h (rw e (omega arith)) (omega (arith, p.later))))

  -- falling settles the front
  pub refresh-ancestors-at : (f : ℕ) → Falls f
  unfolding refreshed
  refresh-ancestors-at zero w u k A M B r a h e b l =
      let z : k ≡ 0 = omega arith in
      subst (λ i. Settled (A ++ (M ++ B)) (record { front = w; top = i })) (sym z) (at-root w u A M B a h (e ∙ z))
  refresh-ancestors-at (suc f) w u zero A M B r a h e b l = at-root w u A M B a h e
  refresh-ancestors-at (suc f) w u (suc k) A M B r a h e b l =
      cond_cases (Settled (A ++ (M ++ B))) (needs_refresh w γ (suc k)) _ _
      (λ q. refresh-ancestors-step f (refresh-ancestors-at f) w u (suc k) A M B r a h e
      (ltb-true (best_at w (suc k)) γ q) (omega arith)
      (omega arith))
      (λ q. at-stay w u (suc k) A M B a h e (omega (arith, ltb-false (best_at w (suc k)) γ q)))

-- the links lead to the state to take
pub descend-at : (t : List ℕ) (wf : WellFormed t) (ls : List State) (w : List ℕ) (m f k : ℕ) (L : List theory.State)
    → frames t ≤ k + f → Standing (arrays_of ls w) (tree t) m L k
    → Standing (arrays_of ls w) (tree t) m L (descended f w k) × (link_at w (descended f w k) ≡ 0)
unfolding descended
descend-at t wf ls w m zero k L b s =
    absurd (omega (arith, (around-own t wf s.around).1, s.number_is))
descend-at t wf ls w m (suc f) k L b s =
    cond_cases (λ j. Standing (arrays_of ls w) (tree t) m L j × (link_at w j ≡ 0)) (eqb (link_at w k) 0) _ _
    (λ q. (s, eqb-true (link_at w k) 0 q))
    (λ q. let d = standing-down (arrays_of ls w) s (omega (arith, eqb-false (link_at w k) 0 q)) in
    descend-at t wf ls w m f (link_at w k) L (omega (arith, d.1)) d.0)
