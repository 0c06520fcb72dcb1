-- The fall keeps the front sound, and each step up leaves what is still to be done.
use Rattle.prelude.proofs.{ℕ, zero, suc, ◌+◌, ◌-◌, ◌/◌, ◌%◌, ◌≤◌, ◌<◌, arith, ◌≡◌, refl, sym, ◌∙◌, ap, subst, ◌⊎◌}
use Rattle.prelude.proofs.{inl, inr, true, false, cond, List, length, get_or, length-set}
use Rattle.gametree.specs.declared.Side.{Side}
use Rattle.gametree.specs.declared.Side.TheVariants.{Max, Min}
use Rattle.gametree.specs.{greatest}
use Rattle.lists.proofs.Choice.{cond_cases, clash}
use Rattle.table.specs.{max_nodes, frames, first_child, child_count, parent_of, side_of, WellFormed, ChildOf}
use Rattle.table.proofs.Next.{child-within}
use Rattle.table.proofs.Parents.{parent-less}
use Rattle.table_positions.specs.{parent_in}
use Rattle.table_positions.proofs.Positions.{positioned-parent}
use Rattle.sss_states.specs.{best_at, link_at, packed_entry, chosen_by_side, chosen_of, renewed, needs_refresh}
use Rattle.sss_states.specs.{Refreshed}
use Rattle.sss_states.specs.{refreshed, Sound, Fits, changed, Puttable, Putting}
use Rattle.sss_states.specs.declared.Change.{Change}
use Rattle.sss_states.proofs.Stores.{same_or_not, set_at, InRun, OutRun, in-or-out, changed-in, changed-node}
use Rattle.sss_states.proofs.Stores.{changed-out, changed-length, run-within}
use Rattle.sss_states.proofs.Ways.{leftmost-is}

-- a link is 0 or a child
abbrev pub LinkOf : List ℕ → ℕ → ℕ → Type 0
LinkOf t p c = (c ≡ 0) ⊎ ChildOf t p c

module _ (t w : List ℕ) (p : ℕ) where
  -- the child that p goes down to is one of its children
  chosen_by : (s : Side) (n : ℕ) → child_count t p ≡ n → LinkOf t p (link_at w p)
      → LinkOf t p (chosen_by_side t w p s n)
  chosen_by s zero e o = inl refl
  chosen_by Max (suc n) e o =
      let m = leftmost-is w (first_child t p) n in inr (record { from = m.from; to = omega (arith, m.to) })
  chosen_by Min (suc n) e o = o

  pub chosen-link : LinkOf t p (link_at w p) → LinkOf t p (chosen_of t w p)
  chosen-link o = chosen_by (side_of t p) (child_count t p) refl o

-- on the way up from a node with the front w₀, `at` is reached with the front w
pub record Falling (t F : List ℕ) (γ : ℕ) (w₀ : List ℕ) (node : ℕ) (w : List ℕ) (at : ℕ) : Type 0 where
  pub inside : at < frames t
  pub fits : Fits t F w
  pub same : refreshed at t γ w at ≡ refreshed node t γ w₀ node
  pub size : length w ≡ length w₀

-- what the code reads on a step up from node `at`: its parent p, and the child that p goes down to
pub record Rises (t w : List ℕ) (at p : ℕ) : Type 0 where
  pub is : p ≡ parent_of t at
  pub inside : p < frames t
  pub child : chosen_of t w p < frames t
  pub merit : best_at w (chosen_of t w p) ≤ greatest

-- a fall leaves a front of the same length
pub refreshed-length : (t : List ℕ) (γ f : ℕ) (w : List ℕ) (k : ℕ) → length (refreshed f t γ w k).front ≡ length w
unfolding refreshed
refreshed-length t γ zero w k = refl
refreshed-length t γ (suc f) w k =
    let p = parent_of t k in
    cond_cases (λ (r : Refreshed). length r.front ≡ length w) (needs_refresh w γ k) _ _
    (λ _. refreshed-length t γ f (renewed t w p) p ∙ length-set w p _) (λ _. refl)

module _ (t : List ℕ) (wf : WellFormed t) where
  -- a link is a node of the table
  link-inside : {p c : ℕ} → p < frames t → LinkOf t p c → c < frames t
  link-inside h (inl e) = rw e wf.non_empty
  link-inside h (inr c) = child-within t wf h c

  -- a front with a node's entry made anew stays sound
  renewed-sound : (w : List ℕ) (p : ℕ) → Sound t w → p < frames t → Sound t (renewed t w p)
  renewed-sound w p o h =
      let i = chosen-link t w p (o.links p h) in
      let c = chosen_of t w p in
      let l : c < max_nodes = omega (arith, link-inside h i, wf.at_most) in
      let b = o.merits c (omega (arith, link-inside h i, o.room)) in
      let v = packed_entry (best_at w c) c in
      let n = length-set w p v in
      let r : p < length w = omega (arith, o.room) in
      record {
        room = rw n o.room;
        at_most = rw n o.at_most;
        merits = λ k q. set_at (λ v. v / max_nodes ≤ greatest) w p k v r (λ e. omega arith) (o.merits k (rw n at q));
        links = λ k q. set_at (λ v. LinkOf t k (v % max_nodes)) w p k v r
            (λ e. let m : v % max_nodes ≡ c = omega arith in rw (m, e) i) (o.links k q);
      }

  module _ (γ : ℕ) where
    refreshed-enough : (f g : ℕ) (w : List ℕ) (k : ℕ) → k ≤ f → k ≤ g → refreshed f t γ w k ≡ refreshed g t γ w k
    unfolding refreshed
    refreshed-enough zero zero w k a b = refl
    refreshed-enough zero (suc g) w zero a b = refl
    refreshed-enough zero (suc g) w (suc k) a b = absurd (omega arith)
    refreshed-enough (suc f) zero w zero a b = refl
    refreshed-enough (suc f) zero w (suc k) a b = absurd (omega arith)
    refreshed-enough (suc f) (suc g) w zero a b = refl
    refreshed-enough (suc f) (suc g) w (suc k) a b =
        let l = parent-less t (suc k) (omega arith) in
        ap (λ x. cond (needs_refresh w γ (suc k)) x (record { front = w; top = suc k }))
        (refreshed-enough f g (renewed t w (parent_of t (suc k))) (parent_of t (suc k)) (omega arith) (omega arith))

    -- a step up
    refreshed-step : (w : List ℕ) (k : ℕ) → needs_refresh w γ k ≡ true
        → refreshed k t γ w k ≡ refreshed (parent_of t k) t γ (renewed t w (parent_of t k)) (parent_of t k)
    unfolding refreshed
    refreshed-step w zero e = clash (cc)
    refreshed-step w (suc k) e =
        let l = parent-less t (suc k) (omega arith) in
        rw e (refreshed-enough k (parent_of t (suc k)) (renewed t w (parent_of t (suc k))) (parent_of t (suc k))
        (omega arith)
        (omega arith))

    refreshed-end : (w : List ℕ) (k : ℕ) → needs_refresh w γ k ≡ false
        → refreshed k t γ w k ≡ record { front = w; top = k }
    unfolding refreshed
    refreshed-end w zero e = refl
    refreshed-end w (suc k) e = rw e

    up : (w : List ℕ) (k : ℕ) → needs_refresh w γ k ≡ true → (k ≡ 0) → ⊥
    up w zero e z = clash (cc)
    up w (suc k) e z = omega arith

    -- the fall leaves a sound front, and ends at a node of the table
    pub refreshed-keeps : (f : ℕ) (w : List ℕ) (k : ℕ) → Sound t w → k < frames t
        → Sound t (refreshed f t γ w k).front × ((refreshed f t γ w k).top < frames t)
    unfolding refreshed
    refreshed-keeps zero w k o h = (o, h)
    refreshed-keeps (suc f) w zero o h = (o, h)
    refreshed-keeps (suc f) w (suc k) o h =
        let p = parent_of t (suc k) in
        let l : p < frames t = omega (arith, parent-less t (suc k) (omega arith)) in
        cond_cases (λ (r : Refreshed). Sound t r.front × (r.top < frames t)) (needs_refresh w γ (suc k)) _ _
        (λ _. refreshed-keeps f (renewed t w p) p (renewed-sound w p o l) l) (λ _. (o, h))

-- a step up is within the table
pub rises : {t F w : List ℕ} {at p : ℕ} → Fits t F w → (0 < at) × (at < frames t) → p ≡ parent_in F at → Rises t w at p
rises {t} {F} {w} {at} {p} f h e =
    let q : p ≡ parent_of t at = e ∙ positioned-parent t F f.positions at h.1 in
    let l = parent-less t at h.0 in
    let i : p < frames t = omega (arith, h.1) in
    let c = link-inside t f.formed i (chosen-link t w p (f.sound.links p i)) in
    record { is = q; inside = i; child = c; merit = f.sound.merits _ (omega (arith, f.sound.room)) }

module _ {t F : List ℕ} {γ : ℕ} {w₀ : List ℕ} {node : ℕ} {w : List ℕ} {at : ℕ} (f : Falling t F γ w₀ node w at) where
  -- a node below the merit has a parent
  pub below-root : needs_refresh w γ at ≡ true → (0 < at) × (at < frames t)
  below-root e = let n = up t f.fits.formed γ w at e in (omega arith, f.inside)

  -- a step up is to a smaller number
  pub rises-less : {p : ℕ} → needs_refresh w γ at ≡ true → p ≡ parent_of t at → p < at
  rises-less e q = omega (arith, q, parent-less t at (below-root e).0)

  -- and leaves what is still to be done
  pub falling-again : {p : ℕ} {w' : List ℕ} → needs_refresh w γ at ≡ true → p ≡ parent_of t at
      → w' ≡ renewed t w (parent_of t at) → Falling t F γ w₀ node w' p
  falling-again e q z =
      let h = below-root e in
      let l = parent-less t at h.0 in
      let i : parent_of t at < frames t = omega (arith, h.1) in
      rw (q, z) (record {
        inside = i;
        fits = record {
          formed = f.fits.formed;
          positions = f.fits.positions;
          sound = renewed-sound t f.fits.formed w (parent_of t at) f.fits.sound i;
        };
        same = sym (refreshed-step t f.fits.formed γ w at e) ∙ f.same;
        size = length-set w (parent_of t at) _ ∙ f.size;
      })

  -- and the end leaves nothing
  pub refreshed-top : needs_refresh w γ at ≡ false → (at ≡ (refreshed node t γ w₀ node).top)
      × (w ≡ (refreshed node t γ w₀ node).front)
  refreshed-top e =
      let z : record { front = w; top = at } ≡ refreshed node t γ w₀ node =
      sym (refreshed-end t f.fits.formed γ w at e) ∙ f.same in
      (ap (λ (r : Refreshed). r.top) z, ap (λ (r : Refreshed). r.front) z)

-- A CHANGE

module _ (t F w : List ℕ) (γ : ℕ) (c : Change) (p : Putting t F w γ c) where
  in_table : (k : ℕ) → InRun c k → k < frames t
  in_table = run-within t p.fits.formed c p.here

  -- the run is within the table, and the change fits into the front
  pub putting-run : c.first + c.count ≤ frames t
  putting-run =
      let s = p.here.non_empty in omega (arith, in_table (c.first + c.count - 1) (omega arith, omega arith))

  pub putting-fits : Puttable γ c w
  putting-fits =
      let o = p.fits.sound in
      let l = putting-run in
      record {
        node = omega (arith, p.here.node, o.room);
        run = omega (arith, o.room);
        at_most = omega (arith, o.at_most);
        non_empty = omega (arith, p.here.non_empty, o.room);
        merit = p.merit;
        score = p.score;
      }

  -- a node that is none of its new states goes down to a child
  first-child : OutRun c c.node → ChildOf t c.node c.first
  first-child o =
      elim (p.here.run c.first (omega arith) (omega (arith, p.here.non_empty))) [
        | inl z ↦ absurd (apart o z)
        | inr h ↦ h
      ]
    where
      apart : OutRun c c.node → c.first ≡ c.node → ⊥
      apart (inl h) z = omega arith
      apart (inr h) z = omega (arith, p.here.non_empty)

  -- what holds of a new state's entry, of the node's own and of what was there holds of what is read after the change
  changed-at : (P : ℕ → Type 0) (k : ℕ) → k < length w → P (packed_entry c.score 0)
      → (k ≡ c.node → ChildOf t c.node c.first → P (packed_entry γ c.first)) → P (get_or w k 0)
      → P (get_or (changed γ c w) k 0)
  changed-at P k l new node old =
      elim (in-or-out c k) [
        | inl i ↦ rw (changed-in γ c w k i l) new
        | inr o ↦ same_or_not k c.node (λ e. let o' = subst (λ k. OutRun c k) e o in
            rw (e, changed-node γ c w o' (rw (← e) l)) (node e (first-child o')))
            (λ n. rw (changed-out γ c w k o n) old)
      ]

  -- the change leaves a sound front
  pub changed-sound : Sound t (changed γ c w)
  changed-sound =
      let n = changed-length γ c w in
      let o = p.fits.sound in
      record {
        room = rw n o.room;
        at_most = rw n o.at_most;
        merits = λ k h. changed-at (λ v. v / max_nodes ≤ greatest) k (rw n at h) (omega (arith, p.score))
            (λ e i. omega (arith, p.merit, small i)) (o.merits k (rw n at h));
        links = λ k h. changed-at (λ v. LinkOf t k (v % max_nodes)) k (omega (arith, o.room)) (inl (omega arith))
            (λ e i. let m : packed_entry γ c.first % max_nodes
            ≡ c.first = omega (arith, small i) in inr (rw (m, e) i))
            (o.links k h);
      }
    where
      small : ChildOf t c.node c.first → c.first < max_nodes
      small h = omega (arith, child-within t p.fits.formed p.here.node h, p.fits.formed.at_most)
