-- What replaces a state is a change at and below one node of the table.
use Rattle.prelude.proofs.{ℕ, zero, suc, ◌+◌, ◌≤◌, ◌<◌, arith, ◌≡◌, refl, sym, ◌∙◌, inl, inr, List, ltb, ltb-true}
use Rattle.gametree.specs.declared.Side.{Side}
use Rattle.gametree.specs.declared.Side.TheVariants.{Max, Min}
use Rattle.gametree.specs.{greatest}
use Rattle.lists.proofs.Choice.{cond_cases}
use Rattle.table.specs.{frames, first_child, child_count, parent_of, side_of, ChildOf}
use Rattle.table.proofs.Parents.{parent-child}
use Rattle.sss_states.specs.declared.Status.{Status}
use Rattle.sss_states.specs.declared.Status.TheVariants.{Live, Solved}
use Rattle.sss_states.specs.declared.Change.{Change}
use Rattle.sss_states.specs.{Fits, Local, Putting}
use Rattle.sss_states.specs.declared.State.{State}
use Rattle.certificate_bounds.specs.{Progress}
use Rattle.table_positions.specs.{parent_in}
use Rattle.table_positions.proofs.Positions.{positioned-parent}
use Rattle.sss_turns.specs.{Replaceable, one, of_inner, of_live, of_child, of_state}

-- the parent that is read of a SOLVED state's node is its parent, a node of the table
pub parent-read : {t F : List ℕ} {p : Progress} {e : State} {γ d : ℕ} → Replaceable t F p e γ → e.status ≡ Solved
    → d ≡ parent_in F e.node → (d ≡ parent_of t e.node) × (d < frames t)
parent-read {t} {F} {e = e} r s z =
    let q = z ∙ positioned-parent t F r.positions e.node r.node in
    (q, rw q (parent-child t r.formed e.node (r.lower s) r.node).0)

module _ (t : List ℕ) where
  -- a state of the node itself
  pub own-local : (i : ℕ) (s : Status) (m : ℕ) → i < frames t → Local t (one i i s m)
  own-local i s m h = record { node = h; non_empty = omega arith; run = λ k a b. inl (omega arith) }

  -- of one child
  pub child-local : (p i : ℕ) (s : Status) (m : ℕ) → p < frames t → ChildOf t p i → Local t (one p i s m)
  child-local p i s m h c =
      record { node = h; non_empty = omega arith; run = λ k a b. inr (let e : k ≡ i = omega arith in rw e c) }

  -- of all children
  pub kids-local : (i n γ : ℕ) → i < frames t → child_count t i ≡ suc n → Local t (of_inner t i γ Max (suc n))
  kids-local i n γ h e =
      record { node = h; non_empty = omega arith; run = λ k a b. inr (record { from = a; to = rw e b }) }

module _ (t F w : List ℕ) (γ : ℕ) (f : Fits t F w) (g : γ ≤ greatest) where
  putting : (c : Change) → Local t c → c.score ≤ greatest → Putting t F w γ c
  putting c o b = record { fits = f; here = o; merit = g; score = b }

  -- a state of the node itself
  pub own_put : (i : ℕ) (s : Status) (m : ℕ) → i < frames t → m ≤ greatest → Putting t F w γ (one i i s m)
  own_put i s m h b = putting _ (own-local t i s m h) b

  -- of one child
  child-put : (p i : ℕ) → p < frames t → ChildOf t p i → Putting t F w γ (one p i Live γ)
  child-put p i h c = putting _ (child-local t p i Live γ h c) g

  pub inner-put : (i n : ℕ) (s : Side) → i < frames t → n ≡ child_count t i → (n ≡ 0 → ⊥)
      → Putting t F w γ (of_inner t i γ s n)
  inner-put i zero s h e z = absurd (z refl)
  inner-put i (suc n) Max h e z = putting _ (kids-local t i n γ h (sym e)) g
  inner-put i (suc n) Min h e z = child-put i (first_child t i) h (record { from = omega arith; to = omega arith })

  pub solved-put : (i : ℕ) (s : Side) → 0 < i → i < frames t → Putting t F w γ (of_child t i γ (parent_of t i) s)
  solved-put i Max z h =
      own_put (parent_of t i) Solved γ (parent-child t f.formed i z h).0 g
  solved-put i Min z h =
      let c = parent-child t f.formed i z h in
      let p = parent_of t i in
      cond_cases (λ x. Putting t F w γ x) (ltb (i + 1) (first_child t p + child_count t p)) _ _
      (λ e. child-put p (i + 1) c.0 (record {
        from = omega (arith, c.1.from);
        to = ltb-true (i + 1) (first_child t p + child_count t p) e;
      }))
      (λ e. own_put p Solved γ c.0 g)

  live-put : (i : ℕ) (s : Side) (n : ℕ) → i < frames t → n ≡ child_count t i → Putting t F w γ (of_live t i γ s n)
  live-put i s zero h e = own_put i Solved _ h (omega arith)
  live-put i s (suc n) h e = inner-put i (suc n) s h e (λ z. omega arith)

  -- what replaces a state of node i
  pub state-put : (i : ℕ) (s : Status) → i < frames t → (s ≡ Solved → 0 < i) → Putting t F w γ (of_state t i γ s)
  state-put i Live h z = live-put i (side_of t i) (child_count t i) h refl
  state-put i Solved h z = solved-put i (side_of t (parent_of t i)) (z refl) h
