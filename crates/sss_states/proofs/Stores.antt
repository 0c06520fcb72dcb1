-- A change at and below a node: which nodes it is at, and what is read after its run of entries has been stored.
use Rattle.prelude.proofs.{ℕ, zero, suc, ◌+◌, ◌-◌, ◌≤◌, ◌<◌, arith, dec_le, ◌≡◌, refl, ◌∙◌, ◌⊎◌, inl, inr, List, length}
use Rattle.prelude.proofs.{[], ◌∷◌, ◌++◌, sym, ap, replicate, take, drop, take-append-drop, take-suc-set, drop-set-lt}
use Rattle.prelude.proofs.{ap₂, append_assoc, append-nil, length-replicate, take_all, get_or, set, length-set}
use Rattle.prelude.proofs.{get_or-set_same, get_or-set_other}
use borrow.Rule.Slice.PartMut.{put_mid}
use Rattle.std.specs.List.{between}
use Rattle.std.proofs.lemmas.Slice.{put_mid-paste}
use Rattle.std.proofs.lemmas.List.Edits.{length-between}
use Rattle.table.specs.{frames, WellFormed, ChildOf}
use Rattle.table.proofs.Next.{child-within}
use Rattle.sss_states.specs.declared.Change.{Change}
use Rattle.table_positions.specs.{stored}
pub use Rattle.table_positions.proofs.Runs.{stored-length}
use Rattle.sss_states.specs.{packed_entry, changed, Local}

-- k is the first of the numbers from i on, or a later one
pub first-or-later : {R : Type 0} (i k : ℕ) → i ≤ k → (k ≡ i → R) → (i + 1 ≤ k → R) → R
first-or-later i k h f g =
    elim (dec_le k i) [
      | yes a ↦ f (omega arith)
      | no a ↦ g (omega arith)
    ]

-- two numbers are equal or not
pub same_or_not : {R : Type 0} (k p : ℕ) → (k ≡ p → R) → ((k ≡ p → ⊥) → R) → R
same_or_not k p f g =
    elim (dec_le p k) [
      | no a ↦ g (λ e. omega arith)
      | yes a ↦ first-or-later p k a f (λ l. g (λ e. omega arith))
    ]

-- what holds of an entry and of what was there before holds of what is read after it is stored
pub set_at : (P : ℕ → Type 0) (w : List ℕ) (p k v : ℕ) → p < length w → (k ≡ p → P v) → P (get_or w k 0)
    → P (get_or (set w p v) k 0)
set_at P w p k v l f g =
    same_or_not k p (λ e. rw (e, get_or-set_same w p v 0 l) (f e)) (λ n. rw (get_or-set_other w p k v 0 n) g)

module _ {A : Type 0} (f : ℕ → A) where
  -- outside the run nothing changes
  pub stored-out : (i n : ℕ) (xs : List A) (k : ℕ) (d : A) → (k < i) ⊎ (i + n ≤ k)
      → get_or (stored f i n xs) k d ≡ get_or xs k d
  unfolding stored
  stored-out i zero xs k d o = refl
  stored-out i (suc n) xs k d (inl o) =
      stored-out (i + 1) n (set xs i (f i)) k d (inl (omega arith)) ∙ get_or-set_other xs i k (f i) d (λ z. omega arith)
  stored-out i (suc n) xs k d (inr o) =
      stored-out (i + 1) n (set xs i (f i)) k d (inr (omega arith)) ∙ get_or-set_other xs i k (f i) d (λ z. omega arith)

  -- in it stands what was stored
  pub stored-in : (i n : ℕ) (xs : List A) (k : ℕ) (d : A) → i ≤ k → k < i + n → k < length xs
      → get_or (stored f i n xs) k d ≡ f k
  unfolding stored
  stored-in i zero xs k d a b l = absurd (omega arith)
  stored-in i (suc n) xs k d a b l =
      first-or-later i k a
      (λ e.
      rw e (stored-out (i + 1) n (set xs i (f i)) i d (inl (omega arith)) ∙ get_or-set_same xs i (f i) d (omega arith)))
      (λ o. stored-in (i + 1) n (set xs i (f i)) k d o (omega arith) (rw (length-set xs i (f i)) l))

-- one entry stored at each number of a run fills it
stored-same : {A : Type 0} (v : A) (i n : ℕ) (b : List A) → i + n ≤ length b
    → stored (λ k. v) i n b ≡ take i b ++ replicate n v ++ drop (i + n) b
unfolding stored
stored-same v i zero b h =
    let z : i + 0 ≡ i = omega arith in
    sym (ap₂ (λ l k. l ++ drop k b) (append-nil (take i b)) z ∙ take-append-drop i b)
stored-same v i (suc n) b h =
    let k : i + 1 ≡ suc i = omega arith in
    let l = ap (λ k. take k (set b i v)) k ∙ take-suc-set b i v (omega arith) in
    let e : i + 1 + n ≡ i + suc n = omega arith in
    let r = drop-set-lt (i + 1 + n) b i v (omega arith) in
    stored-same v (i + 1) n (set b i v) (omega (arith, length-set b i v))
    ∙ ap₂ (λ x y. x ++ replicate n v ++ y) l r
    ∙ ap₂ (λ x k. x ++ drop k b) (append_assoc (take i b) (v ∷ []) (replicate n v)) e

pub stored-fill : {A : Type 0} (v : A) (i n : ℕ) (b ys : List A) → i + n ≤ length b
    → ys ≡ replicate (length (between i (i + n) b)) v → put_mid i (i + n - i) b ys ≡ stored (λ k. v) i n b
stored-fill v i n b ys h e =
    let k : n ≡ i + n - i = omega arith in
    let m : length (between i (i + n) b) ≡ n = omega (arith, length-between b i (i + n) h) in
    put_mid-paste i (i + n - i) b ys (replicate n v) n (e ∙ ap (λ z. replicate z v) m) k (sym (length-replicate n v))
    ∙ ap (λ x. take i b ++ x ++ drop (i + n) b) (take_all n (replicate n v) (omega (arith, length-replicate n v)))
    ∙ sym (stored-same v i n b h)

-- WHAT A CHANGE STORES

-- node k gets one of the new states, or is none of those
abbrev pub InRun : Change → ℕ → Type 0
InRun c k = (c.first ≤ k) × (k < c.first + c.count)

abbrev pub OutRun : Change → ℕ → Type 0
OutRun c k = (k < c.first) ⊎ (c.first + c.count ≤ k)

pub in-or-out : (c : Change) (k : ℕ) → InRun c k ⊎ OutRun c k
in-or-out c k =
    elim (dec_le c.first k) [
      | no a ↦ inr (inl (omega arith))
      | yes a ↦ elim (dec_le (c.first + c.count) k) [
        | yes b ↦ inr (inr b)
        | no b ↦ inl (a, omega arith)
      ]
    ]

module _ (γ : ℕ) (c : Change) (w : List ℕ) where
  abbrev w₁ : List ℕ
  w₁ = set w c.node (packed_entry γ c.first)

  pub changed-length : length (changed γ c w) ≡ length w
  changed-length = stored-length (λ k. packed_entry c.score 0) c.first c.count w₁ ∙ length-set w _ _

  -- a new state's entry
  pub changed-in : (k : ℕ) → InRun c k → k < length w → get_or (changed γ c w) k 0 ≡ packed_entry c.score 0
  changed-in k i l =
      stored-in (λ k. packed_entry c.score 0) c.first c.count w₁ k 0 i.0 i.1 (rw (length-set w _ _) l)

  -- the node's own
  pub changed-node : OutRun c c.node → c.node < length w
      → get_or (changed γ c w) c.node 0 ≡ packed_entry γ c.first
  changed-node o l =
      stored-out (λ k. packed_entry c.score 0) c.first c.count w₁ c.node 0 o
      ∙ get_or-set_same w c.node _ 0 l

  -- the others stay
  pub changed-out : (k : ℕ) → OutRun c k → (k ≡ c.node → ⊥) → get_or (changed γ c w) k 0 ≡ get_or w k 0
  changed-out k o n =
      stored-out (λ k. packed_entry c.score 0) c.first c.count w₁ k 0 o ∙ get_or-set_other w c.node k _ 0 n

-- WHERE IT IS

module _ (t : List ℕ) where
  -- the nodes of the run are the table's
  pub run-within : (wf : WellFormed t) (c : Change) → Local t c → (k : ℕ) → InRun c k → k < frames t
  run-within wf c o k i = at (o.run k i.0 i.1)
    where
      at : (k ≡ c.node) ⊎ ChildOf t c.node k → k < frames t
      at (inl e) = rw e o.node
      at (inr h) = child-within t wf o.node h
