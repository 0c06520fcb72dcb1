-- Alpha-beta in a window: it gives the minimax value brought into the window, it evaluates the leaves of Baudet's
-- condition, from left to right, and it depends on no other leaf, so their bounds settle the value within the window.
use Rattle.prelude.proofs.{ℕ, ◌≤◌, ◌<◌, min, max, arith, ◌≡◌, refl, sym, ◌∙◌, ap, ap₂, Bool, true, false, cond, List}
use Rattle.prelude.proofs.{[], ◌∷◌, ◌++◌, append-nil, ltb, ltb-true, ltb-false, lt-ltb, le-ltb}
use Rattle.lists.specs.{All, Subsequence, end, skip, keep}
use Rattle.gametree.specs.declared.Side.{Side}
use Rattle.gametree.specs.declared.Side.TheVariants.{Max, Min}
use Rattle.gametree.specs.{Tree, leaf, inner, Children, last, ◌then◌, better, minimax, least, greatest}
use Rattle.gametree.specs.{minimax_children}
use Rattle.gametree.specs.{leaves, leaves_children, Scored, known, Decided, raise, lower, reached, reached_children}
use Rattle.gametree.specs.{clamp, SearchResult, after, onward, alpha_beta, alpha_beta_children}
use Rattle.lists.proofs.Choice.{true-not-false}
use Rattle.lists.proofs.Lists.{all_left, all_right, all_map}
use Rattle.gametree_theory.proofs.Minimax.Bounds.{minimax-score}

-- a closed window stays closed
closed_on : (s : Side) (α β v : ℕ) → β ≤ α → lower s β v ≤ raise s α v
closed_on Max α β v h = omega arith
closed_on Min α β v h = omega arith

-- behind a closed window no leaf is reached
mutual
  closed : (ν : ℕ → ℕ) (α β : ℕ) → β ≤ α → (t : Tree) → reached ν α β t ≡ []
  closed ν α β h (leaf n) = simp (le-ltb α β h)
  closed ν α β h (inner n s ks) = closed_children ν s α β h ks

  pub closed_children : (ν : ℕ → ℕ) (s : Side) (α β : ℕ) → β ≤ α → (ks : Children) → reached_children ν s α β ks ≡ []
  closed_children ν s α β h (last t) = closed ν α β h t
  closed_children ν s α β h (t then ts) =
      ap₂ ◌++◌ (closed ν α β h t)
      (closed_children ν s (raise s α (minimax ν t)) (lower s β (minimax ν t)) (closed_on s α β (minimax ν t) h) ts)

-- a child that leaves the window open moves it as its own value does
raised : (α β m v : ℕ) → v ≡ min β (max α m) → max α v < β → max α v ≡ max α m
raised α β m v e h = omega arith

lowered : (α β m v : ℕ) → v ≡ min β (max α m) → α < min β v → (min β v ≡ min β m) × (α < m)
lowered α β m v e h = omega arith

regroup-max : (α β m w : ℕ) → min β (max (max α m) w) ≡ min β (max α (max m w))
regroup-max α β m w = omega arith

regroup-min : (α β m w : ℕ) → α < m → min (min β m) (max α w) ≡ min β (max α (min m w))
regroup-min α β m w h = omega arith

-- while the window is open, the rest of the children, searched with the moved window, complete the value
clamp-open : (s : Side) (α β m v w : ℕ) → v ≡ clamp α β m → raise s α v < lower s β v
    → clamp (raise s α v) (lower s β v) w ≡ clamp α β (better s m w)
clamp-open Max α β m v w e h = rw (raised α β m v e h) (regroup-max α β m w)
clamp-open Min α β m v w e h = rw (lowered α β m v e h).0 (regroup-min α β m w (lowered α β m v e h).1)

-- once it is closed the rest of the children do not matter
clamp-shut : (s : Side) (α β m v w : ℕ) → α < β → v ≡ clamp α β m → lower s β v ≤ raise s α v
    → v ≡ clamp α β (better s m w)
clamp-shut Max α β m v w o e h = omega arith
clamp-shut Min α β m v w o e h = omega arith

-- a window that a child leaves open is as Baudet's condition has it
raise-open : (s : Side) (α β m v : ℕ) → v ≡ clamp α β m → raise s α v < lower s β v
    → (raise s α v ≡ raise s α m) × (lower s β v ≡ lower s β m)
raise-open Max α β m v e h = omega arith
raise-open Min α β m v e h = omega arith

-- a window that a child closes is closed in Baudet's condition
raise-shut : (s : Side) (α β m v : ℕ) → α < β → v ≡ clamp α β m → lower s β v ≤ raise s α v → lower s β m ≤ raise s α m
raise-shut Max α β m v o e h = omega arith
raise-shut Min α β m v o e h = omega arith

-- one step of a pass, by whether the window is still open: r is the eldest child's result, m its minimax value
onward-value : (s : Side) (α β m w : ℕ) (r q : SearchResult) → α < β → r.value ≡ clamp α β m
    → (raise s α r.value < lower s β r.value → q.value ≡ clamp (raise s α r.value) (lower s β r.value) w)
    → (c : Bool) → ltb (raise s α r.value) (lower s β r.value) ≡ c
    → (onward c r q).value ≡ clamp α β (better s m w)
onward-value s α β m w r q o e f true t =
    let h : raise s α r.value < lower s β r.value = ltb-true _ _ t in
    f h ∙ clamp-open s α β m r.value w e h
onward-value s α β m w r q o e f false t = clamp-shut s α β m r.value w o e (ltb-false _ _ t)

-- the value of alpha-beta is the minimax value brought into the window
mutual
  pub alpha_beta-value : (ν : ℕ → ℕ) (α β : ℕ) → α < β → (t : Tree)
      → (alpha_beta ν α β t).value ≡ clamp α β (minimax ν t)
  alpha_beta-value ν α β o (leaf n) = refl
  alpha_beta-value ν α β o (inner n s ks) = alpha_beta_children-value ν s α β o ks

  alpha_beta_children-value : (ν : ℕ → ℕ) (s : Side) (α β : ℕ) → α < β → (ks : Children)
      → (alpha_beta_children ν s α β ks).value ≡ clamp α β (minimax_children ν s ks)
  alpha_beta_children-value ν s α β o (last t) = alpha_beta-value ν α β o t
  alpha_beta_children-value ν s α β o (t then ts) =
      onward-value s α β (minimax ν t) (minimax_children ν s ts) (alpha_beta ν α β t) _ o (alpha_beta-value ν α β o t)
      (λ h. alpha_beta_children-value ν s _ _ h ts) _ refl

-- one step of a pass evaluates what Baudet's condition reaches
onward-evaluated : (ν : ℕ → ℕ) (s : Side) (α β m : ℕ) (ts : Children) (w : List ℕ) (r q : SearchResult) → α < β
    → r.value ≡ clamp α β m
    → r.evaluated ≡ w
    → (raise s α r.value < lower s β r.value
    → q.evaluated ≡ reached_children ν s (raise s α r.value) (lower s β r.value) ts)
    → (c : Bool) → ltb (raise s α r.value) (lower s β r.value) ≡ c
    → (onward c r q).evaluated ≡ w ++ reached_children ν s (raise s α m) (lower s β m) ts
onward-evaluated ν s α β m ts w r q o e d f true t =
    let h : raise s α r.value < lower s β r.value = ltb-true _ _ t in
    let k = raise-open s α β m r.value e h in
    ap₂ ◌++◌ d (f h ∙ ap₂ (λ a b. reached_children ν s a b ts) k.0 k.1)
onward-evaluated ν s α β m ts w r q o e d f false t =
    let k = closed_children ν s (raise s α m) (lower s β m) (raise-shut s α β m r.value o e (ltb-false _ _ t)) ts in
    d ∙ sym (append-nil w) ∙ ap (λ l. w ++ l) (sym k)

-- alpha-beta evaluates the leaves of Baudet's condition
mutual
  pub alpha_beta-evaluated : (ν : ℕ → ℕ) (α β : ℕ) → α < β → (t : Tree)
      → (alpha_beta ν α β t).evaluated ≡ reached ν α β t
  alpha_beta-evaluated ν α β o (leaf n) = simp (lt-ltb α β o)
  alpha_beta-evaluated ν α β o (inner n s ks) = alpha_beta_children-evaluated ν s α β o ks

  alpha_beta_children-evaluated : (ν : ℕ → ℕ) (s : Side) (α β : ℕ) → α < β → (ks : Children)
      → (alpha_beta_children ν s α β ks).evaluated ≡ reached_children ν s α β ks
  alpha_beta_children-evaluated ν s α β o (last t) = alpha_beta-evaluated ν α β o t
  alpha_beta_children-evaluated ν s α β o (t then ts) =
      onward-evaluated ν s α β (minimax ν t) ts (reached ν α β t) (alpha_beta ν α β t) _ o (alpha_beta-value ν α β o t)
      (alpha_beta-evaluated ν α β o t) (λ h. alpha_beta_children-evaluated ν s _ _ h ts) _ refl

sub-append : {xs ys us vs : List ℕ} → Subsequence xs ys → Subsequence us vs → Subsequence (xs ++ us) (ys ++ vs)
sub-append end q = q
sub-append (skip p) q = skip (sub-append p q)
sub-append (keep p) q = keep (sub-append p q)

sub-leaf : (b : Bool) (n : ℕ) → Subsequence (cond b (n ∷ []) []) (n ∷ [])
sub-leaf true n = keep end
sub-leaf false n = skip end

-- the reached leaves are leaves of the tree, from left to right
mutual
  pub reached-ordered : (ν : ℕ → ℕ) (α β : ℕ) (t : Tree) → Subsequence (reached ν α β t) (leaves t)
  reached-ordered ν α β (leaf n) = sub-leaf (ltb α β) n
  reached-ordered ν α β (inner n s ks) = reached_children-ordered ν s α β ks

  reached_children-ordered : (ν : ℕ → ℕ) (s : Side) (α β : ℕ) (ks : Children)
      → Subsequence (reached_children ν s α β ks) (leaves_children ks)
  reached_children-ordered ν s α β (last t) = reached-ordered ν α β t
  reached_children-ordered ν s α β (t then ts) = sub-append (reached-ordered ν α β t)
      (reached_children-ordered ν s _ _ ts)

module _ (P : ℕ → Type 0) where
  -- what holds of the leaves of a step holds of the eldest child's
  pub onward-first : (c : Bool) (r q : SearchResult) → All P (onward c r q).evaluated → All P r.evaluated
  onward-first true r q h = all_left P r.evaluated q.evaluated h
  onward-first false r q h = h

  -- and of the rest's while the window is open
  pub onward-rest : (c : Bool) (r q : SearchResult) → c ≡ true → All P (onward c r q).evaluated → All P q.evaluated
  onward-rest true r q e h = all_right P r.evaluated q.evaluated h
  onward-rest false r q e h = absurd (true-not-false e refl)

  -- a step depends on the rest of the pass only if the window is open
  onward-same : (c : Bool) (r q q' : SearchResult) → All P (onward c r q).evaluated → (All P q.evaluated → q' ≡ q)
      → onward c r q' ≡ onward c r q
  onward-same true r q q' h f = ap (after r) (f (all_right P r.evaluated q.evaluated h))
  onward-same false r q q' h f = refl

-- a pass over an eldest child with the result r and the others ts
abbrev pass_from : (ℕ → ℕ) → Side → ℕ → ℕ → Children → SearchResult → SearchResult
pass_from ν s α β ts r =
    onward (ltb (raise s α r.value) (lower s β r.value)) r
    (alpha_beta_children ν s (raise s α r.value) (lower s β r.value) ts)

-- alpha-beta gives the same under valuations that agree on the leaves that it evaluates
mutual
  pub alpha_beta-local : (ν μ : ℕ → ℕ) (α β : ℕ) (t : Tree) → All (λ n. ν n ≡ μ n) (alpha_beta ν α β t).evaluated
      → alpha_beta μ α β t ≡ alpha_beta ν α β t
  alpha_beta-local ν μ α β (leaf n) h = rw h.0 refl
  alpha_beta-local ν μ α β (inner n s ks) h = alpha_beta_children-local ν μ s α β ks h

  alpha_beta_children-local : (ν μ : ℕ → ℕ) (s : Side) (α β : ℕ) (ks : Children)
      → All (λ n. ν n ≡ μ n) (alpha_beta_children ν s α β ks).evaluated
      → alpha_beta_children μ s α β ks ≡ alpha_beta_children ν s α β ks
  alpha_beta_children-local ν μ s α β (last t) h = alpha_beta-local ν μ α β t h
  alpha_beta_children-local ν μ s α β (t then ts) h =
      let r = alpha_beta ν α β t in
      let a = raise s α r.value in
      let b = lower s β r.value in
      let q = alpha_beta_children ν s a b ts in
      ap (pass_from μ s α β ts) (alpha_beta-local ν μ α β t (onward-first (λ n. ν n ≡ μ n) (ltb a b) r q h))
      ∙ onward-same (λ n. ν n ≡ μ n) (ltb a b) r q (alpha_beta_children μ s a b ts) h
      (λ k. alpha_beta_children-local ν μ s a b ts k)

-- the set E has the leaves that alpha-beta evaluates with this window
abbrev pub Covers : (ℕ → ℕ) → (ℕ → Bool) → ℕ → ℕ → Tree → Type 0
Covers ν E α β t = All (λ n. E n ≡ true) (alpha_beta ν α β t).evaluated

known_same : (b : Bool) (v x : ℕ) → b ≡ true → v ≡ cond b v x
known_same b v x e = rw e refl

-- within the window the evaluated leaves settle the value, whatever the others' score
known-clamp : (ν : ℕ → ℕ) (E : ℕ → Bool) (α β x : ℕ) (t : Tree) → α < β → Covers ν E α β t
    → clamp α β (minimax (known ν E x) t) ≡ clamp α β (minimax ν t)
known-clamp ν E α β x t o c =
    let a = all_map _ _ (λ n e. known_same (E n) (ν n) x e) (alpha_beta ν α β t).evaluated c in
    sym (alpha_beta-value (known ν E x) α β o t) ∙ ap (λ f. f.value) (alpha_beta-local ν (known ν E x) α β t a)
    ∙ alpha_beta-value ν α β o t

-- so a bound of theirs is the value, where that is inside the window
pub known-exact : (ν : ℕ → ℕ) (E : ℕ → Bool) (α β x : ℕ) (t : Tree) → Covers ν E α β t → α < minimax ν t
    → minimax ν t < β
    → minimax (known ν E x) t ≡ minimax ν t
known-exact ν E α β x t c h k = let e = known-clamp ν E α β x t (omega arith) c in omega arith

-- with the full window they are the value, whatever other leaves are known
pub covered-decided : (ν : ℕ → ℕ) (E : ℕ → Bool) (t : Tree) → Scored ν t → Covers ν E least greatest t → Decided ν E t
covered-decided ν E t h c =
    let s = minimax-score ν t h in
    record {
      low_is = known-exact ν E least greatest least t c s.0 s.1;
      high_is = known-exact ν E least greatest greatest t c s.0 s.1;
    }
