-- The first child that a side's bounds prove to have the root's value is the first child that has it.
use Rattle.prelude.proofs.{ℕ, ◌<◌, arith, ◌≡◌, refl, ◌∙◌, ap, Bool, true, false, cond, List, ltb, eqb, eqb-true}
use Rattle.prelude.proofs.{eqb-false, lt-ltb, eq-eqb, ne_eqb}
use Rattle.lists.specs.{All, among}
use Rattle.gametree.specs.declared.Side.{Side}
use Rattle.gametree.specs.declared.Side.TheVariants.{Max, Min}
use Rattle.gametree.specs.{Tree, leaf, inner, Children, last, ◌then◌, least, greatest, minimax, minimax_children}
use Rattle.gametree.specs.{number}
use Rattle.gametree.specs.{Scored, ScoredChildren, known, Decided, raise, lower, clamp, alpha_beta, alpha_beta_children}
use Rattle.gametree.specs.{worst, first_with, root_move_of, bound_move}
use Rattle.gametree_theory.proofs.Minimax.Bounds.{minimax-score, low≤, ≤high, known-local}
use Rattle.gametree_theory.proofs.Alphabeta.Window.{alpha_beta-value, onward-first, onward-rest, known-exact}
use Rattle.gametree_theory.proofs.Alphabeta.Window.{Covers, covered-decided}
use Rattle.gametree_theory.proofs.Certificates.Solution.{Under, under-refl, under-both}

-- of each child up to the first that has the value v under ν: if it has it under ν, it has it under μ
abbrev pub Shown : (μ ν : ℕ → ℕ) → ℕ → Children → Type 0
Shown μ ν v (last t) = minimax ν t ≡ v → minimax μ t ≡ v
Shown μ ν v (t then ts) = (minimax ν t ≡ v → minimax μ t ≡ v) × ((minimax ν t ≡ v → ⊥) → Shown μ ν v ts)

-- what a side's own bound, of the leaves E, makes of a child: nothing better than its value
bound-under : (p : Side) (ν : ℕ → ℕ) (E : ℕ → Bool) (t : Tree) → Scored ν t
    → Under p (minimax (known ν E (worst p)) t) (minimax ν t)
bound-under Max ν E t h = low≤ ν E t
bound-under Min ν E t h = ≤high ν E t h

under_same : (p : Side) (x m v : ℕ) → Under p x m → Under p m v → x ≡ v → m ≡ v
under_same Max x m v h k e = omega arith
under_same Min x m v h k e = omega arith

-- the test of a child gives the same by the bound and by the value
test-same : (p : Side) (x m v : ℕ) → Under p x m → Under p m v → (m ≡ v → x ≡ v) → eqb x v ≡ eqb m v
test-same p x m v h k f = go (eqb m v) refl
  where
    go : (c : Bool) → eqb m v ≡ c → eqb x v ≡ c
    go true e = eq-eqb x v (f (eqb-true m v e))
    go false e = ne_eqb x v (λ d. eqb-false m v e (under_same p x m v h k d))

pick_same : (b c : Bool) (n x y : ℕ) → b ≡ c → (c ≡ false → x ≡ y) → cond b n x ≡ cond c n y
pick_same b true n x y e f = rw e refl
pick_same b false n x y e f = rw e (f refl)

-- so the first child is the same
first-same : (p : Side) (ν : ℕ → ℕ) (E : ℕ → Bool) (v : ℕ) (ks : Children) → ScoredChildren ν ks
    → Under p (minimax_children ν p ks) v
    → Shown (known ν E (worst p)) ν v ks → first_with (minimax (known ν E (worst p))) v ks ≡ first_with (minimax ν) v ks
first-same p ν E v (last t) h u s =
    pick_same _ _ (number t) 0 0 (test-same p _ _ v (bound-under p ν E t h) u s) (λ _. refl)
first-same p ν E v (t then ts) h u s =
    let w = under-both p (minimax ν t) (minimax_children ν p ts) v u in
    pick_same _ _ (number t) _ _ (test-same p _ _ v (bound-under p ν E t h.0) w.0 s.0)
    (λ e. first-same p ν E v ts h.1 w.1 (s.1 (eqb-false (minimax ν t) v e)))

-- the move by the bounds is the move, where they meet at the root and show the root's value
pub move_same : (ν : ℕ → ℕ) (E : ℕ → Bool) (n : ℕ) (s : Side) (ks : Children) → Scored ν (inner n s ks)
    → Decided ν E (inner n s ks)
    → Shown (known ν E (worst s)) ν (minimax_children ν s ks) ks
    → bound_move ν E (inner n s ks) ≡ root_move_of ν (inner n s ks)
move_same ν E n Max ks h d k = rw d.low_is (first-same Max ν E (minimax_children ν Max ks) ks h (under-refl Max _) k)
move_same ν E n Min ks h d k = rw d.high_is (first-same Min ν E (minimax_children ν Min ks) ks h (under-refl Min _) k)

-- a value inside the window, better than a child's, is inside the window after that child
inside-next : (p : Side) (α β m u v : ℕ) → u ≡ clamp α β m → α < v → v < β → Under p m v → (m ≡ v → ⊥)
    → (raise p α u < v) × (v < lower p β u)
inside-next Max α β m u v e h k w n = omega arith
inside-next Min α β m u v e h k w n = omega arith

-- alpha-beta's leaves show it
alpha_beta-shown : (ν : ℕ → ℕ) (E : ℕ → Bool) (p : Side) (α β v x : ℕ) (ks : Children) → α < v → v < β
    → Under p (minimax_children ν p ks) v
    → All (λ n. E n ≡ true) (alpha_beta_children ν p α β ks).evaluated → Shown (known ν E x) ν v ks
alpha_beta-shown ν E p α β v x (last t) h k u c = λ e. known-exact ν E α β x t c (rw e h) (rw e k) ∙ e
alpha_beta-shown ν E p α β v x (t then ts) h k u c =
    let r = alpha_beta ν α β t in
    let a = raise p α r.value in
    let b = lower p β r.value in
    let q = alpha_beta_children ν p a b ts in
    let w = under-both p (minimax ν t) (minimax_children ν p ts) v u in
    let o : α < β = omega arith in (
      λ e. known-exact ν E α β x t (onward-first (λ n. E n ≡ true) (ltb a b) r q c) (rw e h) (rw e k) ∙ e,
      λ f.
          let i = inside-next p α β (minimax ν t) r.value v (alpha_beta-value ν α β o t) h k w.0 f in
          let l = lt-ltb a b (omega arith) in
          alpha_beta-shown ν E p a b v x ts i.0 i.1 w.1 (onward-rest (λ n. E n ≡ true) (ltb a b) r q l c),
    )

-- so the move by the bounds of alpha-beta's leaves, and of any others with them, is the move
pub covered-move : (ν : ℕ → ℕ) (E : ℕ → Bool) (t : Tree) → Scored ν t → Covers ν E least greatest t
    → bound_move ν E t ≡ root_move_of ν t
covered-move ν E (leaf n) h c = refl
covered-move ν E (inner n p ks) h c =
    let v = minimax-score ν (inner n p ks) h in
    move_same ν E n p ks h (covered-decided ν E (inner n p ks) h c)
    (alpha_beta-shown ν E p least greatest _ _ ks v.0 v.1 (under-refl p _) c)

-- the move by the bounds depends only on the scores of the evaluated leaves
pub bound_move-local : (ν μ : ℕ → ℕ) (w : List ℕ) → All (λ k. ν k ≡ μ k) w → (t : Tree)
    → bound_move ν (among w) t ≡ bound_move μ (among w) t
bound_move-local ν μ w a (leaf n) = refl
bound_move-local ν μ w a (inner n Max ks) =
    ap (λ κ. first_with (minimax κ) (minimax κ (inner n Max ks)) ks) (known-local ν μ w a least)
bound_move-local ν μ w a (inner n Min ks) =
    ap (λ κ. first_with (minimax κ) (minimax κ (inner n Min ks)) ks) (known-local ν μ w a greatest)
