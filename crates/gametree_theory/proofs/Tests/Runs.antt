-- A run of tests by any strategy ends with the minimax value, evaluates no leaf twice, and only leaves that meet
-- Baudet's condition; each of its tests evaluates a leaf.
use Rattle.prelude.proofs.{ℕ, zero, suc, ◌+◌, ◌≤◌, ◌<◌, arith, ◌≡◌, Bool, true, false, List, [], ◌∷◌, ◌++◌, append-nil}
use Rattle.prelude.proofs.{eqb, length, length-append, eqb-true, eqb-false}
use Rattle.lists.specs.{All, among, Once}
use Rattle.gametree.specs.{Tree, least, greatest, minimax, leaves, Scored, low, high, Decided, reached, test, view}
use Rattle.gametree.specs.{Strategy, chosen_test, TestSearch, drive, search_by}
use Rattle.lists.proofs.Choice.{cond_cases}
use Rattle.lists.proofs.Lists.{all_append, all_map, all_among, all-at, once-length, sub-all}
use Rattle.gametree_theory.proofs.Minimax.Bounds.{low≤, ≤high}
use Rattle.gametree_theory.proofs.Alphabeta.Window.{reached-ordered}
use Rattle.gametree_theory.proofs.Results.Domination.{Reaches}
use Rattle.gametree_theory.proofs.Tests.Leaves.{New, new-append, test-dominated, test-once}
use Rattle.gametree_theory.proofs.Tests.Progress.{Confirms, test-confirmed}
use Rattle.gametree_theory.proofs.Minimax.Closer.{high≤}

-- leaves that meet Baudet's condition are leaves of the tree
pub reaches-own : (ν : ℕ → ℕ) (α β : ℕ) (t : Tree) (w : List ℕ) → Reaches ν α β t w
    → All (λ k. among (leaves t) k ≡ true) w
reaches-own ν α β t w h =
    let own = sub-all _ (reached-ordered ν α β t) (all_among (leaves t)) in
    all_map _ _ (all-at (λ k. among (leaves t) k ≡ true) (reached ν α β t) own) w h

-- bounds on both sides of a test are confirmed on one side only after some leaf
confirms-opened : (ν : ℕ → ℕ) (γ : ℕ) (t : Tree) (w v : List ℕ) (b : Bool) → low ν (among w) t < γ
    → γ ≤ high ν (among w) t
    → Confirms γ b (low ν (among (w ++ v)) t) (high ν (among (w ++ v)) t) → 0 < length v
confirms-opened ν γ t w [] true l u c = absurd (omega (arith, rw append-nil at c))
confirms-opened ν γ t w [] false l u c = absurd (omega (arith, rw append-nil at c))
confirms-opened ν γ t w (x ∷ v) b l u c = omega arith

-- a test between the bounds evaluates a leaf
pub test-opens : (ν : ℕ → ℕ) (γ : ℕ) (w : List ℕ) (t : Tree) → Scored ν t → low ν (among w) t < γ
    → γ ≤ high ν (among w) t
    → 0 < length (test ν γ w t).evaluated
test-opens ν γ w t h l u =
    confirms-opened ν γ t w (test ν γ w t).evaluated (test ν γ w t).not_below l u (test-confirmed ν γ w t h)

-- what a run after the leaves w gives
pub record Right (ν : ℕ → ℕ) (t : Tree) (w : List ℕ) (q : TestSearch) : Type 0 where
  pub value : q.value ≡ minimax ν t
  pub decided : Decided ν (among q.evaluated) t
  pub once : Once q.evaluated
  pub reaches : Reaches ν least greatest t q.evaluated
  pub counted : length q.tests + length w ≤ length q.evaluated

-- a run is right whatever the strategy
drive-right : (ν : ℕ → ℕ) (σ : Strategy) (f : ℕ) (t : Tree) (bs : List Bool) (w : List ℕ) → Scored ν t → New [] w
    → Reaches ν least greatest t w
    → length (leaves t) < f + length w → Right ν t w (drive ν σ f t bs w)
drive-right ν σ zero t bs w h n b l =
    absurd (omega (arith, once-length w (leaves t) n.once (reaches-own ν least greatest t w b)))
drive-right ν σ (suc f) t bs w h n b l =
    let x = low≤ ν (among w) t in
    let y = ≤high ν (among w) t h in
    let z = high≤ ν (among w) t h in
    cond_cases (Right ν t w) (eqb (low ν (among w) t) (high ν (among w) t)) _ _
    (λ e.
    let i = eqb-true (low ν (among w) t) (high ν (among w) t) e in
    record {
      value = omega arith;
      decided = record { low_is = omega arith; high_is = omega arith };
      once = n.once;
      reaches = b;
      counted = omega arith;
    })
    (λ e.
    let i = eqb-false (low ν (among w) t) (high ν (among w) t) e in
    let γ = chosen_test σ (view ν t bs w) in
    let r = test ν γ w t in
    let v = r.evaluated in
    let j : low ν (among w) t < γ = omega arith in
    let k : γ ≤ high ν (among w) t = omega arith in
    let o = test-opens ν γ w t h j k in
    let m = length-append w v in
    let q =
    drive-right ν σ f t (r.not_below ∷ bs) (w ++ v) h (new-append [] w v n (test-once ν γ w t))
    (all_append (λ k. among (reached ν least greatest t) k ≡ true) w v b
    (test-dominated ν γ least greatest w t h (omega arith) (omega arith)))
    (omega arith) in
    record {
      value = q.value;
      decided = q.decided;
      once = q.once;
      reaches = q.reaches;
      counted = omega (arith, q.counted);
    })

-- the search by any strategy is right
pub search-right : (σ : Strategy) (ν : ℕ → ℕ) (t : Tree) → Scored ν t → Right ν t [] (search_by σ ν t)
search-right σ ν t h =
    drive-right ν σ (suc (length (leaves t))) t [] [] h (record { new = tt; once = tt }) tt (omega arith)
