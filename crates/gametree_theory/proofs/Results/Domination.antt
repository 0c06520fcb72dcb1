-- Domination: every leaf that MTD evaluates meets Baudet's condition, so alpha-beta evaluates it too.
use Rattle.prelude.proofs.{ℕ, zero, suc, ◌≤◌, ◌<◌, le_refl, arith, ◌≡◌, refl, true, false, List, ltb, eqb, not-false}
use Rattle.prelude.proofs.{lt-ltb, eq-eqb}
use Rattle.lists.specs.{All, among}
use Rattle.gametree.specs.declared.Side.{Side}
use Rattle.gametree.specs.declared.Side.TheVariants.{Max, Min}
use Rattle.gametree.specs.{Tree, leaf, inner, Children, last, ◌then◌, least, greatest, minimax, Scored, ScoredChildren}
use Rattle.gametree.specs.{raise, lower, reached, reached_children, settles, Memo, MemoChildren, memo_high}
use Rattle.gametree.specs.{memo_high_children, Pass, PassChildren, pass, pass_children, MemoRun, run, fresh, memo_mtd}
use Rattle.lists.proofs.Choice.{cond_cases, or_left}
use Rattle.lists.proofs.Lists.{all_append, all_map, among-left, among-right}
use Rattle.gametree_theory.proofs.Minimax.Bounds.{minimax-score}
use Rattle.gametree_theory.proofs.Mtd.Sound.{memo_low-minimax, minimax-memo_high, Kept, KeptChildren, sound}
use Rattle.gametree_theory.proofs.Mtd.Value.{kept-lower, fresh_kept}

-- the children after one that does not settle its parent have the test in their window
window : (ν : ℕ → ℕ) (s : Side) (γ α β : ℕ) (t : Tree) (m : Memo t) → Scored ν t → Kept ν γ t m → α < γ → γ ≤ β
    → settles s (pass ν γ t m).not_below ≡ false
    → (raise s α (minimax ν t) < γ) × (γ ≤ lower s β (minimax ν t))
window ν Max γ α β t m h k l u e =
    let b = (sound ν γ t m h k).below e in
    let w = minimax-memo_high ν t (pass ν γ t m).next h in
    (omega arith, u)
window ν Min γ α β t m h k l u e =
    let b = (sound ν γ t m h k).above (not-false _ e) in
    let w = memo_low-minimax ν t (pass ν γ t m).next in
    (l, omega arith)

-- each leaf of the list is one that Baudet's condition reaches
abbrev pub Reaches : (ℕ → ℕ) → ℕ → ℕ → Tree → List ℕ → Type 0
Reaches ν α β t w = All (λ k. among (reached ν α β t) k ≡ true) w

abbrev pub ReachesChildren : (ℕ → ℕ) → ℕ → ℕ → Side → Children → List ℕ → Type 0
ReachesChildren ν α β s ks w = All (λ k. among (reached_children ν s α β ks) k ≡ true) w

mutual
  -- a pass evaluates only leaves that meet Baudet's condition for a window that holds the test
  pass-reaches : (ν : ℕ → ℕ) (γ α β : ℕ) (t : Tree) (m : Memo t) → Scored ν t → Kept ν γ t m → α < γ → γ ≤ β
      → Reaches ν α β t (pass ν γ t m).evaluated
  pass-reaches ν γ α β (leaf n) m h k l u =
      cond_cases (λ (r : Pass (leaf n)). Reaches ν α β (leaf n) r.evaluated) m.evaluated _ _ (λ _. tt)
      (λ _. (rw (lt-ltb α β (omega arith)) (or_left (eqb n n) false (eq-eqb n n refl)), tt))
  pass-reaches ν γ α β (inner n s ks) m h k l u =
      cond_cases (λ (r : Pass (inner n s ks)). ReachesChildren ν α β s ks r.evaluated)
      (ltb (memo_high_children ν s ks m.kids) γ) _ _
      (λ _. tt)
      (λ _. cond_cases (λ (r : Pass (inner n s ks)). ReachesChildren ν α β s ks r.evaluated) m.not_below _ _
      (λ _. tt)
      (λ _. pass_children-reaches ν γ α β s ks m.kids h k.1 l u))

  pass_children-reaches : (ν : ℕ → ℕ) (γ α β : ℕ) (s : Side) (ks : Children) (m : MemoChildren ks) → ScoredChildren ν ks
      → KeptChildren ν γ ks m
      → α < γ → γ ≤ β → ReachesChildren ν α β s ks (pass_children ν γ s ks m).evaluated
  pass_children-reaches ν γ α β s (last t) m h k l u = pass-reaches ν γ α β t m h k l u
  pass_children-reaches ν γ α β s (t then ts) m h k l u =
      let v = (pass ν γ t m.first).evaluated in
      let w = (pass_children ν γ s ts m.rest).evaluated in
      let a =
      all_map _ (λ k. among (reached_children ν s α β (t then ts)) k ≡ true) (λ k e. among-left (reached ν α β t) _ k e)
      v
      (pass-reaches ν γ α β t m.first h.0 k.0 l u) in
      cond_cases (λ (q : PassChildren (t then ts)). ReachesChildren ν α β s (t then ts) q.evaluated)
      (settles s (pass ν γ t m.first).not_below) _ _
      (λ _. a)
      (λ e.
      let i = window ν s γ α β t m.first h.0 k.0 l u e in
      all_append (λ k. among (reached_children ν s α β (t then ts)) k ≡ true) v w a
      (all_map _ (λ k. among (reached_children ν s α β (t then ts)) k ≡ true)
      (λ k e. among-right (reached ν α β t) _ k e) w
      (pass_children-reaches ν γ (raise s α (minimax ν t)) (lower s β (minimax ν t)) s ts m.rest h.1 k.1 i.0
      i.1)))

-- so does a run of passes
run-reaches : (ν : ℕ → ℕ) (f γ : ℕ) (t : Tree) (m : Memo t) → Scored ν t → Kept ν γ t m → least < γ → γ ≤ greatest
    → Reaches ν least greatest t (run ν f γ t m).evaluated
run-reaches ν zero γ t m h k l u = tt
run-reaches ν (suc f) γ t m h k l u =
    let a = pass-reaches ν γ least greatest t m h k l u in
    cond_cases (λ (q : MemoRun t). Reaches ν least greatest t q.evaluated) (pass ν γ t m).not_below _ _
    (λ _. a)
    (λ e.
    let n = (pass ν γ t m).next in
    let s = sound ν γ t m h k in
    let b = s.below e in
    let p = minimax-score ν t h in
    let q = minimax-memo_high ν t n h in
    all_append (λ k. among (reached ν least greatest t) k ≡ true) (pass ν γ t m).evaluated
    (run ν f (memo_high ν t n) t n).evaluated a
    (run-reaches ν f (memo_high ν t n) t n h (kept-lower ν t n (omega arith) s.kept) (omega arith) (omega arith)))

-- every leaf that MTD evaluates meets Baudet's condition
pub mtd-reaches : (ν : ℕ → ℕ) (t : Tree) → Scored ν t → Reaches ν least greatest t (memo_mtd ν t).evaluated
unfolding memo_mtd
mtd-reaches ν t h =
    run-reaches ν (suc greatest) greatest t (fresh t) h (fresh_kept ν greatest t) (omega arith) (le_refl _)
