-- MTD's leaves show the first child that has the root's value.
use Rattle.prelude.proofs.{ℕ, zero, suc, ◌≤◌, ◌<◌, le_refl, le_trans, lt_of_lt_of_le, arith, ◌≡◌, refl, sym, ◌∙◌, ap}
use Rattle.prelude.proofs.{◌⊎◌, inl, inr, ⊎_elim, true, false, not, List, ltb, eq-eqb, ne_eqb}
use Rattle.lists.specs.{among}
use Rattle.gametree.specs.declared.Side.{Side}
use Rattle.gametree.specs.declared.Side.TheVariants.{Max, Min}
use Rattle.gametree.specs.{Tree, leaf, inner, Children, last, ◌then◌, least, greatest, minimax, minimax_children}
use Rattle.gametree.specs.{ScoredChildren, Proper, known, high, Decided, Memo, MemoChildren, memo_high}
use Rattle.gametree.specs.{memo_high_children}
use Rattle.gametree.specs.{Pass, PassChildren, pass, pass_children, MemoRun, run, fresh, memo_mtd, worst, first_with}
use Rattle.gametree.specs.{root_move_of, bound_move}
use Rattle.gametree_theory.proofs.Mtd.Marks.{MarksChildren}
use Rattle.lists.proofs.Choice.{cond_cases, true-not-false}
use Rattle.gametree_theory.proofs.Minimax.Bounds.{minimax-score, low≤, ≤high}
use Rattle.gametree_theory.proofs.Mtd.Sound.{memo_low, memo_low-minimax, minimax-memo_high, Kept, KeptChildren}
use Rattle.gametree_theory.proofs.Mtd.Sound.{sound}
use Rattle.gametree_theory.proofs.Mtd.Value.{kept-lower, fresh_kept, fresh-memo_high, fresh_children-memo_high}
use Rattle.gametree_theory.proofs.Mtd.Value.{mtd-right}
use Rattle.gametree_theory.proofs.Mtd.Marks.{mtd-marks, memo_bound-is}
use Rattle.gametree_theory.proofs.Sss.Frontier.{ReadyChildren, Fitted, ready-lower, AtMost, states, not_below-low}
use Rattle.gametree_theory.proofs.Sss.Frontier.{not_below-high, next}
use Rattle.gametree_theory.proofs.Sss.Frontier.{next-high}
use Rattle.gametree_theory.proofs.Minimax.Moves.{Shown, move_same}

-- the children up to the first one not below v have their highs below it, as the memory's bounds say
abbrev pub DecidesMax : (ν : ℕ → ℕ) → ℕ → (ks : Children) → MemoChildren ks → Type 0
DecidesMax ν v (last t) m = v ≤ memo_low ν t m
DecidesMax ν v (t then ts) m =
    (v ≤ memo_low ν t m.first) ⊎ ((memo_high ν t m.first < v) × DecidesMax ν v ts m.rest)

-- a pass over the children of a Max node that finds them not below decides
pass_max-decides : (ν : ℕ → ℕ) (γ : ℕ) (ks : Children) (m : MemoChildren ks) → ScoredChildren ν ks
    → KeptChildren ν γ ks m
    → (pass_children ν γ Max ks m).not_below ≡ true → DecidesMax ν γ ks (pass_children ν γ Max ks m).next
pass_max-decides ν γ (last t) m h k = (sound ν γ t m h k).above
pass_max-decides ν γ (t then ts) m h k =
    let a = sound ν γ t m.first h.0 k.0 in
    cond_cases (λ (q : PassChildren (t then ts)). q.not_below ≡ true → DecidesMax ν γ (t then ts) q.next)
    (pass ν γ t m.first).not_below _ _
    (λ e _. inl (a.above e))
    (λ e f. inr (a.below e, pass_max-decides ν γ ts m.rest h.1 k.1 f))

module _ (ν : ℕ → ℕ) (n : ℕ) (ks : Children) where
  -- a Max root that was not found not below before is entered by the pass that finds it so
  root_max-decides : (γ : ℕ) (m : Memo (inner n Max ks)) → ScoredChildren ν ks → KeptChildren ν γ ks m.kids
      → m.not_below ≡ false
      → (pass ν γ (inner n Max ks) m).not_below ≡ true → DecidesMax ν γ ks (pass ν γ (inner n Max ks) m).next.kids
  root_max-decides γ m h k b =
      cond_cases (λ (r : Pass (inner n Max ks)). r.not_below ≡ true → DecidesMax ν γ ks r.next.kids)
      (ltb (memo_high_children ν Max ks m.kids) γ) _ _
      (λ _ e. absurd (true-not-false e refl))
      (λ _. cond_cases (λ (r : Pass (inner n Max ks)). r.not_below ≡ true → DecidesMax ν γ ks r.next.kids)
      m.not_below _ _
      (λ f _. absurd (true-not-false f b))
      (λ _ e. pass_max-decides ν γ ks m.kids h k e))

  root_max-below : (γ : ℕ) (m : Memo (inner n Max ks)) → m.not_below ≡ false
      → (pass ν γ (inner n Max ks) m).not_below ≡ false
      → (pass ν γ (inner n Max ks) m).next.not_below ≡ false
  root_max-below γ m b =
      cond_cases (λ (r : Pass (inner n Max ks)). r.not_below ≡ false → r.next.not_below ≡ false)
      (ltb (memo_high_children ν Max ks m.kids) γ) _ _
      (λ _ _. b)
      (λ _. cond_cases (λ (r : Pass (inner n Max ks)). r.not_below ≡ false → r.next.not_below ≡ false)
      m.not_below _ _
      (λ _ _. b)
      (λ _ e. e))

  run_max-decides : (f γ : ℕ) (m : Memo (inner n Max ks)) → ScoredChildren ν ks → Kept ν γ (inner n Max ks) m
      → m.not_below ≡ false
      → memo_high ν (inner n Max ks) m ≤ γ → γ < f
      → DecidesMax ν (run ν f γ (inner n Max ks) m).value ks (run ν f γ (inner n Max ks) m).memo.kids
  run_max-decides zero γ m h k b u l = absurd (omega (arith, l))
  run_max-decides (suc f) γ m h k b u l =
      let t = inner n Max ks in
      let x = (pass ν γ t m).next in
      let a = sound ν γ t m h k in
      cond_cases (λ (q : MemoRun t). DecidesMax ν q.value ks q.memo.kids) (pass ν γ t m).not_below _ _
      (λ e. root_max-decides γ m h k.1 b e)
      (λ e.
      let d = a.below e in
      run_max-decides f (memo_high ν t x) x h (kept-lower ν t x (omega arith) a.kept) (root_max-below γ m b e)
      (le_refl _) (omega arith))

-- MTD decides at a Max root: the elder siblings of the first child not below the value have their highs below it
mtd_max-decides : (ν : ℕ → ℕ) (n : ℕ) (ks : Children) → ScoredChildren ν ks
    → DecidesMax ν (memo_mtd ν (inner n Max ks)).value ks (memo_mtd ν (inner n Max ks)).memo.kids
unfolding memo_mtd
mtd_max-decides ν n ks h =
    let t = inner n Max ks in
    run_max-decides ν n ks (suc greatest) greatest (fresh t) h (fresh_kept ν greatest t) refl
    (omega (arith, fresh-memo_high ν t)) (omega arith)

-- what is decided is shown
max-shown : (ν : ℕ → ℕ) (w : List ℕ) (v : ℕ) (ks : Children) (m : MemoChildren ks) → ScoredChildren ν ks
    → MarksChildren w ks m
    → minimax_children ν Max ks ≤ v → DecidesMax ν v ks m → Shown (known ν (among w) least) ν v ks
max-shown ν w v (last t) m h k u d =
    λ e. let i = memo_bound-is least ν w t m k in
    let j = low≤ ν (among w) t in
    omega arith
max-shown ν w v (t then ts) m h k u (inl d) =
    let i = memo_bound-is least ν w t m.first k.0 in
    let j = low≤ ν (among w) t in
    (λ e. omega arith, λ f. absurd (f (omega arith)))
max-shown ν w v (t then ts) m h k u (inr d) =
    let j = minimax-memo_high ν t m.first h.0 in
    (λ e. absurd (omega (arith, d.0)), λ f. max-shown ν w v ts m.rest h.1 k.1 (omega arith) d.1)

-- at a Max root the first child whose high is the value is the first one that has it
first-high : (ν : ℕ → ℕ) (w : List ℕ) (v : ℕ) (ks : Children) (m : MemoChildren ks) → ScoredChildren ν ks
    → MarksChildren w ks m
    → memo_high_children ν Max ks m ≤ v → DecidesMax ν v ks m
    → first_with (high ν (among w)) v ks ≡ first_with (minimax ν) v ks
first-high ν w v (last t) m h k u d =
    let i = memo_bound-is greatest ν w t m k in
    let a = memo_low-minimax ν t m in
    let b = minimax-memo_high ν t m h in
    rw (eq-eqb (high ν (among w) t) v (omega arith), eq-eqb (minimax ν t) v (omega arith)) refl
first-high ν w v (t then ts) m h k u (inl d) =
    let i = memo_bound-is greatest ν w t m.first k.0 in
    let a = memo_low-minimax ν t m.first in
    let b = minimax-memo_high ν t m.first h.0 in
    rw (eq-eqb (high ν (among w) t) v (omega arith), eq-eqb (minimax ν t) v (omega arith)) refl
first-high ν w v (t then ts) m h k u (inr d) =
    let i = memo_bound-is greatest ν w t m.first k.0 in
    let b = minimax-memo_high ν t m.first h.0 in
    let l = d.0 in
    rw (
      ne_eqb (high ν (among w) t) v (λ e. omega arith),
      ne_eqb (minimax ν t) v (λ e. omega arith),
    ) (first-high ν w v ts m.rest h.1 k.1 (omega arith) d.1)

-- the children up to the first one whose high is at most v have their lows above it
abbrev pub DecidesMin : (ν : ℕ → ℕ) → ℕ → (ks : Children) → MemoChildren ks → Type 0
DecidesMin ν v (last t) m = memo_high ν t m ≤ v
DecidesMin ν v (t then ts) m =
    (memo_high ν t m.first ≤ v) ⊎ ((v < memo_low ν t m.first) × DecidesMin ν v ts m.rest)

-- so it is after a pass that finds a Min node below its test, for the node's high
ready_min-decides : (ν : ℕ → ℕ) (γ v : ℕ) (ks : Children) (m : MemoChildren ks) → ScoredChildren ν ks
    → KeptChildren ν γ ks m
    → γ ≤ greatest
    → ReadyChildren ν γ Min ks m → memo_high_children ν Min ks m ≡ v → v < γ → DecidesMin ν v ks m
ready_min-decides ν γ v (last t) m h k g r e l = omega arith
ready_min-decides ν γ v (t then ts) m h k g (inl r) e l =
    let a = not_below-low ν γ t m.first k.0 r.0.0 in
    let b = not_below-high ν γ t m.first h.0 k.0 r.0.0 in
    inr (omega arith, ready_min-decides ν γ v ts m.rest h.1 k.1 g r.1 (omega arith) l)
ready_min-decides ν γ v (t then ts) m h k g (inr r) e l =
    let a = ap (λ x. memo_high_children ν Min ts x) r.1.0 ∙ fresh_children-memo_high ν Min ts in
    inl (omega arith)

-- and it stays so
pass_min-keeps : (ν : ℕ → ℕ) (γ v : ℕ) (ks : Children) (m : MemoChildren ks) → ScoredChildren ν ks
    → KeptChildren ν γ ks m
    → DecidesMin ν v ks m
    → DecidesMin ν v ks (pass_children ν γ Min ks m).next
pass_min-keeps ν γ v (last t) m h k d = le_trans (sound ν γ t m h k).falls d
pass_min-keeps ν γ v (t then ts) m h k d =
    let a = sound ν γ t m.first h.0 k.0 in
    cond_cases (λ (q : PassChildren (t then ts)). DecidesMin ν v (t then ts) q.next)
    (not (pass ν γ t m.first).not_below) _ _
    (λ _. ⊎_elim (λ x. inl (le_trans a.falls x)) (λ x. inr (lt_of_lt_of_le x.0 a.rises, x.1)) d)
    (λ _. ⊎_elim (λ x. inl (le_trans a.falls x))
    (λ x. inr (lt_of_lt_of_le x.0 a.rises, pass_min-keeps ν γ v ts m.rest h.1 k.1 x.1)) d)

module _ (ν : ℕ → ℕ) (n : ℕ) (ks : Children) where
  root_min-keeps : (γ v : ℕ) (m : Memo (inner n Min ks)) → ScoredChildren ν ks → KeptChildren ν γ ks m.kids
      → DecidesMin ν v ks m.kids
      → DecidesMin ν v ks (pass ν γ (inner n Min ks) m).next.kids
  root_min-keeps γ v m h k d =
      cond_cases (λ (r : Pass (inner n Min ks)). DecidesMin ν v ks r.next.kids)
      (ltb (memo_high_children ν Min ks m.kids) γ) _ _
      (λ _. d)
      (λ _. cond_cases (λ (r : Pass (inner n Min ks)). DecidesMin ν v ks r.next.kids) m.not_below _ _
      (λ _. d)
      (λ _. pass_min-keeps ν γ v ks m.kids h k d))

  -- the first pass finds a root below, so the last one's test is the high that an earlier one left
  run_min-decides : (f γ : ℕ) (m : Memo (inner n Min ks)) (w : Fitted ν γ (inner n Min ks) m) → ScoredChildren ν ks
      → Kept ν γ (inner n Min ks) m
      → γ ≤ greatest → AtMost γ (states ν γ (inner n Min ks) m w)
      → (γ ≡ greatest) ⊎ DecidesMin ν γ ks m.kids → γ < f
      → DecidesMin ν (run ν f γ (inner n Min ks) m).value ks (run ν f γ (inner n Min ks) m).memo.kids
  run_min-decides zero γ m w h k g b d l = absurd (omega (arith, l))
  run_min-decides (suc f) γ m w h k g b d l =
      let t = inner n Min ks in
      let x = (pass ν γ t m).next in
      let a = sound ν γ t m h k in
      let z = minimax-score ν t h in
      cond_cases (λ (q : MemoRun t). DecidesMin ν q.value ks q.memo.kids) (pass ν γ t m).not_below _ _
      (λ e. ⊎_elim (λ y. absurd (omega (arith, a.above e, memo_low-minimax ν t x, z.1)))
      (λ y. root_min-keeps γ γ m h k.1 y) d)
      (λ e.
      let c = a.below e in
      let N = next ν γ g t m w h k b e in
      let i = next-high ν γ g t m w h k b e in
      run_min-decides f (memo_high ν t x) x (inr (ready-lower ν t x (omega arith) N.0)) h
      (kept-lower ν t x (omega arith) a.kept) (omega arith) i
      (inr (ready_min-decides ν γ _ ks x.kids h a.kept.1 g N.0.1 refl c)) (omega arith))

-- MTD decides at a Min root: the elder siblings of the first child whose high is at most the value have their lows
-- above it
mtd_min-decides : (ν : ℕ → ℕ) (n : ℕ) (ks : Children) → ScoredChildren ν ks
    → DecidesMin ν (memo_mtd ν (inner n Min ks)).value ks (memo_mtd ν (inner n Min ks)).memo.kids
unfolding memo_mtd
mtd_min-decides ν n ks h =
    let t = inner n Min ks in
    run_min-decides ν n ks (suc greatest) greatest (fresh t) (inl refl) h (fresh_kept ν greatest t) (le_refl _)
    (le_refl _, tt)
    (inl refl) (omega arith)

-- what is decided is shown
min-shown : (ν : ℕ → ℕ) (w : List ℕ) (v : ℕ) (ks : Children) (m : MemoChildren ks) → ScoredChildren ν ks
    → MarksChildren w ks m
    → v ≤ minimax_children ν Min ks → DecidesMin ν v ks m → Shown (known ν (among w) greatest) ν v ks
min-shown ν w v (last t) m h k u d =
    λ e. let i = memo_bound-is greatest ν w t m k in
    let j = ≤high ν (among w) t h in
    omega arith
min-shown ν w v (t then ts) m h k u (inl d) =
    let i = memo_bound-is greatest ν w t m.first k.0 in
    let j = ≤high ν (among w) t h.0 in
    (λ e. omega arith, λ f. absurd (f (omega arith)))
min-shown ν w v (t then ts) m h k u (inr d) =
    let j = memo_low-minimax ν t m.first in
    (λ e. absurd (omega (arith, d.0)), λ f. min-shown ν w v ts m.rest h.1 k.1 (omega arith) d.1)

-- the bounds of MTD's leaves meet at the value
pub mtd-decided : (ν : ℕ → ℕ) (t : Tree) → Proper ν t → Decided ν (among (memo_mtd ν t).evaluated) t
mtd-decided ν t r =
    let m = (mtd-marks ν t r.distinct).marks in
    let b = mtd-right ν t r.scored in
    record {
      low_is = sym (memo_bound-is least ν (memo_mtd ν t).evaluated t (memo_mtd ν t).memo m) ∙ b.low-is;
      high_is = sym (memo_bound-is greatest ν (memo_mtd ν t).evaluated t (memo_mtd ν t).memo m) ∙ b.high_is;
    }

-- and show the root's value
mtd-shown : (ν : ℕ → ℕ) (n : ℕ) (s : Side) (ks : Children) → Proper ν (inner n s ks)
    → Shown (known ν (among (memo_mtd ν (inner n s ks)).evaluated) (worst s)) ν (minimax_children ν s ks) ks
mtd-shown ν n Max ks r =
    let t = inner n Max ks in
    max-shown ν (memo_mtd ν t).evaluated _ ks (memo_mtd ν t).memo.kids r.scored (mtd-marks ν t r.distinct).marks
    (le_refl _) (rw (mtd-right ν t r.scored).value at (mtd_max-decides ν n ks r.scored))
mtd-shown ν n Min ks r =
    let t = inner n Min ks in
    min-shown ν (memo_mtd ν t).evaluated _ ks (memo_mtd ν t).memo.kids r.scored (mtd-marks ν t r.distinct).marks
    (le_refl _) (rw (mtd-right ν t r.scored).value at (mtd_min-decides ν n ks r.scored))

-- so the move by the bounds of MTD's leaves is the move
pub mtd-move : (ν : ℕ → ℕ) (t : Tree) → Proper ν t → bound_move ν (among (memo_mtd ν t).evaluated) t ≡ root_move_of ν t
mtd-move ν (leaf n) r = refl
mtd-move ν (inner n s ks) r =
    move_same ν _ n s ks r.scored (mtd-decided ν (inner n s ks) r) (mtd-shown ν n s ks r)

-- at a Max root it is the first child whose high is the root's
pub mtd-high_move : (ν : ℕ → ℕ) (n : ℕ) (ks : Children) → let t = inner n Max ks in
    let E = among (memo_mtd ν t).evaluated in
    Proper ν t → first_with (high ν E) (high ν E t) ks ≡ root_move_of ν t
mtd-high_move ν n ks r =
    let t = inner n Max ks in
    let b = mtd-right ν t r.scored in
    rw (mtd-decided ν t r).high_is
    (first-high ν (memo_mtd ν t).evaluated _ ks (memo_mtd ν t).memo.kids r.scored
    (mtd-marks ν t r.distinct).marks
    (omega (arith, b.high_is)) (rw b.value at (mtd_max-decides ν n ks r.scored)))
