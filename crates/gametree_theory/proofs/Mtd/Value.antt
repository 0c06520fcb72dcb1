-- MTD ends with the minimax value, and the bounds that its leaves give the root are that value.
use Rattle.prelude.proofs.{ℕ, zero, suc, ◌≤◌, ◌<◌, le_refl, le_trans, arith, ◌≡◌, refl, true}
use Rattle.gametree.specs.declared.Side.{Side}
use Rattle.gametree.specs.declared.Side.TheVariants.{Max, Min}
use Rattle.gametree.specs.{Tree, leaf, inner, Children, last, ◌then◌, greatest, better, minimax, Scored, Memo}
use Rattle.gametree.specs.{MemoChildren, memo_high, memo_high_children, pass, MemoRun, settled, run, fresh}
use Rattle.gametree.specs.{fresh_children}
use Rattle.gametree.specs.{memo_mtd}
use Rattle.lists.proofs.Choice.{cond_cases, true-not-false}
use Rattle.gametree_theory.proofs.Mtd.Sound.{memo_low, memo_low-minimax, minimax-memo_high, Kept, KeptChildren}
use Rattle.gametree_theory.proofs.Mtd.Sound.{Sound}
use Rattle.gametree_theory.proofs.Mtd.Sound.{sound}

mutual
  -- with a lower test no more is asked of the nodes found not below
  pub kept-lower : (ν : ℕ → ℕ) {γ δ : ℕ} (t : Tree) (m : Memo t) → δ ≤ γ → Kept ν γ t m → Kept ν δ t m
  kept-lower ν (leaf n) m h k = tt
  kept-lower ν (inner n s ks) m h k = (λ e. le_trans h (k.0 e), kept_children-lower ν ks m.kids h k.1)

  kept_children-lower : (ν : ℕ → ℕ) {γ δ : ℕ} (ks : Children) (m : MemoChildren ks) → δ ≤ γ → KeptChildren ν γ ks m
      → KeptChildren ν δ ks m
  kept_children-lower ν (last t) m h k = kept-lower ν t m h k
  kept_children-lower ν (t then ts) m h k = (
    kept-lower ν t m.first h k.0,
    kept_children-lower ν ts m.rest h k.1,
  )

-- the run's value is the minimax value, and so are the bounds that its leaves give
pub record Right (ν : ℕ → ℕ) (t : Tree) (q : MemoRun t) : Type 0 where
  pub value : q.value ≡ minimax ν t
  pub low-is : memo_low ν t q.memo ≡ minimax ν t
  pub high_is : memo_high ν t q.memo ≡ minimax ν t

right-settled : (ν : ℕ → ℕ) (γ : ℕ) (t : Tree) (m : Memo t) → Scored ν t → memo_high ν t m ≤ γ
    → Sound ν γ t m (pass ν γ t m) → (pass ν γ t m).not_below ≡ true
    → Right ν t (settled γ t (pass ν γ t m))
right-settled ν γ t m h top-ok a e =
    let l = memo_low-minimax ν t (pass ν γ t m).next in
    let u = minimax-memo_high ν t (pass ν γ t m).next h in
    let g = a.above e in
    record { value = omega arith; low-is = omega arith; high_is = omega arith }

-- passes from a test that the root's high does not exceed end with the minimax value
run-right : (ν : ℕ → ℕ) (f γ : ℕ) (t : Tree) (m : Memo t) → Scored ν t → Kept ν γ t m → memo_high ν t m ≤ γ → γ < f
    → Right ν t (run ν f γ t m)
run-right ν zero γ t m h k u l = absurd (omega (arith, l))
run-right ν (suc f) γ t m h k u l =
    cond_cases (λ q. Right ν t q) (pass ν γ t m).not_below _ _
    (λ e. right-settled ν γ t m h u (sound ν γ t m h k) e)
    (λ e.
    let a = sound ν γ t m h k in
    let b = a.below e in
    let n = (pass ν γ t m).next in
    let r = run-right ν f (memo_high ν t n) t n h (kept-lower ν t n (omega arith) a.kept) (le_refl _) (omega arith) in
    record { value = r.value; low-is = r.low-is; high_is = r.high_is })

mutual
  -- at the start no node was found
  pub fresh_kept : (ν : ℕ → ℕ) (γ : ℕ) (t : Tree) → Kept ν γ t (fresh t)
  fresh_kept ν γ (leaf n) = tt
  fresh_kept ν γ (inner n s ks) = (λ e. absurd (true-not-false e refl), fresh_children-kept ν γ ks)

  fresh_children-kept : (ν : ℕ → ℕ) (γ : ℕ) (ks : Children) → KeptChildren ν γ ks (fresh_children ks)
  fresh_children-kept ν γ (last t) = fresh_kept ν γ t
  fresh_children-kept ν γ (t then ts) = (fresh_kept ν γ t, fresh_children-kept ν γ ts)

better-same : (s : Side) (a : ℕ) → better s a a ≡ a
better-same Max a = omega arith
better-same Min a = omega arith

mutual
  -- at the start every high is the top
  pub fresh-memo_high : (ν : ℕ → ℕ) (t : Tree) → memo_high ν t (fresh t) ≡ greatest
  fresh-memo_high ν (leaf n) = refl
  fresh-memo_high ν (inner n s ks) = fresh_children-memo_high ν s ks

  pub fresh_children-memo_high : (ν : ℕ → ℕ) (s : Side) (ks : Children)
      → memo_high_children ν s ks (fresh_children ks) ≡ greatest
  fresh_children-memo_high ν s (last t) = fresh-memo_high ν t
  fresh_children-memo_high ν s (t then ts) = rw (fresh-memo_high ν t, fresh_children-memo_high ν s ts)
      (better-same s greatest)

-- MTD gives the minimax value, and its evaluated leaves give every bound of the root that value
pub mtd-right : (ν : ℕ → ℕ) (t : Tree) → Scored ν t → Right ν t (memo_mtd ν t)
unfolding memo_mtd
mtd-right ν t h =
    run-right ν (suc greatest) greatest t (fresh t) h (fresh_kept ν greatest t) (omega (arith, fresh-memo_high ν t))
    (omega arith)
