-- What taking a state does, in the cases that the code tells apart.
use Rattle.prelude.proofs.{ℕ, zero, suc, ◌+◌, ◌≤◌, ◌<◌, arith, dec_lt, ◌≡◌, refl, true, false, List, []}
use Rattle.prelude.proofs.{length}
use Rattle.prelude.proofs.{lt-ltb, le-ltb}
use Rattle.lists.proofs.Choice.{true-not-false}
use Rattle.table.specs.{frames, child_count}
use Rattle.certificate_bounds.specs.{marked, ones, mark_all}
use Rattle.certificate_bounds.proofs.Listing.{ones-set}
use Rattle.sss_states.specs.declared.Status.{Status}
use Rattle.sss_states.specs.declared.Status.TheVariants.{Live, Solved}
use Rattle.sss_states.specs.declared.State.{State}
use Rattle.sss_turns.specs.declared.Counts.{Counts}
use Rattle.sss_turns.specs.{is_solved_root, evaluated_at, new_leaves, is_live_leaf}
use Rattle.sss_turns.specs.{is_uncovered}

-- a SOLVED state that is not the root's
pub not_root : (s : Status) (i : ℕ) → is_solved_root s i ≡ false → s ≡ Solved → 0 < i
not_root s zero e q = absurd (true-not-false refl (rw q at e))
not_root s (suc i) e q = omega arith

-- only a LIVE leaf is evaluated, so at most one leaf
pub inner-none : (n : ℕ) (s : Status) (i : ℕ) → (n ≡ 0 → ⊥) → evaluated_at n s i ≡ []
inner-none zero s i z = absurd (z refl)
inner-none (suc n) s i z = refl

pub solved-none : (n i : ℕ) → evaluated_at n Solved i ≡ []
solved-none zero i = refl
solved-none (suc n) i = refl

-- a LIVE leaf
pub live-leaf : (n : ℕ) (s : Status) → is_live_leaf n s ≡ true → (s ≡ Live) × (n ≡ 0)
live-leaf zero Live e = (refl, refl)
live-leaf zero Solved e = absurd (true-not-false e refl)
live-leaf (suc n) s e = absurd (true-not-false e refl)

-- no other state evaluates a leaf
no-leaves : (n : ℕ) (s : Status) (i : ℕ) → is_live_leaf n s ≡ false → length (evaluated_at n s i) ≡ 0
no-leaves zero Live i e = absurd (true-not-false refl e)
no-leaves zero Solved i e = refl
no-leaves (suc n) s i e = refl

few-leaves : (n : ℕ) (s : Status) (i : ℕ) → length (evaluated_at n s i) ≤ 1
few-leaves zero Live i = omega arith
few-leaves zero Solved i = omega arith
few-leaves (suc n) s i = omega arith

module _ (t : List ℕ) (e : State) (n : ℕ) (k : Counts) (h : n ≤ k.allowance) where
  -- a leaf is evaluated where that is one too many
  pub uncovered-leaf : is_uncovered t e n k ≡ true
      → (e.status ≡ Live) × (child_count t e.node ≡ 0) × (n ≡ k.allowance)
  uncovered-leaf u =
      elim (dec_lt n k.allowance) [
        | yes l ↦ absurd (true-not-false u (rw (lt-ltb n k.allowance l)))
        | no l ↦ (let p = live-leaf (child_count t e.node) e.status
            (rw (le-ltb n k.allowance (omega arith)) at u) in (p.0, p.1, omega arith))
      ]

  -- else the allowance covers what is evaluated
  pub covered : is_uncovered t e n k ≡ false → n + length (new_leaves t e) ≤ k.allowance
  covered u =
      elim (dec_lt n k.allowance) [
        | yes l ↦ omega (arith, few-leaves (child_count t e.node) e.status e.node)
        | no l ↦ omega (
          arith,
          no-leaves (child_count t e.node) e.status e.node
              (rw (le-ltb n k.allowance (omega arith)) at u),
        )
      ]

-- where the count is that of the marks, it is so after a replacement too
pub counted-on : (t b : List ℕ) (n : ℕ) (s : Status) (i k : ℕ) → k ≡ ones b (frames t) → i < frames t
    → frames t ≤ length b → (s ≡ Live → n ≡ 0 → marked b i ≡ false)
    → k + length (evaluated_at n s i) ≡ ones (mark_all b (evaluated_at n s i)) (frames t)
unfolding mark_all
counted-on t b zero Live i k c h r u = omega (arith, c, ones-set b (frames t) i h (omega arith) (u refl refl))
counted-on t b zero Solved i k c h r u = omega (arith, c)
counted-on t b (suc n) s i k c h r u = omega (arith, c)
