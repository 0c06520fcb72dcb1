-- SSS* from the LIVE root evaluates the leaves that MTD evaluates, in the same order, and ends with the minimax value:
-- step 8 of the argument that Simulation sets out, and what follows for the run.
use Rattle.prelude.proofs.{ℕ, zero, suc, ◌+◌, ◌*◌, ◌≤◌, ◌<◌, le_refl, arith, ◌≡◌, refl, ap, subst, inl, inr, List, []}
use Rattle.prelude.proofs.{◌∷◌, append-nil, map}
use Rattle.gametree.specs.{Tree, greatest, minimax, number, size, Scored, Proper, Memo, memo_high, pass, MemoRun, run}
use Rattle.gametree.specs.{fresh, memo_mtd, SOLVED, State, live, solved, stop, step, SssRun, run_from, sss}
use Rattle.gametree_theory.proofs.Sss.Lookups.{Answers}
use Rattle.lists.proofs.Choice.{cond_cases}
use Rattle.gametree_theory.proofs.Mtd.Sound.{Kept, sound}
use Rattle.gametree_theory.proofs.Mtd.Value.{kept-lower, fresh_kept, mtd-right}
use Rattle.gametree_theory.proofs.Sss.OwnNodes.{own_root, own-answers}
use Rattle.gametree_theory.proofs.Sss.Steps.{Steps, done, quietly, evaluates, allow, chain}
use Rattle.gametree_theory.proofs.Sss.Frontier.{AtMost, frontier, Fitted, ready-lower, states, next, next-high}
use Rattle.gametree_theory.proofs.Sss.Work.{full, part, work, full_size}
use Rattle.gametree_theory.proofs.Sss.Simulation.{sim}
use Rattle.gametree_theory.proofs.Sss.Around.{AroundTree, takes}

-- a list that holds the tree's states and nothing else
pub alone : (γ : ℕ) (t : Tree) → AroundTree t γ t [] []
alone γ t = record { less = tt; no_more = tt; behind = tt; clear_left = tt; clear_right = tt }

-- STEP 8. THE NEXT TEST IS THE ROOT'S HIGH

-- the passes of MTD, one after the other, are a run of SSS*: the high that a pass leaves bounds the frontier again
run-steps : (ν : ℕ → ℕ) (f γ : ℕ) (t : Tree) (m : Memo t) (w : Fitted ν γ t m) → Answers t t
    → Scored ν t → Kept ν γ t m → γ ≤ greatest
    → AtMost γ (states ν γ t m w) → γ < f
    → Steps ν t (work ν γ t m w) (states ν γ t m w) (run ν f γ t m).evaluated
    (solved (number t) (run ν f γ t m).value ∷ []) 0
run-steps ν zero γ t m w p h k g b l = absurd (omega (arith, l))
run-steps ν (suc f) γ t m w p h k g b l =
    let S = sim ν t γ g t m w p h k b [] [] (alone γ t) in
    let n = (pass ν γ t m).next in
    let F = states ν γ t m w in
    let more : work ν γ t m w + 0 ≤ work ν γ t m w = omega arith in
    cond_cases (λ (q : MemoRun t). Steps ν t (work ν γ t m w) F q.evaluated (solved (number t) q.value ∷ []) 0)
    (pass ν γ t m).not_below _ _
    (λ e. allow more (rw (append-nil F) at (S.above 0 e)))
    (λ e.
    let s = sound ν γ t m h k in
    let d = s.below e in
    let N = next ν γ g t m w h k b e in
    let enough : part ν t n ≤ part ν t n + 0 = omega arith in
    chain (allow more (rw (append-nil F, append-nil (frontier ν t n)) at (S.below 0 e))) enough
    (run-steps ν f (memo_high ν t n) t n (inr (ready-lower ν t n (omega arith) N.0)) p h
    (kept-lower ν t n (omega arith) s.kept) (omega arith) (next-high ν γ g t m w h k b e) (omega arith)))

-- THE RUN

-- what a run gives that ends with v, evaluates the leaves w, and makes at most a replacements
pub record Gives (r : SssRun) (v : ℕ) (w : List ℕ) (a : ℕ) : Type 0 where
  pub value-is : r.value ≡ v
  pub leaves-are : map (λ x. x.leaf) r.evaluations ≡ w
  pub replaced : r.replacements ≤ a

module _ (ν : ℕ → ℕ) (t : Tree) (v : ℕ) where
  -- the run follows the steps
  go-steps : (f k c : ℕ) {a b : ℕ} {L N : List State} {w : List ℕ} → Steps ν t a L w N b → step ν t N ≡ stop v
      → a < f → k + a ≤ c → Gives (run_from ν t f k L) v w c
  go-steps zero k c s e l u = absurd (omega (arith, l))
  go-steps (suc f) k c (done i) e l u = rw e (record { value-is = refl; leaves-are = refl; replaced = omega arith })
  go-steps (suc f) k c (quietly s i p) e l u = rw s (go-steps f (suc k) c p e (omega arith) (omega arith))
  go-steps (suc f) k c (evaluates {n = n} s i p) e l u =
      let q = go-steps f (suc k) c p e (omega arith) (omega arith) in
      rw s (record {
        value-is = q.value-is;
        leaves-are = ap (λ x. n ∷ x) q.leaves-are;
        replaced = q.replaced;
      })

-- the root, SOLVED, stops the run
pub root-stops : (ν : ℕ → ℕ) (t : Tree) (v : ℕ) → step ν t (solved (number t) v ∷ []) ≡ stop v
root-stops ν t v = takes ν t v t [] [] (alone v t) SOLVED (stop v) (rw (own_root t) refl)

-- from the LIVE root MTD's leaves are evaluated
pub mtd-steps : (ν : ℕ → ℕ) (t : Tree) → Proper ν t
    → Steps ν t (full t) (live (number t) greatest ∷ []) (memo_mtd ν t).evaluated
    (solved (number t) (memo_mtd ν t).value ∷ []) 0
unfolding memo_mtd
mtd-steps ν t h =
    run-steps ν (suc greatest) greatest t (fresh t) (inl refl) (own-answers t h.distinct) h.scored
    (fresh_kept ν greatest t) (le_refl greatest) (le_refl greatest, tt) (omega arith)

-- SSS* gives the minimax value and MTD's leaves in MTD's order, and makes fewer replacements than twice the number of
-- nodes
pub sss-is-mtd : (ν : ℕ → ℕ) (t : Tree) → Proper ν t
    → Gives (sss ν t) (minimax ν t) (memo_mtd ν t).evaluated (full t)
sss-is-mtd ν t h =
    subst (λ v. Gives (sss ν t) v (memo_mtd ν t).evaluated (full t)) (mtd-right ν t h.scored).value
    (go-steps ν t (memo_mtd ν t).value (2 * size t) 0 (full t) (mtd-steps ν t h)
    (root-stops ν t (memo_mtd ν t).value) (full_size t) (omega arith))
