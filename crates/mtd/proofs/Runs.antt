-- The run of passes: what the run gives from the present test and memory, after the passes so far, is what MTD gives.
use Rattle.prelude.proofs.{ℕ, suc, ◌+◌, ◌≤◌, ◌<◌, arith, ◌≡◌, refl, sym, ap, ap₂, ◌∙◌, subst, Bool, true, false}
use Rattle.prelude.proofs.{List, [], ◌++◌, append_assoc, eqb, get_or}
use Rattle.gametree.specs.{Tree, greatest, MtdRun, mtd, Memo, memo_high, pass, MemoRun, settled, followed, run, fresh}
use Rattle.gametree.specs.{memo_mtd, without_memo}
use Rattle.gametree_theory.proofs.Mtd.Sound.{Kept, Sound, sound}
use Rattle.gametree_theory.proofs.Mtd.Value.{kept-lower, fresh_kept, fresh-memo_high}
use Rattle.gametree_theory.proofs.Mtd.MemoArrays.{read-fresh, read-high}
use Rattle.gametree_theory.proofs.Mtd.Memory.{memo-run}
use Rattle.table.specs.{frames, child_count, next, root_position, tree_at, tree, valuation, WellFormed}
use Rattle.table.proofs.Positions.{position-root}
use Rattle.table.proofs.Trees.{zero-or-suc}
use Rattle.table.proofs.Nodes.{in-own, in-parent, tree-range}
use Rattle.table.proofs.Proper.{tree-proper}
use Rattle.certificate_bounds.specs.{marked, evaluate_all, bound_of}
use Rattle.certificate_bounds.proofs.Listing.{ones_none}
use Rattle.certificate_flags.specs.{first_equal}
use Rattle.certificate_flags.proofs.Chosen.{first-same}
use Rattle.mtd_memory.specs.{Memory, Long, progress_of, memo_of, pass_of, MemoryRoom, HighsRight, first_high, Counted}
use Rattle.mtd_memory.specs.{VisitReady}
use Rattle.mtd_memory.specs.{Evaluated, Passed, Fresh, SkipsRight}
use Rattle.mtd_memory.proofs.Arrays.{room-kept, evaluated-none, evaluated-more, no-skips}

-- where the highs are right, the first of the root's children whose high is the root's is the one that the marks give
pub move-right : (t : List ℕ) → WellFormed t → (m : Memory) → HighsRight t m (tree t)
    → first_equal (λ k. get_or m.highs k 0) (get_or m.highs 0 0) 1 (child_count t 0) ≡ first_high t m.evaluated
unfolding next
move-right t wf m right =
    let E = marked m.evaluated in
    first-same _ (bound_of t E greatest) _ 1 (child_count t 0)
    (λ k a b.
    let first = wf.first 0 wf.non_empty (omega arith) in
    right k (in-parent t wf wf.non_empty (record { from = omega arith; to = omega arith }) k (in-own t wf k)))
    ∙ ap (λ v. first_equal (bound_of t E greatest) v 1 (child_count t 0)) (right 0 (in-own t wf 0))

-- the run of a table's tree from the memory that the arrays hold
abbrev pub run_of : (t : List ℕ) → ℕ → ℕ → Memory → MemoRun (tree t)
run_of t f γ m = run (valuation t) f γ (tree t) (memo_of m (tree t))

-- before a pass: the passes so far and the run from here make the whole run q
pub record Passing (t : List ℕ) (q : MtdRun) (m m' : Memory) (test passes : ℕ) : Type 0 where
  pub long : Long m m'
  pub counted : Counted t m'
  pub right : HighsRight t m' (tree t)
  pub skips : SkipsRight t m' (tree t)
  pub kept : Kept (valuation t) test (tree t) (memo_of m' (tree t))
  pub at_most : passes + test ≤ greatest
  pub spare : ℕ
  pub enough : test ≤ spare
  pub done : List ℕ
  pub so-far : Evaluated m m' done
  pub value : q.value ≡ (run_of t (suc spare) test m').value
  pub evaluated : q.evaluated ≡ done ++ (run_of t (suc spare) test m').evaluated
  pub passed : q.passes ≡ passes + (run_of t (suc spare) test m').passes

-- the first pass, for any bound on the passes that is large enough
passing-from : (t : List ℕ) (m : Memory) → Fresh t m → (f : ℕ) → greatest ≤ f
    → Passing t (without_memo (tree t) (run (valuation t) (suc f) greatest (tree t) (fresh (tree t)))) m m greatest 0
passing-from t m h f l =
    let bits : (p : ℕ) → p < frames t → (marked m.evaluated p ≡ false) × (marked m.not_below p ≡ false) =
    λ p x. (h.evaluated p x, ap (λ x. eqb x 1) (h.not_below p x)) in
    let inside = tree-range t h.formed in
    let start = read-fresh _ _ (tree t) (λ p i. bits p (inside 0 h.formed.non_empty p i).1) in
    record {
      long = record { evaluated = refl; order = refl; highs = refl; not_below = refl };
      counted = h.leaves ∙ sym (ones_none m.evaluated (frames t) h.evaluated);
      right = λ k i.
          let own = (inside 0 h.formed.non_empty k i).1 in
          let at-start = read-fresh _ _ (tree_at t k) (λ p j. bits p (inside k own p j).1) in
          h.highs k own
          ∙ sym (sym (read-high (valuation t) (marked m.evaluated) (marked m.not_below) (tree_at t k))
          ∙ ap (memo_high (valuation t) (tree_at t k)) at-start ∙ fresh-memo_high (valuation t) (tree_at t k));
      skips = λ k i.
          no-skips t m k (omega (arith, h.not_below k (inside 0 h.formed.non_empty k i).1));
      kept = subst (Kept (valuation t) greatest (tree t)) (sym start) (fresh_kept (valuation t) greatest (tree t));
      at_most = omega arith;
      spare = f;
      enough = l;
      done = [];
      so-far = evaluated-none m;
      value = ap (λ x. (run (valuation t) (suc f) greatest (tree t) x).value) (sym start);
      evaluated = ap (λ x. (run (valuation t) (suc f) greatest (tree t) x).evaluated) (sym start);
      passed = omega (arith, ap (λ x. (run (valuation t) (suc f) greatest (tree t) x).passes) (sym start));
    }

memo-passing : (t : List ℕ) (m : Memory) → Fresh t m
    → Passing t (without_memo (tree t) (memo_mtd (valuation t) (tree t))) m m greatest 0
unfolding memo_mtd
memo-passing t m h = passing-from t m h 64002 (omega arith)

-- before the first pass: the greatest test, and nothing counted
pub passing-first : (t : List ℕ) (m : Memory) → Fresh t m → (test passes : ℕ) → test ≡ greatest → passes ≡ 0
    → Passing t (mtd (valuation t) (tree t)) m m test passes
passing-first t m h test passes p r =
    rw (p, r, memo-run (valuation t) (tree t) (tree-proper t h.formed).distinct) (memo-passing t m h)

-- a run of one pass more, where the root is not below, and where it is
run_settled : (ν : ℕ → ℕ) (f γ : ℕ) (T : Tree) (m : Memo T) → (pass ν γ T m).not_below ≡ true
    → run ν (suc f) γ T m ≡ settled γ T (pass ν γ T m)
run_settled ν f γ T m e = rw e

run-followed : (ν : ℕ → ℕ) (f γ : ℕ) (T : Tree) (m : Memo T) → (pass ν γ T m).not_below ≡ false
    → run ν (suc f) γ T m
    ≡ followed T (pass ν γ T m) (run ν f (memo_high ν T (pass ν γ T m).next) T (pass ν γ T m).next)
run-followed ν f γ T m e = rw e

module _ {t : List ℕ} {q : MtdRun} {m m' : Memory} {test passes : ℕ} (wf : WellFormed t)
    (u : Passing t q m m' test passes) where
  -- what the next pass asks
  pub passing-ready : MemoryRoom (frames t) m → VisitReady t m' 0 root_position
  passing-ready room =
      record {
        formed = wf;
        inside = wf.non_empty;
        positioned = sym (position-root t);
        room = room-kept room u.long;
        counted = u.counted;
        right = u.right;
        skips = u.skips;
      }

  module _ {m'' : Memory} {r : Bool} (p : Passed t (tree t) test m' m'' r) where
    -- the last pass: the root is not below
    pub passing-last : r ≡ true
        → ((test ≡ q.value) × (passes + 1 ≡ q.passes))
        × ((progress_of m'' ≡ evaluate_all (progress_of m) q.evaluated) × Counted t m'')
    passing-last e =
        let is = run_settled (valuation t) u.spare test (tree t) _ (sym p.answer ∙ e) in
        let w = u.evaluated ∙ ap (λ x. u.done ++ x.evaluated) is in
        let all = subst (Evaluated m m'') (sym w) (evaluated-more u.so-far p.evaluated) in (
          (sym (u.value ∙ ap (λ x. x.value) is), omega (arith, u.passed, ap (λ x. x.passes) is)),
          (all.all, p.counted),
        )

    -- another pass: the next test is the root's high
    module _ (e : r ≡ false) where
      next-sound : Sound (valuation t) test (tree t) (memo_of m' (tree t)) (pass_of t test m' (tree t))
      next-sound = sound (valuation t) test (tree t) (memo_of m' (tree t)) (tree-proper t wf).scored u.kept

      next-high : get_or m''.highs 0 0 ≡ memo_high (valuation t) (tree t) (pass_of t test m' (tree t)).next
      next-high =
          p.right 0 (in-own t wf 0) ∙ sym (read-high (valuation t) _ (marked m''.not_below) (tree t))
          ∙ ap (memo_high (valuation t) (tree t)) p.memo.got

      pub next-falls : get_or m''.highs 0 0 < test
      next-falls = omega (arith, next-high, next-sound.below (sym p.answer ∙ e))

      next-run : run_of t (suc u.spare) test m'
          ≡ followed (tree t) (pass_of t test m' (tree t)) (run_of t u.spare (get_or m''.highs 0 0) m'')
      next-run =
          run-followed (valuation t) u.spare test (tree t) _ (sym p.answer ∙ e)
          ∙ ap₂ (λ γ x. followed (tree t) (pass_of t test m' (tree t)) (run (valuation t) u.spare γ (tree t) x))
          (sym next-high) (sym p.memo.got)

      next-passing : Long m m'' → Passing t q m m'' (get_or m''.highs 0 0) (passes + 1)
      next-passing long =
          zero-or-suc u.spare (λ z. absurd (omega (arith, u.enough, next-falls))) (λ f z.
          let r = pass_of t test m' (tree t) in
          let w = r.evaluated in
          let is = next-run ∙ ap (λ n. followed (tree t) r (run_of t n (get_or m''.highs 0 0) m'')) z in
          record {
            long = long;
            counted = p.counted;
            right = p.right;
            skips = p.skips;
            kept =
                subst (Kept (valuation t) (get_or m''.highs 0 0) (tree t)) (sym p.memo.got)
                (kept-lower (valuation t) (tree t) _ (omega (arith, next-falls)) next-sound.kept);
            at_most = omega (arith, u.at_most, next-falls);
            spare = f;
            enough = omega (arith, u.enough, next-falls);
            done = u.done ++ w;
            so-far = evaluated-more u.so-far p.evaluated;
            value = u.value ∙ ap (λ x. x.value) is;
            evaluated =
                u.evaluated ∙ ap (λ x. u.done ++ x.evaluated) is ∙ sym (append_assoc u.done w _);
            passed = omega (arith, u.passed, ap (λ x. x.passes) is);
          })

      pub passing-next : Long m m'' → (test' : ℕ) → test' ≡ get_or m''.highs 0 0
          → Passing t q m m'' test' (passes + 1)
      passing-next long test' h = rw h (next-passing long)
