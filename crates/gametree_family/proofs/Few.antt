-- MTD(f) makes at most one test more than there are different scores among the leaves that it evaluates. After a first
-- answer "below" each test is the score of an evaluated leaf, and they fall; after "not below" the game is mirrored.
use Rattle.prelude.proofs.{ℕ, zero, suc, ◌≤◌, ◌<◌, suc-le-suc, le_trans, arith, ◌≡◌, refl, ◌∙◌, subst, Bool, true}
use Rattle.prelude.proofs.{false, cond, List, [], ◌∷◌, ◌++◌, map, leb, eqb, length, length-map, eqb-false, leb-true}
use Rattle.prelude.proofs.{leb-false, lt-leb}
use Rattle.lists.specs.{All, among, different}
use Rattle.gametree.specs.{Tree, greatest, minimax, leaves, Scored, low, high, test, view, Strategy, chosen_test}
use Rattle.gametree.specs.{TestSearch, drive, search_by, mtd_from}
use Rattle.gametree_family.specs.{mirror, opposite, mirrored, opposite_test}
use Rattle.lists.proofs.Choice.{cond_cases, true-not-false}
use Rattle.lists.proofs.Lists.{all_map, all_among, all-at, among-left}
use Rattle.gametree_theory.proofs.Minimax.Bounds.{≤high, low-none, minimax-score}
use Rattle.gametree_theory.proofs.Minimax.Closer.{high-falls, bounds≤, high≤}
use Rattle.gametree_theory.proofs.Mtd.Passes.{how-many, more-there, how-many-different, high-score, among-map}
use Rattle.gametree_theory.proofs.Tests.Answer.{test-answer}
use Rattle.gametree_theory.proofs.Tests.Progress.{Confirms, test-confirmed}
use Rattle.gametree_theory.proofs.Tests.Local.{run-earlier}
use Rattle.gametree_theory.proofs.Tests.Guess.{met-none}
use Rattle.gametree_family.proofs.Mirror.{minimax-mirror, scored-mirror, search-mirror, test-opposite}
use Rattle.gametree_family.proofs.Mirror.{clamp≤}

-- a fact of each score of a list
all-scores : (ν : ℕ → ℕ) (P : ℕ → Type 0) (w : List ℕ) → All (λ k. P (ν k)) w → All P (map ν w)
all-scores ν P [] h = tt
all-scores ν P (k ∷ w) h = (h.0, all-scores ν P w h.1)

-- a high that is a score of leaves evaluated before a run is one of those at its end
score-kept : (ν : ℕ → ℕ) (σ : Strategy) (f : ℕ) (t : Tree) (bs : List Bool) (w : List ℕ) → high ν (among w) t < greatest
    → among (map ν (drive ν σ f t bs w).evaluated) (high ν (among w) t) ≡ true
score-kept ν σ f t bs w h =
    let u = (drive ν σ f t bs w).evaluated in
    all-at (λ x. among (map ν u) x ≡ true) (map ν w)
    (all-scores ν (λ x. among (map ν u) x ≡ true) w
    (run-earlier (λ k. among (map ν u) (ν k) ≡ true) ν σ f t bs w
    (all_map _ _ (λ k e. among-map ν u k e) u (all_among u)))) (high ν (among w) t) (high-score ν w t h)

-- what follows a test γ that left the leaves v makes no more tests than there are scores below γ
few-after : (ν : ℕ → ℕ) (σ : Strategy) (f γ : ℕ) (t : Tree) (b : Bool) (bs : List Bool) (v : List ℕ) → Scored ν t
    → γ ≤ greatest → (b ≡ true → high ν (among v) t ≤ γ) → Confirms γ b (low ν (among v) t) (high ν (among v) t)
    → length (drive ν σ f t (false ∷ bs) v).tests
    ≤ suc (how-many (among (map ν (drive ν σ f t (false ∷ bs) v).evaluated)) (high ν (among v) t))
    → length (drive ν σ f t (b ∷ bs) v).tests ≤ how-many (among (map ν (drive ν σ f t (b ∷ bs) v).evaluated)) γ
few-after ν σ f γ t true bs v h g u c i =
    let k = u refl in
    let o = bounds≤ ν (among v) t h in
    omega (arith, met-none ν t h σ f (true ∷ bs) v (omega arith))
few-after ν σ f γ t false bs v h g u c i =
    let u = (drive ν σ f t (false ∷ bs) v).evaluated in
    let k = score-kept ν σ f t (false ∷ bs) v (omega arith) in
    omega (arith, i, more-there (among (map ν u)) (high ν (among v) t) γ c k)

-- after an answer "below" there are no more tests than one more than the scores below the root's high
below-few : (ν : ℕ → ℕ) (g f : ℕ) (t : Tree) (bs : List Bool) (w : List ℕ) → Scored ν t
    → length (drive ν (mtd_from g) f t (false ∷ bs) w).tests
    ≤ suc (how-many (among (map ν (drive ν (mtd_from g) f t (false ∷ bs) w).evaluated)) (high ν (among w) t))
below-few ν g zero t bs w h = omega arith
below-few ν g (suc f) t bs w h =
    let l = low ν (among w) t in
    let u = high ν (among w) t in
    cond_cases (λ (q : TestSearch). length q.tests ≤ suc (how-many (among (map ν q.evaluated)) u)) (eqb l u) _ _
    (λ _. omega arith)
    (λ e.
    let i = eqb-false l u e in
    let o = bounds≤ ν (among w) t h in
    let k = high≤ ν (among w) t h in
    let γ = chosen_test (mtd_from g) (view ν t (false ∷ bs) w) in
    let j : γ ≡ u = omega arith in
    let r = test ν γ w t in
    let v = w ++ r.evaluated in
    let d = high-falls ν (among w) (among v) (among-left w r.evaluated) t h in
    let a =
    few-after ν (mtd_from g) f γ t r.not_below (false ∷ bs) v h (omega arith) (λ _. omega arith)
    (test-confirmed ν γ w t h) (below-few ν g f t (false ∷ bs) v h) in
    suc-le-suc (subst (λ x. length (drive ν (mtd_from g) f t (r.not_below ∷ false ∷ bs) v).tests
    ≤ how-many (among (map ν (drive ν (mtd_from g) f t (r.not_below ∷ false ∷ bs) v).evaluated)) x) j a))

-- so it is for the whole search, if the value is below its first test
guess-below : (ν : ℕ → ℕ) (g : ℕ) (t : Tree) → Scored ν t
    → minimax ν t < chosen_test (mtd_from g) (view ν t [] [])
    → length (search_by (mtd_from g) ν t).tests ≤ suc (different (map ν (search_by (mtd_from g) ν t).evaluated))
guess-below ν g t h m =
    let l = low ν (among []) t in
    let u = high ν (among []) t in
    cond_cases (λ (q : TestSearch). length q.tests ≤ suc (different (map ν q.evaluated))) (eqb l u) _ _
    (λ _. omega arith)
    (λ e.
    let k = high≤ ν (among []) t h in
    let γ = chosen_test (mtd_from g) (view ν t [] []) in
    let r = test ν γ [] t in
    let v = r.evaluated in
    let b = test-answer ν γ [] t h ∙ lt-leb γ (minimax ν t) m in
    let a =
    few-after ν (mtd_from g) (length (leaves t)) γ t r.not_below [] v h (le_trans (clamp≤ (suc l) u g) k)
    (λ d. absurd (true-not-false d b)) (test-confirmed ν γ [] t h) (below-few ν g (length (leaves t)) t [] v h) in
    let x = (drive ν (mtd_from g) (length (leaves t)) t (r.not_below ∷ []) v).evaluated in
    suc-le-suc (le_trans a (how-many-different (map ν x) γ)))

-- images of scores are no more different than the scores
images-few : (f ν : ℕ → ℕ) (w : List ℕ) → different (map (λ n. f (ν n)) w) ≤ different (map ν w)
images-few f ν [] = omega arith
images-few f ν (k ∷ w) =
    omega (
      arith,
      images-few f ν w,
      one (among (map ν w) (ν k)) _
          (all-at (λ x. among (map (λ n. f (ν n)) w) (f x) ≡ true) (map ν w)
          (all-scores ν (λ x. among (map (λ n. f (ν n)) w) (f x) ≡ true) w
          (all_map _ _ (λ j e. among-map (λ n. f (ν n)) w j e) w (all_among w))) (ν k)),
    )
  where
    one : (b c : Bool) → (b ≡ true → c ≡ true) → cond c 0 1 ≤ cond b 0 1
    one true c h = rw (h refl) (omega arith)
    one false true h = omega arith
    one false false h = omega arith

opposite-below : (γ v : ℕ) → γ ≤ v → v < greatest → opposite v < opposite_test γ
opposite-below γ v h k = omega arith

-- MTD(f) makes at most one test more than there are different scores among the leaves that it evaluates
pub guess-scores : (ν : ℕ → ℕ) (g : ℕ) (t : Tree) → Scored ν t
    → length (search_by (mtd_from g) ν t).tests ≤ suc (different (map ν (search_by (mtd_from g) ν t).evaluated))
guess-scores ν g t h = at (leb (chosen_test (mtd_from g) (view ν t [] [])) (minimax ν t)) refl
  where
    at : (b : Bool) → leb (chosen_test (mtd_from g) (view ν t [] [])) (minimax ν t) ≡ b
        → length (search_by (mtd_from g) ν t).tests ≤ suc (different (map ν (search_by (mtd_from g) ν t).evaluated))
    at false e = guess-below ν g t h (leb-false _ _ e)
    at true e =
        let w = (search_by (mtd_from g) ν t).evaluated in
        let γ = chosen_test (mtd_from g) (view ν t [] []) in
        let k = leb-true γ (minimax ν t) e in
        let s = minimax-score ν t h in
        let l = low-none ν t in
        let u = ≤high ν (among []) t h in
        let m = search-mirror ν g t h in
        let c = test-opposite ν g t [] [] h (omega arith) in
        let d = minimax-mirror ν t in
        let a = guess-below (mirrored ν) (opposite_test g) (mirror t) (scored-mirror ν t h)
        (rw (c, d) (opposite-below γ (minimax ν t) k s.1)) in
        let x = rw (m.tests-are, m.leaves-are) at a in
        omega (arith, x, length-map (search_by (mtd_from g) ν t).tests opposite_test, images-few opposite ν w)
