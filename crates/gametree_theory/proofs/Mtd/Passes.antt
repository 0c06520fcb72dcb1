-- MTD makes at most one pass more than there are different scores among the evaluated leaves.
use Rattle.prelude.proofs.{ℕ, zero, suc, ◌+◌, ◌≤◌, ◌<◌, min, max, suc-le-suc, eq-or-lt_of_le, le_refl, le_trans, arith}
use Rattle.prelude.proofs.{◌≡◌, refl, sym, ap, subst, ⊎_elim, Bool, true, false, cond, ◌||◌, List, [], ◌∷◌, ◌++◌, map}
use Rattle.prelude.proofs.{append_assoc, leb, eqb, leb-true, leb-false, eqb-true, eq-eqb, ne_eqb}
use Rattle.lists.specs.{among, different}
use Rattle.gametree.specs.declared.Side.{Side}
use Rattle.gametree.specs.declared.Side.TheVariants.{Max, Min}
use Rattle.gametree.specs.{Tree, leaf, inner, Children, last, ◌then◌, greatest, better, minimax_children, Proper, known}
use Rattle.gametree.specs.{high, Memo, memo_high, pass, MemoRun, run, fresh, memo_mtd}
use Rattle.gametree_theory.proofs.Mtd.Marks.{Marks}
use Rattle.lists.proofs.Choice.{cond_cases, or_left, or_right, or_cases}
use Rattle.lists.proofs.Lists.{among-left}
use Rattle.gametree_theory.proofs.Mtd.Sound.{Kept, sound}
use Rattle.gametree_theory.proofs.Mtd.Value.{kept-lower, fresh_kept}
use Rattle.gametree_theory.proofs.Mtd.Marks.{pass-marks, fresh-marks, memo_bound-is}

-- how many numbers below b pass the test
pub how-many : (ℕ → Bool) → ℕ → ℕ
how-many g zero = 0
how-many g (suc b) = cond (g b) 1 0 + how-many g b

pub more-there : (g : ℕ → Bool) (a b : ℕ) → a < b → g a ≡ true → suc (how-many g a) ≤ how-many g b
unfolding how-many
more-there g a zero h e = absurd (omega (arith, h))
more-there g a (suc b) h e =
    ⊎_elim
    (λ q. let f : g b ≡ true = subst (λ x. g x ≡ true) q e in
    let z : how-many g a ≡ how-many g b = ap (λ x. how-many g x) q in
    rw f (omega arith))
    (λ l. omega (arith, more-there g a b l e)) (eq-or-lt_of_le {n = a} {m = b} (omega arith))

-- one number more
none_more : (g : ℕ → Bool) (x b : ℕ) → b ≤ x → how-many (λ v. eqb v x || g v) b ≡ how-many g b
unfolding how-many
none_more g x zero h = refl
none_more g x (suc b) h = rw (ne_eqb b x (λ e. omega (arith, e)), none_more g x b (omega arith)) refl

more-split : (c d : Bool) (H : ℕ) → c ≡ d → 1 + H ≤ cond c 0 1 + (cond d 1 0 + H)
more-split true d H e = rw (← e) (omega arith)
more-split false d H e = rw (← e) (omega arith)

one_more : (g : ℕ → Bool) (x b : ℕ) → how-many (λ v. eqb v x || g v) b ≤ cond (g x) 0 1 + how-many g b
unfolding how-many
one_more g x zero = omega arith
one_more g x (suc b) = here (one_more g x b) (eqb b x) refl
  where
    here : how-many (λ v. eqb v x || g v) b ≤ cond (g x) 0 1 + how-many g b → (c : Bool) → eqb b x ≡ c
        → cond (c || g b) 1 0 + how-many (λ v. eqb v x || g v) b ≤ cond (g x) 0 1 + (cond (g b) 1 0 + how-many g b)
    here i true e =
        let f = eqb-true b x e in
        rw (none_more g x b (omega arith)) (more-split (g x) (g b) (how-many g b) (ap g (sym f)))
    here i false e = omega arith

-- the numbers of a list are no more than its different ones
pub how-many-different : (xs : List ℕ) (b : ℕ) → how-many (among xs) b ≤ different xs
unfolding how-many
how-many-different [] b = nothing b
  where
    nothing : (b : ℕ) → how-many (among []) b ≤ 0
    nothing zero = omega arith
    nothing (suc b) = omega (arith, nothing b)
how-many-different (x ∷ xs) b = omega (arith, one_more (among xs) x b, how-many-different xs b)

pub among-map : (ν : ℕ → ℕ) (w : List ℕ) (n : ℕ) → among w n ≡ true → among (map ν w) (ν n) ≡ true
among-map ν [] n e = e
among-map ν (x ∷ w) n e =
    ⊎_elim (λ d. or_left (eqb (ν n) (ν x)) _ (eq-eqb (ν n) (ν x) (ap ν (eqb-true n x d))))
    (λ d. or_right (eqb (ν n) (ν x)) _ (among-map ν w n d)) (or_cases (eqb n x) (among w n) e)

-- the better of two is one of them
better-one : (s : Side) (a b : ℕ) (P : ℕ → Type 0) → better s a b < greatest → (a < greatest → P a)
    → (b < greatest → P b) → P (better s a b)
better-one Max a b P h f g = pick (leb a b) refl
  where
    pick : (t : Bool) → leb a b ≡ t → P (max a b)
    pick true e = let k = leb-true a b e in let q : b ≡ max a b = omega arith in subst P q (g (omega arith))
    pick false e = let k = leb-false a b e in let q : a ≡ max a b = omega arith in subst P q (f (omega arith))
better-one Min a b P h f g = pick (leb a b) refl
  where
    pick : (t : Bool) → leb a b ≡ t → P (min a b)
    pick true e = let k = leb-true a b e in let q : a ≡ min a b = omega arith in subst P q (f (omega arith))
    pick false e = let k = leb-false a b e in let q : b ≡ min a b = omega arith in subst P q (g (omega arith))

-- a high below `greatest` is the score of an evaluated leaf
mutual
  pub high-score : (ν : ℕ → ℕ) (w : List ℕ) (t : Tree) → high ν (among w) t < greatest
      → among (map ν w) (high ν (among w) t) ≡ true
  high-score ν w (leaf n) h = at (among w n) refl h
    where
      at : (b : Bool) → among w n ≡ b → cond b (ν n) greatest < greatest
          → among (map ν w) (cond b (ν n) greatest) ≡ true
      at true e l = among-map ν w n e
      at false e l = absurd (omega arith)
  high-score ν w (inner n s ks) h = high_children-score ν w s ks h

  high_children-score : (ν : ℕ → ℕ) (w : List ℕ) (s : Side) (ks : Children)
      → minimax_children (known ν (among w) greatest) s ks < greatest
      → among (map ν w) (minimax_children (known ν (among w) greatest) s ks) ≡ true
  high_children-score ν w s (last t) h = high-score ν w t h
  high_children-score ν w s (t then ts) h =
      better-one s (high ν (among w) t) (minimax_children (known ν (among w) greatest) s ts)
      (λ v. among (map ν w) v ≡ true) h
      (λ l. high-score ν w t l) (λ l. high_children-score ν w s ts l)

map-append : (ν : ℕ → ℕ) (v w : List ℕ) → map ν (v ++ w) ≡ map ν v ++ map ν w
map-append ν [] w = refl
map-append ν (x ∷ v) w = ap (λ l. ν x ∷ l) (map-append ν v w)

-- the passes from the test γ are at most one more than the scores below γ among the leaves evaluated at the end
run-passes : (ν : ℕ → ℕ) (f γ : ℕ) (w : List ℕ) (t : Tree) (m : Memo t) → Proper ν t → Kept ν γ t m → Marks w t m
    → γ ≤ greatest
    → (run ν f γ t m).passes ≤ suc (how-many (among (map ν (w ++ (run ν f γ t m).evaluated))) γ)
run-passes ν zero γ w t m h k a g = omega arith
run-passes ν (suc f) γ w t m h k a g =
    let r = pass ν γ t m in
    let n = r.next in
    let v = r.evaluated in
    let s = sound ν γ t m h.scored k in
    let c = (pass-marks ν γ w t m h.distinct a).marks in
    let u = (run ν f (memo_high ν t n) t n).evaluated in
    cond_cases (λ (q : MemoRun t). q.passes ≤ suc (how-many (among (map ν (w ++ q.evaluated))) γ)) r.not_below _ _
    (λ _. omega arith)
    (λ e.
    let b = s.below e in
    let i = run-passes ν f (memo_high ν t n) (w ++ v) t n h (kept-lower ν t n (omega arith) s.kept) c (omega arith) in
    let d = memo_bound-is greatest ν (w ++ v) t n c in
    let l : high ν (among (w ++ v)) t < greatest = omega arith in
    let x = rw (← d) at (high-score ν (w ++ v) t l) in
    let j = rw (← map-append ν (w ++ v) u) at (among-left (map ν (w ++ v)) (map ν u) (memo_high ν t n) x) in
    rw (← append_assoc w v u) (omega (arith, i, more-there (among (map ν ((w ++ v) ++ u))) (memo_high ν t n) γ b j)))

-- MTD makes at most one pass more than there are different scores among the leaves that it evaluates
pub passes-few : (ν : ℕ → ℕ) (t : Tree) → Proper ν t
    → (memo_mtd ν t).passes ≤ suc (different (map ν (memo_mtd ν t).evaluated))
unfolding memo_mtd
passes-few ν t h =
    le_trans
    (run-passes ν (suc greatest) greatest [] t (fresh t) h (fresh_kept ν greatest t) (fresh-marks t) (le_refl greatest))
    (suc-le-suc (how-many-different (map ν (run ν (suc greatest) greatest t (fresh t)).evaluated) greatest))
