-- Scout with memory: it gives the minimax value, the bounds of its leaves meet there, and it evaluates no leaf twice;
-- but it may evaluate a leaf that alpha-beta does not.
use Rattle.prelude.proofs.{ℕ, suc, ◌≤◌, arith, ◌≡◌, refl, sym, ◌∙◌, ap, Bool, true, false, cond, List, [], ◌∷◌, ◌++◌}
use Rattle.prelude.proofs.{append-nil, append_assoc, leb, eqb, eqb-true, leb-true, leb-false, not-true, not-false}
use Rattle.prelude.proofs.{eq-eqb}
use Rattle.lists.specs.{among}
use Rattle.gametree.specs.declared.Side.{Side}
use Rattle.gametree.specs.declared.Side.TheVariants.{Max, Min}
use Rattle.gametree.specs.{Tree, leaf, inner, Children, last, ◌then◌, better, minimax, minimax_children, Scored}
use Rattle.gametree.specs.{ScoredChildren, least, greatest, low, high, Decided, SearchResult, full_window, settles}
use Rattle.gametree.specs.{Tested, test, Case, valuation, evaluated_with}
use Rattle.gametree_family.specs.{scouted, better_test, probed, scout, scout_children, probe_children}
use Rattle.lists.proofs.Choice.{cond_cases, true-not-false}
use Rattle.lists.proofs.Lists.{all_among, among-left, among-right}
use Rattle.gametree_theory.proofs.Minimax.Bounds.{low≤, ≤high}
use Rattle.gametree_theory.proofs.Tests.Answer.{test-answer}
use Rattle.gametree_theory.proofs.Minimax.Closer.{low-rises, high-falls}
use Rattle.gametree_theory.proofs.Tests.Progress.{Confirms, test-confirmed}
use Rattle.gametree_theory.proofs.Tests.Leaves.{New, new_none, new-append, test-once}

-- THE VALUE

-- a child of the value m settles the test exactly if it improves the best so far
improved : (s : Side) (v m : ℕ) → settles s (leb (better_test s v) m) ≡ true → m ≡ better s v m
improved Max v m e = let k = leb-true (suc v) m e in omega arith
improved Min v m e = let k = leb-false v m (not-true _ e) in omega arith

unimproved : (s : Side) (v m : ℕ) → settles s (leb (better_test s v) m) ≡ false → v ≡ better s v m
unimproved Max v m e = let k = leb-false (suc v) m e in omega arith
unimproved Min v m e = let k = leb-true v m (not-false _ e) in omega arith

better-assoc : (s : Side) (a b c : ℕ) → better s (better s a b) c ≡ better s a (better s b c)
better-assoc Max a b c = omega arith
better-assoc Min a b c = omega arith

probed-value : (ν : ℕ → ℕ) (w : List ℕ) (s : Side) (v : ℕ) (t : Tree) (q : SearchResult) → Scored ν t
    → q.value ≡ minimax ν t
    → (probed s v (test ν (better_test s v) w t) q).value ≡ better s v (minimax ν t)
probed-value ν w s v t q h e =
    let γ = better_test s v in
    let m = minimax ν t in
    cond_cases (λ (x : SearchResult). x.value ≡ better s v m) (settles s (test ν γ w t).not_below) _ _
    (λ k. e ∙ improved s v m (rw (test-answer ν γ w t h) at k))
    (λ k. unimproved s v m (rw (test-answer ν γ w t h) at k))

-- bounds that have met are the value
met-value : (ν : ℕ → ℕ) (w : List ℕ) (t : Tree) (q : SearchResult) → Scored ν t → q.value ≡ minimax ν t
    → (cond (eqb (low ν (among w) t) (high ν (among w) t)) (scouted (low ν (among w) t) []) q).value ≡ minimax ν t
met-value ν w t q h e =
    cond_cases (λ (x : SearchResult). x.value ≡ minimax ν t) (eqb (low ν (among w) t) (high ν (among w) t)) _ _
    (λ k.
    let i = eqb-true (low ν (among w) t) (high ν (among w) t) k in
    omega (arith, low≤ ν (among w) t, ≤high ν (among w) t h))
    (λ _. e)

mutual
  -- Scout gives the minimax value, whatever leaves were evaluated before
  pub scout-value : (ν : ℕ → ℕ) (w : List ℕ) (t : Tree) → Scored ν t → (scout ν w t).value ≡ minimax ν t
  scout-value ν w (leaf n) h = met-value ν w (leaf n) (scouted (ν n) (n ∷ [])) h refl
  scout-value ν w (inner n s ks) h =
      met-value ν w (inner n s ks) (scout_children ν w s ks) h (scout_children-value ν w s ks h)

  scout_children-value : (ν : ℕ → ℕ) (w : List ℕ) (s : Side) (ks : Children) → ScoredChildren ν ks
      → (scout_children ν w s ks).value ≡ minimax_children ν s ks
  scout_children-value ν w s (last t) h = scout-value ν w t h
  scout_children-value ν w s (t then ts) h =
      let r = scout ν w t in
      probe_children-value ν (w ++ r.evaluated) s r.value ts h.1
      ∙ ap (λ v. better s v (minimax_children ν s ts)) (scout-value ν w t h.0)

  probe_children-value : (ν : ℕ → ℕ) (w : List ℕ) (s : Side) (v : ℕ) (ks : Children) → ScoredChildren ν ks
      → (probe_children ν w s v ks).value ≡ better s v (minimax_children ν s ks)
  probe_children-value ν w s v (last t) h =
      let p = test ν (better_test s v) w t in
      probed-value ν w s v t (scout ν (w ++ p.evaluated) t) h (scout-value ν (w ++ p.evaluated) t h)
  probe_children-value ν w s v (t then ts) h =
      let p = test ν (better_test s v) w t in
      let q = scout ν (w ++ p.evaluated) t in
      let r = probed s v p q in
      probe_children-value ν (w ++ r.evaluated) s r.value ts h.1
      ∙ ap (λ x. better s x (minimax_children ν s ts))
      (probed-value ν w s v t q h.0 (scout-value ν (w ++ p.evaluated) t h.0))
      ∙ better-assoc s v (minimax ν t) (minimax_children ν s ts)

-- ITS BOUNDS

-- beside a score v of its parent's the bounds l and h of a node are as good as its value m
record Pinned (s : Side) (v m l h : ℕ) : Type 0 where
  low-is : better s v l ≡ better s v m
  high_is : better s v h ≡ better s v m

pinned-exact : (s : Side) (v m l h : ℕ) → l ≡ m → h ≡ m → Pinned s v m l h
pinned-exact s v m l h e f = record { low-is = ap (better s v) e; high_is = ap (better s v) f }

-- so they are where the test shows that the node is not better than v
pinned-worse : (s : Side) (v m l h : ℕ) (b : Bool) → l ≤ m → m ≤ h → settles s b ≡ false
    → Confirms (better_test s v) b l h
    → Pinned s v m l h
pinned-worse Max v m l h true i j e c = absurd (true-not-false refl e)
pinned-worse Max v m l h false i j e c = record { low-is = omega arith; high_is = omega arith }
pinned-worse Min v m l h true i j e c = record { low-is = omega arith; high_is = omega arith }
pinned-worse Min v m l h false i j e c = absurd (true-not-false refl e)

-- closer bounds are, too
pinned-more : (s : Side) (v m l h l' h' : ℕ) → l ≤ l' → l' ≤ m → m ≤ h' → h' ≤ h → Pinned s v m l h
    → Pinned s v m l' h'
pinned-more Max v m l h l' h' a b c d p =
    record { low-is = omega (arith, p.low-is); high_is = omega (arith, p.high_is) }
pinned-more Min v m l h l' h' a b c d p =
    record { low-is = omega (arith, p.low-is); high_is = omega (arith, p.high_is) }

-- a first child beside v and its siblings beside the better of v and it
pinned-then : (s : Side) (v x m l h M L H : ℕ) → x ≡ better s v m → Pinned s v m l h → Pinned s x M L H
    → Pinned s v (better s m M) (better s l L) (better s h H)
pinned-then s v x m l h M L H e p q =
    let f = ap (λ y. better s y M) e ∙ better-assoc s v m M in
    record {
      low-is =
          sym (better-assoc s v l L) ∙ ap (λ y. better s y L) (p.low-is ∙ sym e) ∙ q.low-is ∙ f;
      high_is =
          sym (better-assoc s v h H) ∙ ap (λ y. better s y H) (p.high_is ∙ sym e) ∙ q.high_is ∙ f;
    }

module _ (ν : ℕ → ℕ) where
  abbrev PinnedBy : List ℕ → Side → ℕ → Tree → Type 0
  PinnedBy w s v t = Pinned s v (minimax ν t) (low ν (among w) t) (high ν (among w) t)

  by-more : (w u : List ℕ) (s : Side) (v : ℕ) (t : Tree) → Scored ν t → PinnedBy w s v t → PinnedBy (w ++ u) s v t
  by-more w u s v t h p =
      pinned-more s v _ _ _ _ _ (low-rises ν _ _ (among-left w u) t) (low≤ ν (among (w ++ u)) t)
      (≤high ν (among (w ++ u)) t h) (high-falls ν _ _ (among-left w u) t h) p

  decided-more : (w u : List ℕ) (t : Tree) → Scored ν t → Decided ν (among w) t → Decided ν (among (w ++ u)) t
  decided-more w u t h d =
      let a = low-rises ν (among w) (among (w ++ u)) (among-left w u) t in
      let b = low≤ ν (among (w ++ u)) t in
      let e = ≤high ν (among (w ++ u)) t h in
      let f = high-falls ν (among w) (among (w ++ u)) (among-left w u) t h in
      record { low_is = omega (arith, d.low_is); high_is = omega (arith, d.high_is) }

  by-probe : (w : List ℕ) (s : Side) (v : ℕ) (t : Tree) (q : SearchResult) → Scored ν t
      → Decided ν (among ((w ++ (test ν (better_test s v) w t).evaluated) ++ q.evaluated)) t
      → PinnedBy (w ++ (probed s v (test ν (better_test s v) w t) q).evaluated) s v t
  by-probe w s v t q h d =
      let p = test ν (better_test s v) w t in
      cond_cases (λ (x : SearchResult). PinnedBy (w ++ x.evaluated) s v t) (settles s p.not_below) _ _
      (λ _. rw (← append_assoc w p.evaluated q.evaluated) (pinned-exact s v _ _ _ d.low_is d.high_is))
      (λ e. pinned-worse s v _ _ _ p.not_below (low≤ ν (among (w ++ p.evaluated)) t)
      (≤high ν (among (w ++ p.evaluated)) t h) e (test-confirmed ν (better_test s v) w t h))

  -- where the bounds have met they are decided, else what is found decides them
  met-decides : (w : List ℕ) (t : Tree) (q : SearchResult) → Scored ν t → Decided ν (among (w ++ q.evaluated)) t
      → Decided ν
      (among (w ++ (cond (eqb (low ν (among w) t) (high ν (among w) t)) (scouted (low ν (among w) t) []) q).evaluated))
      t
  met-decides w t q h d =
      cond_cases (λ (x : SearchResult). Decided ν (among (w ++ x.evaluated)) t)
      (eqb (low ν (among w) t) (high ν (among w) t))
      _ _
      (λ k.
      let i = eqb-true (low ν (among w) t) (high ν (among w) t) k in
      let a = low≤ ν (among w) t in
      let b = ≤high ν (among w) t h in
      rw append-nil (record { low_is = omega arith; high_is = omega arith }))
      (λ _. d)

  mutual
    -- the bounds of the leaves that Scout evaluates, with those before, meet at the minimax value
    pub scout-decides : (w : List ℕ) (t : Tree) → Scored ν t → Decided ν (among (w ++ (scout ν w t).evaluated)) t
    scout-decides w (leaf n) h =
        let e = among-right w (n ∷ []) n (all_among (n ∷ [])).0 in
        met-decides w (leaf n) (scouted (ν n) (n ∷ [])) h (record { low_is = rw e refl; high_is = rw e refl })
    scout-decides w (inner n s ks) h =
        met-decides w (inner n s ks) (scout_children ν w s ks) h (scout_children-decides w n s ks h)

    scout_children-decides : (w : List ℕ) (n : ℕ) (s : Side) (ks : Children) → ScoredChildren ν ks
        → Decided ν (among (w ++ (scout_children ν w s ks).evaluated)) (inner n s ks)
    scout_children-decides w n s (last t) h =
        let d = scout-decides w t h in
        record { low_is = d.low_is; high_is = d.high_is }
    scout_children-decides w n s (t then ts) h =
        let r = scout ν w t in
        let v = w ++ r.evaluated in
        let u = (probe_children ν v s r.value ts).evaluated in
        let d = decided-more v u t h.0 (scout-decides w t h.0) in
        let p = probe_children-pinned v s r.value ts h.1 in
        let e = scout-value ν w t h.0 in
        let f = ap (λ y. better s y (minimax_children ν s ts)) e in
        let l = ap (λ y. better s y (low ν (among (v ++ u)) (inner 0 s ts))) (d.low_is ∙ sym e) in
        let k = ap (λ y. better s y (high ν (among (v ++ u)) (inner 0 s ts))) (d.high_is ∙ sym e) in
        rw (← append_assoc w r.evaluated u) (record { low_is = l ∙ p.low-is ∙ f; high_is = k ∙ p.high_is ∙ f })

    probe_children-pinned : (w : List ℕ) (s : Side) (v : ℕ) (ks : Children) → ScoredChildren ν ks
        → PinnedBy (w ++ (probe_children ν w s v ks).evaluated) s v (inner 0 s ks)
    probe_children-pinned w s v (last t) h =
        let p = test ν (better_test s v) w t in
        by-probe w s v t _ h (scout-decides (w ++ p.evaluated) t h)
    probe_children-pinned w s v (t then ts) h =
        let p = test ν (better_test s v) w t in
        let q = scout ν (w ++ p.evaluated) t in
        let r = probed s v p q in
        let x = w ++ r.evaluated in
        let u = (probe_children ν x s r.value ts).evaluated in
        rw (← append_assoc w r.evaluated u)
        (pinned-then s v r.value (minimax ν t) _ _ (minimax_children ν s ts) _ _
        (probed-value ν w s v t q h.0 (scout-value ν (w ++ p.evaluated) t h.0))
        (by-more x u s v t h.0 (by-probe w s v t q h.0 (scout-decides (w ++ p.evaluated) t h.0)))
        (probe_children-pinned x s r.value ts h.1))

-- ITS LEAVES

probed-once : (s : Side) (v : ℕ) (w : List ℕ) (p : Tested) (q : SearchResult) → New w p.evaluated
    → New (w ++ p.evaluated) q.evaluated
    → New w (probed s v p q).evaluated
probed-once s v w p q a b =
    cond_cases (λ (x : SearchResult). New w x.evaluated) (settles s p.not_below) _ _
    (λ _. new-append w p.evaluated q.evaluated a b)
    (λ _. a)

-- a leaf that was evaluated has met its bounds
leaf-once : (w : List ℕ) (n v : ℕ) (b : Bool) → among w n ≡ b
    → New w (cond (eqb (cond b v least) (cond b v greatest)) (scouted (cond b v least) []) (scouted v (n ∷ []))
    ).evaluated
leaf-once w n v true e = rw (eq-eqb v v refl) (new_none w)
leaf-once w n v false e = record { new = (e, tt); once = (tt, tt) }

mutual
  -- Scout evaluates no leaf that was evaluated before, and none twice
  pub scout-once : (ν : ℕ → ℕ) (w : List ℕ) (t : Tree) → New w (scout ν w t).evaluated
  scout-once ν w (leaf n) = leaf-once w n (ν n) (among w n) refl
  scout-once ν w (inner n s ks) =
      cond_cases (λ (x : SearchResult). New w x.evaluated)
      (eqb (low ν (among w) (inner n s ks)) (high ν (among w) (inner n s ks))) _ _
      (λ _. new_none w) (λ _. scout_children-once ν w s ks)

  scout_children-once : (ν : ℕ → ℕ) (w : List ℕ) (s : Side) (ks : Children) → New w (scout_children ν w s ks).evaluated
  scout_children-once ν w s (last t) = scout-once ν w t
  scout_children-once ν w s (t then ts) =
      let r = scout ν w t in
      new-append w r.evaluated _ (scout-once ν w t) (probe_children-once ν (w ++ r.evaluated) s r.value ts)

  probe_children-once : (ν : ℕ → ℕ) (w : List ℕ) (s : Side) (v : ℕ) (ks : Children)
      → New w (probe_children ν w s v ks).evaluated
  probe_children-once ν w s v (last t) =
      let p = test ν (better_test s v) w t in
      probed-once s v w p _ (test-once ν (better_test s v) w t) (scout-once ν (w ++ p.evaluated) t)
  probe_children-once ν w s v (t then ts) =
      let p = test ν (better_test s v) w t in
      let r = probed s v p (scout ν (w ++ p.evaluated) t) in
      new-append w r.evaluated _
      (probed-once s v w p _ (test-once ν (better_test s v) w t) (scout-once ν (w ++ p.evaluated) t))
      (probe_children-once ν (w ++ r.evaluated) s r.value ts)

-- A CASE

-- Max(2, Max(Min(1, 1), Max(3, 1)))
abbrev improved_late : Case
improved_late =
    evaluated_with
    (inner 0 Max
    (leaf 1 then last (inner 2 Max
    (inner 3 Min (leaf 5 then last (leaf 6)) then last (inner 4 Max (leaf 7 then last (leaf 8)))))))
    (0 ∷ 2 ∷ 0 ∷ 0 ∷ 0 ∷ 1 ∷ 1 ∷ 3 ∷ 1 ∷ [])

-- node 2 is better than the first child, so its value is found, and for that the value of node 3, where alpha-beta
-- knows after one leaf that it is too low
pub scout-more : ((scout (valuation improved_late) [] improved_late.tree).evaluated ≡ 1 ∷ 5 ∷ 7 ∷ 6 ∷ 8 ∷ [])
    × ((full_window (valuation improved_late) improved_late.tree).evaluated ≡ 1 ∷ 5 ∷ 7 ∷ 8 ∷ [])
scout-more = (refl, refl)
