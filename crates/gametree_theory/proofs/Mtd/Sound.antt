-- The memory of MTD is sound: what a pass finds below its test has its high there, what it finds not below has its
-- low there.
use Rattle.prelude.proofs.{ℕ, ◌≤◌, ◌<◌, le_refl, arith, ◌≡◌, refl, true, false, not, ltb, ltb-true, leb-true, leb-false}
use Rattle.prelude.proofs.{not-true, not-false}
use Rattle.gametree.specs.declared.Side.{Side}
use Rattle.gametree.specs.declared.Side.TheVariants.{Max, Min}
use Rattle.gametree.specs.{Tree, leaf, inner, Children, last, ◌then◌, least, greatest, minimax, minimax_children}
use Rattle.gametree.specs.{Scored}
use Rattle.gametree.specs.{ScoredChildren, memo_bound, memo_bound_children, Memo, MemoChildren, memo_high}
use Rattle.gametree.specs.{memo_high_children}
use Rattle.gametree.specs.{Pass, PassChildren, pass, pass_children}
use Rattle.lists.proofs.Choice.{cond_cases, true-not-false}
use Rattle.gametree_theory.proofs.Minimax.Bounds.{better-mono}

-- the low of each node, as the leaves evaluated so far give it
abbrev pub memo_low : (ℕ → ℕ) → (t : Tree) → Memo t → ℕ
memo_low ν t m = memo_bound least ν t m

abbrev memo_low_children : (ℕ → ℕ) → Side → (ks : Children) → MemoChildren ks → ℕ
memo_low_children ν s ks m = memo_bound_children least ν s ks m

mutual
  -- the low of a node is at most its minimax value
  pub memo_low-minimax : (ν : ℕ → ℕ) (t : Tree) (m : Memo t) → memo_low ν t m ≤ minimax ν t
  memo_low-minimax ν (leaf n) m =
      cond_cases (λ (x : ℕ). x ≤ (ν n)) m.evaluated (ν n) 0 (λ _. le_refl (ν n)) (λ _. omega arith)
  memo_low-minimax ν (inner n s ks) m = memo_low_children-minimax_children ν s ks m.kids

  memo_low_children-minimax_children : (ν : ℕ → ℕ) (s : Side) (ks : Children) (m : MemoChildren ks)
      → memo_low_children ν s ks m ≤ minimax_children ν s ks
  memo_low_children-minimax_children ν s (last t) m = memo_low-minimax ν t m
  memo_low_children-minimax_children ν s (t then ts) m =
      better-mono s (memo_low-minimax ν t m.first) (memo_low_children-minimax_children ν s ts m.rest)

mutual
  -- the minimax value of a node is at most its high
  pub minimax-memo_high : (ν : ℕ → ℕ) (t : Tree) (m : Memo t) → Scored ν t → minimax ν t ≤ memo_high ν t m
  minimax-memo_high ν (leaf n) m h =
      cond_cases (λ (x : ℕ). (ν n) ≤ x) m.evaluated (ν n) greatest (λ _. le_refl (ν n)) (λ _. omega arith)
  minimax-memo_high ν (inner n s ks) m h = minimax_children-memo_high_children ν s ks m.kids h

  pub minimax_children-memo_high_children : (ν : ℕ → ℕ) (s : Side) (ks : Children) (m : MemoChildren ks)
      → ScoredChildren ν ks
      → minimax_children ν s ks ≤ memo_high_children ν s ks m
  minimax_children-memo_high_children ν s (last t) m h = minimax-memo_high ν t m h
  minimax_children-memo_high_children ν s (t then ts) m h =
      better-mono s (minimax-memo_high ν t m.first h.0) (minimax_children-memo_high_children ν s ts m.rest h.1)

-- each inner node that was found not below has its low at γ or above
abbrev mutual
  pub Kept : (ν : ℕ → ℕ) → ℕ → (t : Tree) → Memo t → Type 0
  Kept ν γ (leaf n) m = Unit
  Kept ν γ (inner n s ks) m = (m.not_below ≡ true → γ ≤ memo_low_children ν s ks m.kids)
      × KeptChildren ν γ ks m.kids

  pub KeptChildren : (ν : ℕ → ℕ) → ℕ → (ks : Children) → MemoChildren ks → Type 0
  KeptChildren ν γ (last t) m = Kept ν γ t m
  KeptChildren ν γ (t then ts) m = Kept ν γ t m.first × KeptChildren ν γ ts m.rest

-- what a pass with the test γ promises of a node
pub record Sound (ν : ℕ → ℕ) (γ : ℕ) (t : Tree) (m : Memo t) (r : Pass t) : Type 0 where
  pub kept : Kept ν γ t r.next
  pub falls : memo_high ν t r.next ≤ memo_high ν t m
  pub rises : memo_low ν t m ≤ memo_low ν t r.next
  pub below : r.not_below ≡ false → memo_high ν t r.next < γ
  pub above : r.not_below ≡ true → γ ≤ memo_low ν t r.next

-- and of the children of a node
pub record SoundChildren (ν : ℕ → ℕ) (γ : ℕ) (s : Side) (ks : Children) (m : MemoChildren ks)
    (q : PassChildren ks) : Type 0 where
  pub kept : KeptChildren ν γ ks q.next
  pub falls : memo_high_children ν s ks q.next ≤ memo_high_children ν s ks m
  pub rises : memo_low_children ν s ks m ≤ memo_low_children ν s ks q.next
  pub below : q.not_below ≡ false → memo_high_children ν s ks q.next < γ
  pub above : q.not_below ≡ true → γ ≤ memo_low_children ν s ks q.next

sound-leaf : (ν : ℕ → ℕ) (γ n : ℕ) (m : Memo (leaf n)) → (ν n) < greatest → Sound ν γ (leaf n) m (pass ν γ (leaf n) m)
sound-leaf ν γ n m h =
    cond_cases (λ r. Sound ν γ (leaf n) m r) m.evaluated _ _
    (λ e. record {
      kept = tt;
      falls = le_refl _;
      rises = le_refl _;
      below = λ f. rw e (leb-false γ (ν n) f);
      above = λ f. rw e (leb-true γ (ν n) f);
    })
    (λ e. record {
      kept = tt;
      falls = rw e (omega arith);
      rises = rw e (omega arith);
      below = λ f. leb-false γ (ν n) f;
      above = λ f. leb-true γ (ν n) f;
    })

sound-inner : (ν : ℕ → ℕ) (γ n : ℕ) (s : Side) (ks : Children) (m : Memo (inner n s ks)) → Kept ν γ (inner n s ks) m
    → SoundChildren ν γ s ks m.kids (pass_children ν γ s ks m.kids)
    → Sound ν γ (inner n s ks) m (pass ν γ (inner n s ks) m)
sound-inner ν γ n s ks m k q =
    cond_cases (λ r. Sound ν γ (inner n s ks) m r) (ltb (memo_high_children ν s ks m.kids) γ) _ _
    (λ e. record {
      kept = k;
      falls = le_refl _;
      rises = le_refl _;
      below = λ _. ltb-true _ _ e;
      above = λ f. absurd (true-not-false f refl);
    })
    (λ e.
    cond_cases (λ r. Sound ν γ (inner n s ks) m r) m.not_below _ _
    (λ f. record {
      kept = k;
      falls = le_refl _;
      rises = le_refl _;
      below = λ g. absurd (true-not-false refl g);
      above = λ _. k.0 f;
    })
    (λ f. record {
      kept = (
        q.above,
        q.kept,
      );
      falls = q.falls;
      rises = q.rises;
      below = q.below;
      above = q.above;
    }))

module _ (ν : ℕ → ℕ) (γ : ℕ) (t : Tree) (ts : Children) (m : MemoChildren (t then ts))
    (k : KeptChildren ν γ (t then ts) m)
    (a : Sound ν γ t m.first (pass ν γ t m.first)) where
  sound-max : SoundChildren ν γ Max ts m.rest (pass_children ν γ Max ts m.rest)
      → SoundChildren ν γ Max (t then ts) m (pass_children ν γ Max (t then ts) m)
  sound-max b =
      cond_cases (λ q. SoundChildren ν γ Max (t then ts) m q) (pass ν γ t m.first).not_below _ _
      (λ e. record {
        kept = (a.kept, k.1);
        falls = omega arith;
        rises = omega arith;
        below = λ f. absurd (true-not-false e f);
        above = λ f. omega (arith, a.above e);
      })
      (λ e. record {
        kept = (a.kept, b.kept);
        falls = omega arith;
        rises = omega arith;
        below = λ f. omega (arith, a.below e, b.below f);
        above = λ f. omega (arith, b.above f);
      })

  sound-min : SoundChildren ν γ Min ts m.rest (pass_children ν γ Min ts m.rest)
      → SoundChildren ν γ Min (t then ts) m (pass_children ν γ Min (t then ts) m)
  sound-min b =
      cond_cases (λ q. SoundChildren ν γ Min (t then ts) m q) (not (pass ν γ t m.first).not_below) _ _
      (λ e. record {
        kept = (a.kept, k.1);
        falls = omega arith;
        rises = omega arith;
        below = λ f. omega (arith, a.below f);
        above = λ f. absurd (true-not-false f (not-true _ e));
      })
      (λ e. record {
        kept = (a.kept, b.kept);
        falls = omega arith;
        rises = omega arith;
        below = λ f. omega (arith, b.below f);
        above = λ f. omega (arith, a.above (not-false _ e), b.above f);
      })

sound-then : (ν : ℕ → ℕ) (γ : ℕ) (s : Side) (t : Tree) (ts : Children) (m : MemoChildren (t then ts))
    → KeptChildren ν γ (t then ts) m
    → Sound ν γ t m.first (pass ν γ t m.first)
    → SoundChildren ν γ s ts m.rest (pass_children ν γ s ts m.rest)
    → SoundChildren ν γ s (t then ts) m (pass_children ν γ s (t then ts) m)
sound-then ν γ Max t ts m k a b = sound-max ν γ t ts m k a b
sound-then ν γ Min t ts m k a b = sound-min ν γ t ts m k a b

mutual
  -- a pass is sound
  pub sound : (ν : ℕ → ℕ) (γ : ℕ) (t : Tree) (m : Memo t) → Scored ν t → Kept ν γ t m → Sound ν γ t m (pass ν γ t m)
  sound ν γ (leaf n) m h k = sound-leaf ν γ n m h.1
  sound ν γ (inner n s ks) m h k = sound-inner ν γ n s ks m k (sound_children ν γ s ks m.kids h k.1)

  pub sound_children : (ν : ℕ → ℕ) (γ : ℕ) (s : Side) (ks : Children) (m : MemoChildren ks) → ScoredChildren ν ks
      → KeptChildren ν γ ks m
      → SoundChildren ν γ s ks m (pass_children ν γ s ks m)
  sound_children ν γ s (last t) m h k =
      let a = sound ν γ t m h k in
      record { kept = a.kept; falls = a.falls; rises = a.rises; below = a.below; above = a.above }
  sound_children ν γ s (t then ts) m h k =
      sound-then ν γ s t ts m k (sound ν γ t m.first h.0 k.0) (sound_children ν γ s ts m.rest h.1 k.1)
