-- MTD's memory in two lists (Mtd), and at each node of the tree (engine/Memo). On a tree with distinct numbers to try a
-- node in the one is to pass it in the other, and so both runs are the same.
use Rattle.prelude.proofs.{ℕ, zero, suc, ◌+◌, arith, ◌≡◌, refl, sym, ◌∙◌, ap, ap₂, subst, inl, inr, Bool, true, false}
use Rattle.prelude.proofs.{cond, ◌||◌, or-false, List, [], ◌∷◌, ◌++◌, append_assoc, append-nil, ltb, ne_eqb}
use Rattle.lists.specs.{among}
use Rattle.gametree.specs.declared.Side.{Side}
use Rattle.gametree.specs.{Tree, leaf, inner, Children, last, ◌then◌, greatest, In, InChildren, Distinct}
use Rattle.gametree.specs.{DistinctChildren, high, MtdMemory, with_node, Trial, trial, settles, try_node, try_children}
use Rattle.gametree.specs.{MtdRun, passes_from, mtd, Memo, MemoChildren, memo_high, Pass, PassChildren, stay, entered}
use Rattle.gametree.specs.{pass, pass_children, MemoRun, run, fresh, memo_mtd, without_memo, read_memo}
use Rattle.gametree.specs.{read_memo_children}
use Rattle.gametree.specs.{Remembered}
use Rattle.lists.proofs.Lists.{all_among, among-append, among-right, among-out}
use Rattle.gametree_theory.proofs.Mtd.MemoArrays.{read_memo_children-same, read-fresh, read-high, read-high-kids}
use Rattle.gametree_theory.proofs.Mtd.MemoArrays.{rest-same, visit-ended, visit-joined}

-- what two lists remember of a tree, and of children
abbrev memo_of : MtdMemory → (t : Tree) → Memo t
memo_of m t = read_memo (among m.evaluated) (among m.not_below) t

abbrev memo_of_children : MtdMemory → (ks : Children) → MemoChildren ks
memo_of_children m ks = read_memo_children (among m.evaluated) (among m.not_below) ks

-- both memories are the same of node k
abbrev SameAt : MtdMemory → MtdMemory → ℕ → Type 0
SameAt a b k = (among a.evaluated k ≡ among b.evaluated k) × (among a.not_below k ≡ among b.not_below k)

-- what trying a tree from the memory m gives is what the pass p gives, and nothing changes outside the tree
record Matches (t : Tree) (m : MtdMemory) (r : Trial) (p : Pass t) : Type 0 where
  answer : r.not_below ≡ p.not_below
  leaves : r.memory.evaluated ≡ m.evaluated ++ p.evaluated
  got : memo_of r.memory t ≡ p.next
  elsewhere : (k : ℕ) → (In k t → ⊥) → SameAt r.memory m k

record MatchesChildren (ks : Children) (m : MtdMemory) (r : Trial) (q : PassChildren ks) : Type 0 where
  answer : r.not_below ≡ q.not_below
  leaves : r.memory.evaluated ≡ m.evaluated ++ q.evaluated
  got : memo_of_children r.memory ks ≡ q.next
  elsewhere : (k : ℕ) → (InChildren k ks → ⊥) → SameAt r.memory m k

-- a node that is not entered
matches-stay : (t : Tree) (m : MtdMemory) (b : Bool) → Matches t m (trial b m) (stay t (memo_of m t) b)
matches-stay t m b =
    record { answer = refl; leaves = sym (append-nil m.evaluated); got = refl; elsewhere = λ k o. (refl, refl) }

-- a leaf
matches-leaf : (ν : ℕ → ℕ) (γ : ℕ) (m : MtdMemory) (n : ℕ)
    → Matches (leaf n) m (try_node ν γ m (leaf n)) (pass ν γ (leaf n) (memo_of m (leaf n)))
matches-leaf ν γ m n = by (among m.evaluated n) refl
  where
    by : (b : Bool) → among m.evaluated n ≡ b
        → Matches (leaf n) m (try_node ν γ m (leaf n)) (pass ν γ (leaf n) (memo_of m (leaf n)))
    by true e =
        rw e (record {
          answer = refl;
          leaves = sym (append-nil m.evaluated);
          got = ap {B = Memo (leaf n)} (λ x. record { evaluated = x }) e;
          elsewhere = λ k o. (refl, refl);
        })
    by false e =
        rw e (record {
          answer = refl;
          leaves = refl;
          got =
              ap {B = Memo (leaf n)} (λ x. record { evaluated = x })
              (among-right m.evaluated (n ∷ []) n (all_among (n ∷ [])).0);
          elsewhere = λ k o. (
            among-append m.evaluated (n ∷ []) k
                ∙ ap (◌||◌ (among m.evaluated k)) (among-out (n ∷ []) k ((λ z. o (sym z)), tt))
                ∙ or-false (among m.evaluated k),
            refl,
          );
        })

-- an inner node, its children tried with the result r
module _ (n : ℕ) (s : Side) (ks : Children) (o : InChildren n ks → ⊥) (m : MtdMemory) (r : Trial) (q : PassChildren ks)
    (a : MatchesChildren ks m r q) where
  -- its own number on the list says nothing of another node
  other-node : (k : ℕ) → (k ≡ n → ⊥) → among (n ∷ r.memory.not_below) k ≡ among r.memory.not_below k
  other-node k u = ap (λ b. b || among r.memory.not_below k) (ne_eqb k n u)

  below-children : (k : ℕ) → InChildren k ks → k ≡ n → ⊥
  below-children k i e = o (subst (λ x. InChildren x ks) e i)

  -- it is entered, and was not found before
  matches-entered : among m.not_below n ≡ false
      → Matches (inner n s ks) m
      (trial r.not_below (cond r.not_below (with_node n r.memory) r.memory)) (entered n s ks q)
  matches-entered h = by r.not_below refl
    where
      by : (b : Bool) → r.not_below ≡ b
          → Matches (inner n s ks) m (trial b (cond b (with_node n r.memory) r.memory)) (entered n s ks q)
      by true e =
          let found = (all_among (n ∷ r.memory.not_below)).0 in
          let w = among r.memory.evaluated in
          let same = read_memo_children-same w (among (n ∷ r.memory.not_below)) w (among r.memory.not_below) ks
          (λ k i. (refl, other-node k (below-children k i))) in
          record {
            answer = sym e ∙ a.answer;
            leaves = a.leaves;
            got =
                ap₂ {C = Memo (inner n s ks)} (λ x y. record { not_below = x; kids = y })
                (found ∙ sym e ∙ a.answer) (same ∙ a.got);
            elsewhere = λ k u. (
              (a.elsewhere k (λ i. u (inr i))).0,
              other-node k (λ z. u (inl z)) ∙ (a.elsewhere k (λ i. u (inr i))).1,
            );
          }
      by false e =
          record {
            answer = sym e ∙ a.answer;
            leaves = a.leaves;
            got =
                ap₂ {C = Memo (inner n s ks)} (λ x y. record { not_below = x; kids = y })
                ((a.elsewhere n o).1 ∙ h ∙ sym e ∙ a.answer) a.got;
            elsewhere = λ k u. a.elsewhere k (λ i. u (inr i));
          }

  -- it is below by its high (b), found before (c), or entered
  matches-inner : (b c : Bool) → among m.not_below n ≡ c
      → Matches (inner n s ks) m
      (cond b (trial false m) (cond c (trial true m)
      (trial r.not_below (cond r.not_below (with_node n r.memory) r.memory))))
      (cond b (stay (inner n s ks) (memo_of m (inner n s ks)) false)
      (cond c (stay (inner n s ks) (memo_of m (inner n s ks)) true) (entered n s ks q)))
  matches-inner true c e = matches-stay (inner n s ks) m false
  matches-inner false true e = matches-stay (inner n s ks) m true
  matches-inner false false e = matches-entered e

-- the first child of a node, tried with the result r
module _ (ν : ℕ → ℕ) (γ : ℕ) (s : Side) (t : Tree) (ts : Children) (d : (p : ℕ) → In p t → InChildren p ts → ⊥)
    (m : MtdMemory) (r : Trial) (a : Matches t m r (pass ν γ t (memo_of m t))) where
  first-remembered : Remembered ν γ t (among m.evaluated) (among m.not_below) (among r.memory.evaluated)
      (among r.memory.not_below)
  first-remembered = record { got = a.got; elsewhere = a.elsewhere }

  others_same : memo_of_children r.memory ts ≡ memo_of_children m ts
  others_same = rest-same ν γ s t ts d _ _ _ _ first-remembered

  -- it settles its parent
  matches-ended : settles s (pass ν γ t (memo_of m t)).not_below ≡ true
      → MatchesChildren (t then ts) m r (pass_children ν γ s (t then ts) (memo_of_children m (t then ts)))
  matches-ended e =
      let k = visit-ended ν γ s t ts d _ _ _ _ first-remembered e in
      record { answer = rw e a.answer; leaves = rw e a.leaves; got = k.got; elsewhere = k.elsewhere }

  -- it does not, and its siblings are tried
  matches-joined : settles s (pass ν γ t (memo_of m t)).not_below ≡ false → (x : Trial)
      → MatchesChildren ts r.memory x (pass_children ν γ s ts (memo_of_children r.memory ts))
      → MatchesChildren (t then ts) m x (pass_children ν γ s (t then ts) (memo_of_children m (t then ts)))
  matches-joined e x b =
      let k = visit-joined ν γ s t ts d _ _ _ _ first-remembered _ _ e
      (record { got = b.got; elsewhere = b.elsewhere }) in
      record {
        answer = rw e (b.answer ∙ ap (λ y. (pass_children ν γ s ts y).not_below) others_same);
        leaves =
            rw e (b.leaves
            ∙ ap₂ ◌++◌ a.leaves (ap (λ y. (pass_children ν γ s ts y).evaluated) others_same)
            ∙ append_assoc m.evaluated _ _);
        got = k.got;
        elsewhere = k.elsewhere;
      }

  -- its siblings are tried if it does not settle its parent
  matches-then : (x : Trial)
      → MatchesChildren ts r.memory x (pass_children ν γ s ts (memo_of_children r.memory ts))
      → MatchesChildren (t then ts) m (cond (settles s r.not_below) r x)
      (pass_children ν γ s (t then ts) (memo_of_children m (t then ts)))
  matches-then x b = by (settles s r.not_below) refl
    where
      by : (c : Bool) → settles s r.not_below ≡ c
          → MatchesChildren (t then ts) m (cond c r x) (pass_children ν γ s (t then ts)
          (memo_of_children m (t then ts)))
      by true e = matches-ended (ap (settles s) (sym a.answer) ∙ e)
      by false e = matches-joined (ap (settles s) (sym a.answer) ∙ e) x b

mutual
  -- to try a node is to pass it
  matches : (ν : ℕ → ℕ) (γ : ℕ) (m : MtdMemory) (t : Tree) → Distinct t
      → Matches t m (try_node ν γ m t) (pass ν γ t (memo_of m t))
  matches ν γ m (leaf n) d = matches-leaf ν γ m n
  matches ν γ m (inner n s ks) d =
      let a = matches_children ν γ m s ks d.1 in
      rw (read-high-kids ν (among m.evaluated) (among m.not_below) s ks)
      (matches-inner n s ks d.0 m (try_children ν γ m s ks) (pass_children ν γ s ks (memo_of_children m ks)) a
      (ltb (high ν (among m.evaluated) (inner n s ks)) γ) (among m.not_below n) refl)

  matches_children : (ν : ℕ → ℕ) (γ : ℕ) (m : MtdMemory) (s : Side) (ks : Children) → DistinctChildren ks
      → MatchesChildren ks m (try_children ν γ m s ks) (pass_children ν γ s ks (memo_of_children m ks))
  matches_children ν γ m s (last t) d =
      let a = matches ν γ m t d in
      record { answer = a.answer; leaves = a.leaves; got = a.got; elsewhere = a.elsewhere }
  matches_children ν γ m s (t then ts) d =
      matches-then ν γ s t ts d.2 m (try_node ν γ m t) (matches ν γ m t d.0) _
      (matches_children ν γ (try_node ν γ m t).memory s ts d.1)

-- a run after the leaves w and k passes gives what the run r gives
record Follows (t : Tree) (w : List ℕ) (k : ℕ) (q : MtdRun) (r : MemoRun t) : Type 0 where
  value : q.value ≡ r.value
  evaluated : q.evaluated ≡ w ++ r.evaluated
  passes : q.passes ≡ k + r.passes

-- the root is tried with the result r, and q is the run of the later passes
module _ (ν : ℕ → ℕ) (f k γ : ℕ) (m : MtdMemory) (t : Tree) (r : Trial)
    (a : Matches t m r (pass ν γ t (memo_of m t))) (q : MtdRun)
    (b : Follows t r.memory.evaluated (suc k) q
    (run ν f (high ν (among r.memory.evaluated) t) t (memo_of r.memory t))) where
  -- the pass's memory gives the next test, and the later passes go on from it
  later_same : let n = (pass ν γ t (memo_of m t)).next in
      run ν f (high ν (among r.memory.evaluated) t) t (memo_of r.memory t) ≡ run ν f (memo_high ν t n) t n
  later_same =
      ap₂ (λ x y. run ν f x t y)
      (sym (read-high ν (among r.memory.evaluated) (among r.memory.not_below) t) ∙ ap (memo_high ν t) a.got)
      a.got

  follows-pass : (c : Bool) → r.not_below ≡ c
      → Follows t m.evaluated k
      (cond c (record { value = γ; evaluated = r.memory.evaluated; passes = suc k }) q)
      (run ν (suc f) γ t (memo_of m t))
  follows-pass true e =
      rw (sym a.answer ∙ e) (record { value = refl; evaluated = a.leaves; passes = omega arith })
  follows-pass false e =
      rw (sym a.answer ∙ e) (record {
        value = b.value ∙ ap (λ x. x.value) later_same;
        evaluated =
            b.evaluated ∙ ap₂ ◌++◌ a.leaves (ap (λ x. x.evaluated) later_same) ∙ append_assoc m.evaluated _ _;
        passes = omega (arith, b.passes, ap (λ x. x.passes) later_same);
      })

follows : (ν : ℕ → ℕ) (f k γ : ℕ) (m : MtdMemory) (t : Tree) → Distinct t
    → Follows t m.evaluated k (passes_from ν f k γ m t) (run ν f γ t (memo_of m t))
follows ν zero k γ m t d = record { value = refl; evaluated = sym (append-nil m.evaluated); passes = omega arith }
follows ν (suc f) k γ m t d =
    let r = try_node ν γ m t in
    follows-pass ν f k γ m t r (matches ν γ m t d) _ (follows ν f (suc k) _ r.memory t d) r.not_below refl

-- two runs are the same if their parts are
run-path : {a b i j : ℕ} {v w : List ℕ} → a ≡ b → v ≡ w → i ≡ j
    → ◌≡◌ {A = MtdRun} (record { value = a; evaluated = v; passes = i })
    (record { value = b; evaluated = w; passes = j })
run-path x y z = cc

-- nothing remembered
abbrev nothing : MtdMemory
nothing = record { evaluated = []; not_below = [] }

memo-from : (ν : ℕ → ℕ) (f γ : ℕ) (t : Tree) → Distinct t
    → passes_from ν f 0 γ nothing t ≡ without_memo t (run ν f γ t (fresh t))
memo-from ν f γ t d =
    let a = follows ν f 0 γ nothing t d in
    let same = read-fresh (among []) (among []) t (λ p i. (refl, refl)) in
    run-path a.value a.evaluated (omega (arith, a.passes)) ∙ ap (λ x. without_memo t (run ν f γ t x)) same

-- MTD gives the same with both memories
pub memo-run : (ν : ℕ → ℕ) (t : Tree) → Distinct t → mtd ν t ≡ without_memo t (memo_mtd ν t)
unfolding mtd memo_mtd
memo-run ν t d = memo-from ν (suc greatest) greatest t d
