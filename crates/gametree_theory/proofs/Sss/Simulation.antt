-- One pass of MTD with the test γ is the run of SSS* over the states of merit γ: it evaluates the same leaves in the
-- same order. The argument, for a node whose states stand on the list between L and R:
--
--   1. A state of merit γ is taken if all before it have less, none behind it has more, and all behind it are to its
--      right (Around).
--   2. A node found not below is not entered (Frontier).
--   3. The merits of a frontier are at most the node's high, so a high below γ means no step (Frontier).
--   4. Found below means: every merit of the new frontier is below γ (Frontier).
--   5. A leaf takes one step or none.
--   6. Max: the children go from left to right. One that is below leaves its frontier to the left part; one that is not
--      hands up, and the purge removes just what is below the node.
--   7. Min: children found not below cost nothing. The ready child runs; if it is not below, the next sibling goes
--      LIVE, and all behind that are untouched.
--   8. The next test is the root's high, which bounds the frontier again (Run).
use Rattle.prelude.proofs.{ℕ, suc, ◌+◌, ◌≤◌, ◌<◌, min, le_refl, add_assoc, arith, ◌≡◌, refl, ap, subst, inl, inr, true}
use Rattle.prelude.proofs.{false, not, some, List, [], ◌∷◌, ◌++◌, append_assoc, ltb, ltb-true, leb-true, leb-false}
use Rattle.prelude.proofs.{not-true, not-false}
use Rattle.lists.specs.{All}
use Rattle.gametree.specs.declared.Side.{Side}
use Rattle.gametree.specs.declared.Side.TheVariants.{Max, Min}
use Rattle.gametree.specs.{Tree, leaf, inner, Children, last, ◌then◌, greatest, number, InChildren, Scored}
use Rattle.gametree.specs.{ScoredChildren, Memo, MemoChildren, memo_high_children, Pass, PassChildren, entered, pass}
use Rattle.gametree.specs.{pass_children, fresh_children, under, first_of, subtree_at, link_in, above_in, State}
use Rattle.gametree.specs.{live, solved}
use Rattle.gametree.specs.{quiet, step}
use Rattle.gametree_theory.proofs.Sss.Lookups.{Answers, AnswersChildren}
use Rattle.lists.proofs.Choice.{cond_cases, true-not-false}
use Rattle.lists.proofs.Lists.{all_left, all_right, all_map}
use Rattle.gametree_theory.proofs.Mtd.Sound.{Kept, KeptChildren}
use Rattle.gametree_theory.proofs.Sss.Steps.{Steps, done, quietly, evaluates, allow, spare, chain, then-quiet}
use Rattle.gametree_theory.proofs.Sss.Steps.{purge-left, purge-right}
use Rattle.gametree_theory.proofs.Sss.Frontier.{AtMost, frontier, frontier_children, Fitted, FittedChildren}
use Rattle.gametree_theory.proofs.Sss.Frontier.{states}
use Rattle.gametree_theory.proofs.Sss.Frontier.{states_children, kids-fresh, fitted-fresh, fitted-ready}
use Rattle.gametree_theory.proofs.Sss.Frontier.{states-fresh, states-ready, fresh-at_most, not_below-again}
use Rattle.gametree_theory.proofs.Sss.Frontier.{fresh-not-below, first-least, first-outdone, next}
use Rattle.gametree_theory.proofs.Sss.Around.{frontier-nodes, states_children-nodes, AroundTree, AroundChildren}
use Rattle.gametree_theory.proofs.Sss.Around.{narrow}
use Rattle.gametree_theory.proofs.Sss.Around.{around-first, around-rest, handed, handed-clear}
use Rattle.gametree_theory.proofs.Sss.Around.{takes-leaf, takes-inner, takes-max, takes-last, takes-next}
use Rattle.gametree_theory.proofs.Sss.Work.{full_children, part, part_children, work, work_children, work-fresh}
use Rattle.gametree_theory.proofs.Sss.Work.{work-ready}
use Rattle.gametree_theory.proofs.Sss.Work.{work-positive}

-- SSS* does what a pass does at a node, whose states are F: found below, they become the node's frontier; found not
-- below, the node SOLVED. The number a bounds the replacements, with what is then left to do; B is for those elsewhere.
pub record Sim (ν : ℕ → ℕ) (T : Tree) (γ : ℕ) (t : Tree) (a : ℕ) (F L R : List State) (r : Pass t) : Type 0 where
  pub below : (B : ℕ) → r.not_below ≡ false
      → Steps ν T (a + B) (L ++ (F ++ R)) r.evaluated (L ++ (frontier ν t r.next ++ R)) (part ν t r.next + B)
  pub above : (B : ℕ) → r.not_below ≡ true
      → Steps ν T (a + B) (L ++ (F ++ R)) r.evaluated (L ++ (solved (number t) γ ∷ R)) B

-- the same at the children of the node n: found not below, they have handed up, and n is SOLVED
pub record SimChildren (ν : ℕ → ℕ) (T : Tree) (γ n : ℕ) (s : Side) (ks : Children) (a : ℕ) (F L R : List State)
    (q : PassChildren ks) : Type 0 where
  pub below : (B : ℕ) → q.not_below ≡ false
      → Steps ν T (a + B) (L ++ (F ++ R)) q.evaluated (L ++ (frontier_children ν s ks q.next ++ R))
      (part_children ν s ks q.next + B)
  pub above : (B : ℕ) → q.not_below ≡ true
      → Steps ν T (a + B) (L ++ (F ++ R)) q.evaluated (handed s T n L ++ (solved n γ ∷ handed s T n R)) B

-- the replacement of a LIVE inner node comes first
enter : {ν : ℕ → ℕ} {T : Tree} (x B : ℕ) {b : ℕ} {L M N : List State} {w : List ℕ} → step ν T L ≡ quiet M
    → Steps ν T (x + B) M w N b → Steps ν T (suc x + B) L w N b
enter x B e p = let less : x + B < suc x + B = omega arith in quietly e less p

-- handing up comes last
hand-up : {ν : ℕ → ℕ} {T : Tree} (x B : ℕ) {L M N : List State} {w : List ℕ} → ((C : ℕ) → Steps ν T (x + C) L w M C)
    → step ν T M ≡ quiet N → Steps ν T (suc x + B) L w N B
hand-up x B p e =
    let more : x + suc B ≤ suc x + B = omega arith in
    allow more (then-quiet (p (suc B)) (le_refl _) e)

module _ (ν : ℕ → ℕ) (T : Tree) (γ : ℕ) (g : γ ≤ greatest) where
  -- STEP 5. A LEAF

  -- LIVE, it is evaluated; SOLVED, nothing is done
  sim-leaf : (n : ℕ) (m : Memo (leaf n)) (w : Fitted ν γ (leaf n) m) → subtree_at n T ≡ leaf n
      → AtMost γ (states ν γ (leaf n) m w) → (L R : List State) → AroundTree T γ (leaf n) L R
      → Sim ν T γ (leaf n) (work ν γ (leaf n) m w) (states ν γ (leaf n) m w) L R (pass ν γ (leaf n) m)
  sim-leaf n m (inl e) p b L R a =
      let f : m.evaluated ≡ false = ap (λ (x : Memo (leaf n)). x.evaluated) e in
      let taken = takes-leaf ν T γ (leaf n) L R a n p in
      rw f (record {
        below = λ B d.
            let h : min γ (ν n) ≡ ν n = omega (arith, leb-false γ (ν n) d) in
            let less : B < 1 + B = omega arith in
            let rest : 0 + B ≤ B = omega arith in
            evaluates (rw h at taken) less (done rest);
        above = λ B d.
            let h : min γ (ν n) ≡ γ = omega (arith, leb-true γ (ν n) d) in
            let less : B < 1 + B = omega arith in
            evaluates (rw h at taken) less (done (le_refl B));
      })
  sim-leaf n m (inr q) p b L R a =
      rw q (record {
        below = λ B d. done (le_refl _);
        above = λ B d.
            let h : ν n ≡ γ = omega (arith, leb-true γ (ν n) d, b.0) in
            let rest : B ≤ 0 + B = omega arith in
            subst (λ x. Steps ν T (0 + B) (L ++ (solved n (ν n) ∷ R)) [] (L ++ (solved n x ∷ R)) B) h (done rest);
      })

  -- AN INNER NODE

  -- one that is ready and whose high is below the test costs no step; an untouched one is entered
  sim-inner : (n : ℕ) (s : Side) (ks : Children) (m : Memo (inner n s ks)) (w : Fitted ν γ (inner n s ks) m)
      → (L R : List State) → AroundTree T γ (inner n s ks) L R
      → Sim ν T γ (inner n s ks) (work ν γ (inner n s ks) m w) (states ν γ (inner n s ks) m w) L R
      (entered n s ks (pass_children ν γ s ks m.kids))
      → Sim ν T γ (inner n s ks) (work ν γ (inner n s ks) m w) (states ν γ (inner n s ks) m w) L R
      (pass ν γ (inner n s ks) m)
  sim-inner n s ks m (inl e) L R a q =
      let P = Sim ν T γ (inner n s ks) (suc (full_children s ks)) (live n γ ∷ []) L R in
      cond_cases P (ltb (memo_high_children ν s ks m.kids) γ) _ _
      (λ l. absurd (fresh-not-below ν γ g s ks m.kids (kids-fresh n s ks e) (ltb-true _ γ l)))
      (λ _. cond_cases P m.not_below _ _
      (λ f. absurd (true-not-false f (ap (λ (x : Memo (inner n s ks)). x.not_below) e)))
      (λ _. q))
  sim-inner n s ks m (inr d) L R a q =
      let P = Sim ν T γ (inner n s ks) (part_children ν s ks m.kids) (frontier_children ν s ks m.kids) L R in
      cond_cases P (ltb (memo_high_children ν s ks m.kids) γ) _ _
      (λ _. record {
        below = λ B _. done (le_refl _);
        above = λ B e. absurd (true-not-false e refl);
      })
      (λ _. cond_cases P m.not_below _ _ (λ f. absurd (true-not-false f d.0)) (λ _. q))

  -- STEP 6. THE CHILDREN OF A MAX NODE

  -- the first by A, with the states G of its siblings behind it, the others by B
  sim-max : (n : ℕ) (t : Tree) (ts : Children) (m : MemoChildren (t then ts)) (a b : ℕ) (F G L R : List State) → 0 < b
      → link_in T (number t) ≡ under n Max (some (first_of ts)) → AroundTree T γ t L (G ++ R)
      → All (λ s. above_in T n s.node ≡ true) G
      → All (λ s. above_in T n s.node ≡ true) (frontier ν t (pass ν γ t m.first).next)
      → Sim ν T γ t a F L (G ++ R) (pass ν γ t m.first)
      → ((pass ν γ t m.first).not_below ≡ false
      → SimChildren ν T γ n Max ts b G (L ++ frontier ν t (pass ν γ t m.first).next) R
      (pass_children ν γ Max ts m.rest))
      → SimChildren ν T γ n Max (t then ts) (a + b) (F ++ G) L R (pass_children ν γ Max (t then ts) m)
  sim-max n t ts m a b F G L R pos link u gin fin A B =
      let hand = takes-max ν T γ t L (G ++ R) u n _ link in
      let F' = frontier ν t (pass ν γ t m.first).next in
      let G' = frontier_children ν Max ts (pass_children ν γ Max ts m.rest).next in
      let c = part ν t (pass ν γ t m.first).next in
      cond_cases (SimChildren ν T γ n Max (t then ts) (a + b) (F ++ G) L R) (pass ν γ t m.first).not_below _ _
      (λ e. record {
        below = λ x f. absurd (true-not-false e f);
        above = λ x f.
            rw (append_assoc F G R, add_assoc a b x)
            (rw (purge-right T n G R gin) at
            (then-quiet {c = x} (A.above (b + x) e) (omega arith) hand));
      })
      (λ e. record {
        below = λ x f.
            rw (append_assoc F G R, append_assoc F' G' R, add_assoc a b x)
            (chain (A.below (b + x) e) (omega arith)
            (spare (rw (append_assoc L F' (G ++ R), append_assoc L F' (G' ++ R)) at ((B e).below (c + x) f))
            (omega arith)));
        above = λ x f.
            rw (append_assoc F G R, add_assoc a b x)
            (chain (A.below (b + x) e) (omega arith)
            (spare {c = x} (rw (append_assoc L F' (G ++ R), purge-left T n L F' fin) at ((B e).above (c + x) f))
            (omega arith)));
      })

  -- STEP 7. THE CHILDREN OF A MIN NODE

  -- the first was found not below, and costs nothing; the others by B
  sim-min-found : (n : ℕ) (t : Tree) (ts : Children) (m : MemoChildren (t then ts)) (b : ℕ) (G L R : List State)
      → ScoredChildren ν (t then ts) → KeptChildren ν γ (t then ts) m → (pass ν γ t m.first).not_below ≡ true
      → (pass ν γ t m.first).evaluated ≡ []
      → SimChildren ν T γ n Min ts b G L R (pass_children ν γ Min ts m.rest)
      → SimChildren ν T γ n Min (t then ts) b G L R (pass_children ν γ Min (t then ts) m)
  sim-min-found n t ts m b G L R h k a v B =
      cond_cases (SimChildren ν T γ n Min (t then ts) b G L R) (not (pass ν γ t m.first).not_below) _ _
      (λ e. absurd (true-not-false a (not-true _ e)))
      (λ e. record {
        below = λ x f. rw (v, first-outdone ν γ g t ts m h k a f) (B.below x f);
        above = λ x f. rw v (B.above x f);
      })

  -- the first runs by A; if it is not below, its siblings, untouched, go on by B
  sim-min : (n : ℕ) (t : Tree) (ts : Children) (m : MemoChildren (t then ts)) (a : ℕ) (F L R : List State)
      → link_in T (number t) ≡ under n Min (some (first_of ts)) → AroundTree T γ t L R
      → ScoredChildren ν (t then ts) → KeptChildren ν γ (t then ts) m → m.rest ≡ fresh_children ts
      → Sim ν T γ t a F L R (pass ν γ t m.first)
      → SimChildren ν T γ n Min ts (full_children Min ts) (live (first_of ts) γ ∷ []) L R
      (pass_children ν γ Min ts m.rest)
      → SimChildren ν T γ n Min (t then ts) (suc a + full_children Min ts) F L R (pass_children ν γ Min (t then ts) m)
  sim-min n t ts m a F L R link u h k untouched A B =
      let b = full_children Min ts in
      cond_cases (SimChildren ν T γ n Min (t then ts) (suc a + b) F L R) (not (pass ν γ t m.first).not_below) _ _
      (λ e. record {
        below = λ x f.
            rw (first-least ν γ g t ts m h k f untouched)
            (allow (omega arith) (spare (A.below (suc b + x) f) (omega arith)));
        above = λ x f. absurd (true-not-false f (not-true _ e));
      })
      (λ e.
      let d = not-false _ e in
      let next_live = takes-next ν T γ t L R u n (first_of ts) link in
      record {
        below = λ x f.
            rw (first-outdone ν γ g t ts m h k d f)
            (chain (then-quiet {c = b + x} (allow {c = suc a + b + x} (omega arith) (A.above (suc b + x) d))
            (omega arith) next_live) (le_refl _) (B.below x f));
        above = λ x f.
            chain (then-quiet {c = b + x} (allow {c = suc a + b + x} (omega arith) (A.above (suc b + x) d))
            (omega arith) next_live) (le_refl _) (B.above x f);
      })

  -- ALL NODES

  mutual
    -- one pass of MTD at a node is a run of SSS* over its states
    pub sim : (t : Tree) (m : Memo t) (w : Fitted ν γ t m) → Answers T t → Scored ν t → Kept ν γ t m
        → AtMost γ (states ν γ t m w) → (L R : List State) → AroundTree T γ t L R
        → Sim ν T γ t (work ν γ t m w) (states ν γ t m w) L R (pass ν γ t m)
    sim (leaf n) m w p h k b L R a = sim-leaf n m w p b L R a
    sim (inner n s ks) m (inl e) p h k b L R a =
        let f = kids-fresh n s ks e in
        let E = states-fresh ν γ s ks m.kids f in
        let W = work-fresh ν γ s ks m.kids f in
        let C = handed-clear T γ n s ks L R a in
        let S =
        sim_children n s ks m.kids (fitted-fresh ν γ s ks m.kids f) p.2 h k.1
        (fresh-at_most ν γ s ks m.kids f)
        p.1 L R (narrow (λ p i. inr i) a) in
        let entry = takes-inner ν T γ (inner n s ks) L R a n s ks p.0 in
        sim-inner n s ks m (inl e) L R a
        (record {
          below = λ x d. enter (full_children s ks) x entry (rw (E, W) at (S.below x d));
          above = λ x d. enter (full_children s ks) x entry (rw (E, W, C.0, C.1) at (S.above x d));
        })
    sim (inner n s ks) m (inr r) p h k b L R a =
        let E = states-ready ν γ s ks m.kids r.1 in
        let W = work-ready ν γ s ks m.kids r.1 in
        let C = handed-clear T γ n s ks L R a in
        let S =
        sim_children n s ks m.kids (fitted-ready ν γ s ks m.kids r.1) p.2 h k.1 (rw E b) p.1 L R
        (narrow (λ p i. inr i) a) in
        sim-inner n s ks m (inr r) L R a
        (record {
          below = λ x d. rw (E, W) at (S.below x d);
          above = λ x d. rw (E, W, C.0, C.1) at (S.above x d);
        })

    sim_children : (n : ℕ) (s : Side) (ks : Children) (m : MemoChildren ks) (w : FittedChildren ν γ s ks m)
        → AnswersChildren T n s ks
        → ScoredChildren ν ks → KeptChildren ν γ ks m → AtMost γ (states_children ν γ s ks m w)
        → ((p : ℕ) → InChildren p ks → above_in T n p ≡ true) → (L R : List State) → AroundChildren T γ ks L R
        → SimChildren ν T γ n s ks (work_children ν γ s ks m w) (states_children ν γ s ks m w) L R
        (pass_children ν γ s ks m)
    sim_children n s (last t) m w p h k b i L R a =
        let S = sim t m w p.1 h k b L R a in
        let hand = takes-last ν T γ t L R a s n p.0 in
        record {
          below = λ x d. allow (omega arith) (spare (S.below (suc x) d) (omega arith));
          above = λ x d. hand-up (work ν γ t m w) x (λ c. S.above c d) hand;
        }
    sim_children n Max (t then ts) m w p h k b i L R a =
        let F = states ν γ t m.first w.0 in
        let G = states_children ν γ Max ts m.rest w.1 in
        let F' = frontier ν t (pass ν γ t m.first).next in
        let b_f = all_left _ F G b in
        let b_g = all_right _ F G b in
        let gin = states_children-nodes ν γ Max ts m.rest w.1 in
        let fin = frontier-nodes ν t (pass ν γ t m.first).next in
        let N = next ν γ g t m.first w.0 h.0 k.0 b_f in
        let u = around-first T γ t ts L R p.1 a G b_g gin in
        let lower = all_map _ _ (λ s j. i s.node (inl j)) F' fin in
        sim-max n t ts m (work ν γ t m.first w.0) (work_children ν γ Max ts m.rest w.1) F G L R
        (work-positive ν γ Max ts m.rest w.1) p.0 u
        (all_map _ _ (λ s j. i s.node (inr j)) G gin) lower
        (sim t m.first w.0 p.2 h.0 k.0 b_f L (G ++ R) u)
        (λ e. sim_children n Max ts m.rest w.1 p.3 h.1 k.1 b_g (λ x j. i x (inr j)) (L ++ F') R
        (around-rest T γ t ts L R p.1 a F' (N e).1 fin))
    sim_children n Min (t then ts) m (inl w) p h k b i L R a =
        let A = not_below-again ν γ t m.first h.0 k.0 w.0 in
        sim-min-found n t ts m (work_children ν γ Min ts m.rest w.1) (states_children ν γ Min ts m.rest w.1)
        L R h k
        A.0 A.1
        (sim_children n Min ts m.rest w.1 p.3 h.1 k.1 b (λ x j. i x (inr j)) L R
        (narrow (λ p i. inr i) a))
    sim_children n Min (t then ts) m (inr w) p h k b i L R a =
        let f = w.1 in
        let B =
        sim_children n Min ts m.rest (fitted-fresh ν γ Min ts m.rest f) p.3 h.1 k.1
        (fresh-at_most ν γ Min ts m.rest f) (λ x j. i x (inr j)) L R (narrow (λ p i. inr i) a) in
        let E = states-fresh ν γ Min ts m.rest f in
        let W = work-fresh ν γ Min ts m.rest f in
        let u : AroundTree T γ t L R = narrow (λ p i. inl i) a in
        sim-min n t ts m (work ν γ t m.first w.0) (states ν γ t m.first w.0) L R p.0 u
        h k f
        (sim t m.first w.0 p.2 h.0 k.0 b L R u)
        (record { below = λ x d. rw (E, W) at (B.below x d); above = λ x d. rw (E, W) at (B.above x d) })
