-- The root move of SSS*: the child whose SOLVED state makes a Max root SOLVED is the first child with the root's value.
-- In the pass of MTD that settles the root, the elder siblings of that child are found below the test.
use Rattle.prelude.proofs.{ℕ, zero, suc, ◌≤◌, ◌<◌, le_refl, arith, ◌≡◌, refl, sym, ◌∙◌, ap, subst, inl, inr, Bool, true}
use Rattle.prelude.proofs.{false, ltb, Option, none, some, List, [], ◌∷◌, ◌++◌, append_assoc, append-nil, eq-eqb}
use Rattle.prelude.proofs.{ne_eqb}
use Rattle.lists.specs.{All}
use Rattle.gametree.specs.declared.Side.TheVariants.{Max, Min}
use Rattle.gametree.specs.{Tree, leaf, inner, Children, last, ◌then◌, greatest, minimax, minimax_children, number}
use Rattle.gametree.specs.{InChildren, Scored, ScoredChildren, Proper, first_with, root_move_of, under, first_of}
use Rattle.gametree.specs.{subtree_at}
use Rattle.gametree.specs.{link_in, above_in, Memo, MemoChildren, memo_high, memo_high_children, Pass, PassChildren}
use Rattle.gametree.specs.{pass}
use Rattle.gametree.specs.{pass_children, fresh, State, solved, stop, step, start, ListAfter, at_start, after_quiet}
use Rattle.gametree.specs.{after_evaluating}
use Rattle.lists.proofs.Choice.{cond_cases, true-not-false, clash}
use Rattle.lists.proofs.Lists.{all_left, all_right, all_append, all_map}
use Rattle.gametree_theory.proofs.Mtd.Sound.{memo_low-minimax, minimax-memo_high, Kept, KeptChildren, sound}
use Rattle.gametree_theory.proofs.Mtd.Value.{kept-lower, fresh_kept}
use Rattle.gametree_theory.proofs.Minimax.Bounds.{minimax-score}
use Rattle.gametree_theory.proofs.Sss.Lookups.{Answers, AnswersChildren}
use Rattle.gametree_theory.proofs.Sss.OwnNodes.{own-answers}
use Rattle.gametree_theory.proofs.Sss.Steps.{Steps, done, quietly, evaluates, purge-left}
use Rattle.gametree_theory.proofs.Sss.Frontier.{AtMost, Below, frontier, Fitted, FittedChildren, ready-lower}
use Rattle.gametree_theory.proofs.Sss.Frontier.{states, states_children, kids-fresh, fitted-fresh, fitted-ready}
use Rattle.gametree_theory.proofs.Sss.Frontier.{states-fresh, states-ready, fresh-at_most, next, next-high}
use Rattle.gametree_theory.proofs.Sss.Around.{frontier-nodes, states_children-nodes, AroundTree, AroundChildren}
use Rattle.gametree_theory.proofs.Sss.Around.{narrow, around-first, around-rest, takes-inner, takes-max}
use Rattle.gametree_theory.proofs.Sss.Work.{work}
use Rattle.gametree_theory.proofs.Sss.Simulation.{Sim, sim}
use Rattle.gametree_theory.proofs.Sss.Run.{alone, root-stops}
use Rattle.gametree_theory.proofs.Sss.FrontSteps.{front-in, front-reached}
use Rattle.gametree_theory.proofs.Results.Merits.{list-unique}
use Rattle.gametree_theory.proofs.Allowance.Ending.{stopped}

-- SSS*, where it reaches the list L, reaches the list N
abbrev Leads : (ν : ℕ → ℕ) → Tree → List State → List State → Type 0
Leads ν T L N = (k : ℕ) (w : List ℕ) → ListAfter ν T k w L → (j : ℕ) × (v : List ℕ) × ListAfter ν T j v N

-- steps lead from list to list
steps-lead : {ν : ℕ → ℕ} {T : Tree} {a b : ℕ} {L N : List State} {w : List ℕ} → Steps ν T a L w N b → Leads ν T L N
steps-lead (done h) k v r = (k, v, r)
steps-lead (quietly e h p) k v r = steps-lead p (suc k) v (after_quiet r e)
steps-lead (evaluates {n = n} e h p) k v r = steps-lead p (suc k) (v ++ (n ∷ [])) (after_evaluating r e)

-- each state of the list is below the node n
abbrev AllUnder : Tree → ℕ → List State → Type 0
AllUnder T n L = All (λ s. above_in T n s.node ≡ true) L

-- from the list M a list is reached on which the child c of the Max node n, SOLVED with the merit γ, is taken, and all
-- other states are below n
record Hands (ν : ℕ → ℕ) (T : Tree) (γ n c : ℕ) (M : List State) : Type 0 where
  child : Tree
  number_is : number child ≡ c
  sibling : Option ℕ
  link : link_in T (number child) ≡ under n Max sibling
  left : List State
  right : List State
  leads : Leads ν T M (left ++ (solved (number child) γ ∷ right))
  around : AroundTree T γ child left right
  under_left : AllUnder T n left
  under-right : AllUnder T n right

-- and from a list that leads to M
earlier : {ν : ℕ → ℕ} {T : Tree} {γ n c : ℕ} {L M : List State} → Leads ν T L M → Hands ν T γ n c M → Hands ν T γ n c L
earlier f H =
    record {
      child = H.child;
      number_is = H.number_is;
      sibling = H.sibling;
      link = H.link;
      left = H.left;
      right = H.right;
      leads = λ j y r. let z = f j y r in H.leads z.0 z.1 z.2;
      around = H.around;
      under_left = H.under_left;
      under-right = H.under-right;
    }

module _ (ν : ℕ → ℕ) (T : Tree) (γ : ℕ) (g : γ ≤ greatest) where
  -- a child that is found not below, with the value γ, hands up
  hands-up : (n : ℕ) (t : Tree) (a : ℕ) (F L R : List State) (r : Pass t) (x : Option ℕ)
      → link_in T (number t) ≡ under n Max x → AroundTree T γ t L R → AllUnder T n L → AllUnder T n R
      → Sim ν T γ t a F L R r → r.not_below ≡ true → Hands ν T γ n (number t) (L ++ (F ++ R))
  hands-up n t a F L R r x l u u_l u_r S e =
      record {
        child = t;
        number_is = refl;
        sibling = x;
        link = l;
        left = L;
        right = R;
        leads = steps-lead (S.above 0 e);
        around = u;
        under_left = u_l;
        under-right = u_r;
      }

  -- the first of several, with the states G of its siblings behind it, by A; the others by B
  hands-max : (n : ℕ) (t : Tree) (ts : Children) (m : MemoChildren (t then ts)) (a : ℕ) (F G L R : List State)
      → link_in T (number t) ≡ under n Max (some (first_of ts)) → AroundTree T γ t L (G ++ R) → AllUnder T n L
      → AllUnder T n (G ++ R) → Scored ν t → Kept ν γ t m.first → minimax ν t ≤ γ
      → Sim ν T γ t a F L (G ++ R) (pass ν γ t m.first)
      → ((pass ν γ t m.first).not_below ≡ false → (pass_children ν γ Max ts m.rest).not_below ≡ true
      → Hands ν T γ n (first_with (minimax ν) γ ts) ((L ++ frontier ν t (pass ν γ t m.first).next) ++ (G ++ R)))
      → (pass_children ν γ Max (t then ts) m).not_below ≡ true
      → Hands ν T γ n (first_with (minimax ν) γ (t then ts)) (L ++ ((F ++ G) ++ R))
  hands-max n t ts m a F G L R link u u_l u_r h k top A B =
      let s = sound ν γ t m.first h k in
      let x = (pass ν γ t m.first).next in
      let F' = frontier ν t x in
      cond_cases (λ (q : PassChildren (t then ts)). q.not_below ≡ true
      → Hands ν T γ n (first_with (minimax ν) γ (t then ts)) (L ++ ((F ++ G) ++ R)))
      (pass ν γ t m.first).not_below _ _
      (λ e _.
      let v : minimax ν t ≡ γ = omega (arith, s.above e, memo_low-minimax ν t x) in
      rw (eq-eqb (minimax ν t) γ v, append_assoc F G R)
      (hands-up n t a F L (G ++ R) (pass ν γ t m.first) _ link u u_l u_r A e))
      (λ e f.
      let v : minimax ν t < γ = omega (arith, s.below e, minimax-memo_high ν t x h) in
      rw (ne_eqb (minimax ν t) γ (λ z. omega (arith, z)), append_assoc F G R)
      (earlier (λ j y r.
      let z = steps-lead (A.below 0 e) j y r in
      (z.0, z.1, rw (append_assoc L F' (G ++ R)) z.2)) (B e f)))

  -- so it is the first child whose value is the test, which no child's value exceeds
  hands : (n : ℕ) (ks : Children) (m : MemoChildren ks) (w : FittedChildren ν γ Max ks m)
      → AnswersChildren T n Max ks → ScoredChildren ν ks → KeptChildren ν γ ks m
      → AtMost γ (states_children ν γ Max ks m w)
      → ((p : ℕ) → InChildren p ks → above_in T n p ≡ true) → (L R : List State) → AroundChildren T γ ks L R
      → AllUnder T n L → AllUnder T n R
      → minimax_children ν Max ks ≤ γ → (pass_children ν γ Max ks m).not_below ≡ true
      → Hands ν T γ n (first_with (minimax ν) γ ks) (L ++ (states_children ν γ Max ks m w ++ R))
  hands n (last t) m w p h k b i L R a u_l u_r top e =
      let s = sound ν γ t m h k in
      let v : minimax ν t ≡ γ = omega (arith, s.above e, memo_low-minimax ν t (pass ν γ t m).next) in
      rw (eq-eqb (minimax ν t) γ v)
      (hands-up n t _ (states ν γ t m w) L R (pass ν γ t m) none p.0 a u_l u_r
      (sim ν T γ g t m w p.1 h k b L R a) e)
  hands n (t then ts) m w p h k b i L R a u_l u_r top e =
      let F = states ν γ t m.first w.0 in
      let G = states_children ν γ Max ts m.rest w.1 in
      let F' = frontier ν t (pass ν γ t m.first).next in
      let b_f = all_left _ F G b in
      let b_g = all_right _ F G b in
      let gin = states_children-nodes ν γ Max ts m.rest w.1 in
      let fin = frontier-nodes ν t (pass ν γ t m.first).next in
      let u = around-first T γ t ts L R p.1 a G b_g gin in
      let lower = all_map _ _ (λ s j. i s.node (inl j)) F' fin in
      hands-max n t ts m (work ν γ t m.first w.0) F G L R p.0 u u_l
      (all_append _ G R (all_map _ _ (λ s j. i s.node (inr j)) G gin) u_r) h.0 k.0 (omega arith)
      (sim ν T γ g t m.first w.0 p.2 h.0 k.0 b_f L (G ++ R) u)
      (λ e f.
      hands n ts m.rest w.1 p.3 h.1 k.1 b_g (λ y j. i y (inr j)) (L ++ F') R
      (around-rest T γ t ts L R p.1 a F' (next ν γ g t m.first w.0 h.0 k.0 b_f e).1 fin)
      (all_append _ L F' u_l lower) u_r (omega arith) f) e

-- a tree whose root is a Max node
module _ (ν : ℕ → ℕ) (n : ℕ) (ks : Children) (p : Answers (inner n Max ks) (inner n Max ks)) (h : ScoredChildren ν ks)
  where
    abbrev T : Tree
    T = inner n Max ks

    -- the pass that settles the root enters it, since no pass found it not below before
    module _ (γ : ℕ) (g : γ ≤ greatest) (m : Memo T) (k : Kept ν γ T m) (top : minimax ν T ≤ γ) where
      abbrev HandsFrom : List State → Type 0
      HandsFrom M = Hands ν T γ n (first_with (minimax ν) γ ks) M

      not_found : Fitted ν γ T m → m.not_below ≡ false
      not_found (inl e) = ap (λ (x : Memo T). x.not_below) e
      not_found (inr r) = r.0

      kids-hand : (v : FittedChildren ν γ Max ks m.kids) → AtMost γ (states_children ν γ Max ks m.kids v)
          → (pass_children ν γ Max ks m.kids).not_below ≡ true
          → HandsFrom (states_children ν γ Max ks m.kids v ++ [])
      kids-hand v a e =
          hands ν T γ g n ks m.kids v p.2 h k.1 a p.1 [] [] (narrow (λ p i. inr i) (alone γ T)) tt tt top e

      -- a LIVE root is replaced first
      enters : (v : Fitted ν γ T m) → AtMost γ (states ν γ T m v) → (pass_children ν γ Max ks m.kids).not_below ≡ true
          → HandsFrom (states ν γ T m v)
      enters (inl d) a e =
          let f = kids-fresh n Max ks d in
          let E = states-fresh ν γ Max ks m.kids f in
          let entry = takes-inner ν T γ T [] [] (alone γ T) n Max ks p.0 in
          earlier (λ j y r. (suc j, y, rw E (after_quiet r entry)))
          (kids-hand (fitted-fresh ν γ Max ks m.kids f) (fresh-at_most ν γ Max ks m.kids f) e)
      enters (inr r) a e =
          let E = states-ready ν γ Max ks m.kids r.1 in
          rw (E, append-nil (frontier ν T m)) at (kids-hand (fitted-ready ν γ Max ks m.kids r.1) (rw E a) e)

      settles : (w : Fitted ν γ T m) → AtMost γ (states ν γ T m w) → (pass ν γ T m).not_below ≡ true
          → HandsFrom (states ν γ T m w)
      settles w b =
          let P : Pass T → Type 0 = λ r. r.not_below ≡ true → HandsFrom (states ν γ T m w) in
          cond_cases P (ltb (memo_high_children ν Max ks m.kids) γ) _ _ (λ _ e. absurd (true-not-false e refl))
          (λ _. cond_cases P m.not_below _ _ (λ f _. absurd (true-not-false f (not_found w))) (λ _ e. enters w b e))

    -- the passes before it lead to its states
    run-hands : (f γ : ℕ) (m : Memo T) (w : Fitted ν γ T m) → Kept ν γ T m → γ ≤ greatest
        → AtMost γ (states ν γ T m w) → minimax ν T ≤ γ → γ < f
        → (v : ℕ) × Hands ν T v n (root_move_of ν T) (states ν γ T m w)
    run-hands zero γ m w k g b top l = absurd (omega (arith, l))
    run-hands (suc f) γ m w k g b top l =
        let s = sound ν γ T m h k in
        let x = (pass ν γ T m).next in
        cond_cases (λ (_ : Bool). (v : ℕ) × Hands ν T v n (root_move_of ν T) (states ν γ T m w))
        (pass ν γ T m).not_below
        true false
        (λ e.
        let v : γ ≡ minimax ν T = omega (arith, s.above e, memo_low-minimax ν T x) in (
          γ,
          subst (λ x. Hands ν T γ n (first_with (minimax ν) x ks) (states ν γ T m w)) v
              (settles γ g m k top w b e),
        ))
        (λ e.
        let S = sim ν T γ g T m w p h k b [] [] (alone γ T) in
        let d = s.below e in
        let N = next ν γ g T m w h k b e in
        let r =
        run-hands f (memo_high ν T x) x (inr (ready-lower ν T x (omega arith) N.0))
        (kept-lower ν T x (omega arith) s.kept) (omega arith) (next-high ν γ g T m w h k b e)
        (minimax-memo_high ν T x h) (omega arith) in (
          r.0,
          earlier (steps-lead (rw (append-nil (states ν γ T m w), append-nil (frontier ν T x)) at (S.below 0 e)))
              r.1,
        ))

    -- so from the start
    start-hands : (v : ℕ) × Hands ν T v n (root_move_of ν T) (start T)
    start-hands =
        run-hands (suc greatest) greatest (fresh T) (inl refl) (fresh_kept ν greatest T) (le_refl greatest)
        (le_refl greatest, tt) (omega (arith, (minimax-score ν T h).1)) (omega arith)

-- the first state of greatest merit on a list is one state only
first-greatest : (A : List State) (s : State) (B : List State) (C : List State) (x : State) (D : List State)
    → A ++ (s ∷ B) ≡ C ++ (x ∷ D) → Below s.merit A → AtMost s.merit B → Below x.merit C
    → AtMost x.merit D → s ≡ x
first-greatest [] s B [] x D e a b c d = cc
first-greatest [] s B (y ∷ C) x D e a b c d =
    let z : s ≡ y = cc in
    let r : B ≡ C ++ (x ∷ D) = cc in
    let i = (all_right (λ v. v.merit ≤ s.merit) C (x ∷ D) (rw r at b)).0 in
    absurd (omega (arith, i, c.0, ap (λ v. v.merit) z))
first-greatest (y ∷ A) s B [] x D e a b c d =
    let z : y ≡ x = cc in
    let r : A ++ (s ∷ B) ≡ D = cc in
    let i = (all_right (λ v. v.merit ≤ x.merit) A (s ∷ B) (rw (← r) at d)).0 in
    absurd (omega (arith, i, a.0, ap (λ v. v.merit) z))
first-greatest (y ∷ A) s B (z ∷ C) x D e a b c d =
    let r : A ++ (s ∷ B) ≡ C ++ (x ∷ D) = cc in
    first-greatest A s B C x D r a.1 b c.1 d

module _ (ν : ℕ → ℕ) (n : ℕ) (ks : Children) (r : Proper ν (inner n Max ks)) where
  max-move : {k x : ℕ} {w u : List ℕ} (A : List State) (s : State) (B : List State) {M : List State}
      → ListAfter ν (inner n Max ks) k w (A ++ (s ∷ B)) → Below s.merit A → AtMost s.merit B
      → ListAfter ν (inner n Max ks) (suc k) u M → step ν (inner n Max ks) M ≡ stop x
      → s.node ≡ root_move_of ν (inner n Max ks)
  max-move {k} {x} {w} {u} A s B {M} q a b l e =
      let T = inner n Max ks in
      let z = start-hands ν n ks (own-answers T r.distinct) r.scored in
      let v = z.0 in
      let H = z.1 in
      let y = H.leads 0 [] at_start in
      let f = takes-max ν T v H.child H.left H.right H.around n H.sibling H.link in
      let f₁ = rw (purge-left T n [] H.left H.under_left, purge-left T n [] H.right H.under-right) at f in
      let o = stopped ν T r (after_quiet y.2 f₁) (root-stops ν T v) in
      let i : suc y.0 ≡ suc k = ap (λ x. x.replacements) (sym o ∙ stopped ν T r l e) in
      let j : y.0 ≡ k = omega (arith, i) in
      let c = solved (number H.child) v in
      let m = (list-unique ν T q (subst (λ c'. ListAfter ν T c' y.1 (H.left ++ (c ∷ H.right))) j y.2)).1 in
      ap (λ c. c.node) (first-greatest A s B H.left c H.right m a b H.around.less H.around.no_more)
      ∙ H.number_is

-- Max moves at the root; where the root is a leaf, its number is 0
abbrev pub MaxRoot : Tree → Type 0
MaxRoot (leaf n) = n ≡ 0
MaxRoot (inner n s ks) = s ≡ Max

-- where the root is taken SOLVED, the state replaced before it was that of the root move
pub last-move : (ν : ℕ → ℕ) (t : Tree) → Proper ν t → MaxRoot t → {k x : ℕ} {w u : List ℕ} (A : List State) (s : State)
    (B : List State) {M : List State} → ListAfter ν t k w (A ++ (s ∷ B)) → Below s.merit A → AtMost s.merit B
    → ListAfter ν t (suc k) u M → step ν t M ≡ stop x → s.node ≡ root_move_of ν t
last-move ν (leaf n) r z A s B q a b l e =
    (all_right (λ y. y.node ≡ n) A (s ∷ B)
    (front-in (leaf n) (A ++ (s ∷ B)) (front-reached ν (leaf n) (own-answers (leaf n) r.distinct) q))).0 ∙ z
last-move ν (inner n Max ks) r z A s B q a b l e = max-move ν n ks r A s B q a b l e
last-move ν (inner n Min ks) r z A s B q a b l e = clash (cc)

-- the start does not stop
pub start-goes : (ν : ℕ → ℕ) (t : Tree) {x : ℕ} → step ν t (start t) ≡ stop x → ⊥
start-goes ν t e = by-tree (subtree_at (number t) t) refl
  where
    by-tree : (u : Tree) → subtree_at (number t) t ≡ u → ⊥
    by-tree (leaf n) i = clash (cc)
    by-tree (inner n Max ks) i = clash (cc)
    by-tree (inner n Min ks) i = clash (cc)
